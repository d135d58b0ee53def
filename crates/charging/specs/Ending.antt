-- How a unit ended, and the state that it left, whose PSW is of the run's architecture.
use Rattle.std.specs.Prelude.{Bool, true, false}
use Rattle.machine.specs.declared.Cpu.{Cpu}
use Rattle.machine.specs.declared.End.{End}
use Rattle.machine.specs.declared.End.TheVariants as end
use Rattle.interruptions.specs.declared.Event.{Event}
use Rattle.interruptions.specs.declared.Event.TheVariants.{Completed, Intercepted, Faulted}

unfoldable pub is_completed : Event → Bool
is_completed Completed = true
is_completed (Intercepted r) = false
is_completed (Faulted f) = false

-- how an exit ends the run
unfoldable pub end_of : Event → End
end_of Completed = end.BudgetUsed
end_of (Intercepted r) = end.Intercepted r
end_of (Faulted f) = end.HostFault f

-- a state with a PSW of this architecture: the record has no other place for it than the mode
abbrev pub of_mode : Bool → Cpu → Cpu
of_mode system370 c = record {
  psw = record { left = c.psw.left; right = c.psw.right; system370 = system370 };
  timer = c.timer;
  control = c.control;
  general = c.general;
}

-- a state as that of a 370-XA guest
abbrev pub of_xa : Cpu → Cpu
of_xa c = of_mode false c
