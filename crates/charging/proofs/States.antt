-- The state that a unit left, by its parts.
-- Assumes nothing.
use Prim.Native.Nat.{ℕ}
use mathlib.Core.Path.{◌≡◌, refl, sym}
use mathlib.Core.Bool.{Bool}
use mathlib.Core.List.{List}
use Rattle.machine.specs.declared.Cpu.{Cpu}
use Rattle.machine.specs.Record.{with_cpu}
use Rattle.machine.specs.Psw.{with_timer}
use Rattle.machine.specs.Time.{charged}
use Rattle.charging.specs.Ending.{of_mode, of_xa}

-- the record does not tell the architectures apart but by the mode
pub record_of_xa : (c : Cpu) (r : List ℕ) → with_cpu (of_xa c) r ≡ with_cpu c r
unfolding with_cpu
record_of_xa c r = refl

-- a charge leaves the PSW as it is
pub charged_mode : (b : Bool) (c : Cpu) (time : ℕ) → (of_xa (charged (of_mode b c) time) ≡ of_xa (charged c time)) × ((charged (of_mode b c) time).psw.system370 ≡ b)
unfolding charged with_timer
charged_mode b c time = (refl, refl)

-- a state of this architecture
pub of_mode_lem : (b : Bool) (c : Cpu) → c.psw.system370 ≡ b → of_mode b c ≡ c
of_mode_lem b c same = λ i. record {
  psw = record { left = c.psw.left; right = c.psw.right; system370 = sym same i };
  timer = c.timer;
  control = c.control;
  general = c.general;
}
