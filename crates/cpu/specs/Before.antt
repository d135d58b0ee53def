-- What a unit is, by what the list before it comes to.
use Rattle.std.specs.Prelude.{ℕ}
use Rattle.machine.specs.declared.Cpu.{Cpu}
use Rattle.machine.specs.declared.Guest.{Guest}
use Rattle.machine.specs.Failures.{specification, exception_of}
use Rattle.machine.specs.Host.{Cell}
use Rattle.machine.specs.Outcomes.{Outcome, intercepted}
use Rattle.machine.specs.Interruptions.{exception}
use Rattle.machine.specs.Units.{started, instruction}
use Rattle.cpu.specs.declared.Before.{Before}
use Rattle.cpu.specs.declared.Before.TheVariants.{Ends, Malformed, Instruction}

abbrev pub unit_after : Guest → ℕ → (ℕ → Cell) → Cpu → Before → Outcome
unit_after g clock v c (Ends reason) = intercepted reason c
unit_after g clock v c Malformed = exception (started g clock v c 0) c (exception_of specification)
unit_after g clock v c Instruction = instruction (started g clock v c 1)
