-- The answer of translate from what a lookup found, and the table of a run's answer.
use Rattle.std.specs.Prelude.{ℕ, List, Err, Ok}
use Rattle.machine.specs.declared.Cpu.{Cpu}
use Rattle.machine.specs.declared.Guest.{Guest}
use Rattle.machine.specs.declared.Sought.{Sought}
use Rattle.machine.specs.declared.Translated.{Translated}
use Rattle.machine.specs.declared.Translated.TheVariants as translated
use Rattle.machine.specs.Host.{Host}
use Rattle.machine.specs.Sought.{nowhere, sought, end_sought}
use Rattle.address.specs.Touching.{Place}
use Rattle.machine.specs.Refusals.{RunAnswer}

-- what a byte comes to that was looked for at a wrapped logical address
unfoldable pub answered : Guest → Host → Cpu → ℕ → Place → Translated
answered g h c a (Ok p) = translated.Address p
answered g h c a (Err f) = translated.Failed f (sought g h c a f)

-- the table of a run's answer, in the storage that the run left
unfoldable pub answer_sought : ℕ → List ℕ → RunAnswer → Sought
answer_sought designation storage (Err number) = nowhere
answer_sought designation storage (Ok stopped) = end_sought designation storage stopped.end
