-- A unit put into effect, or, while the interval timer's word cannot be stored into, told ahead.
use Rattle.std.specs.Prelude.{ℕ, ◌≡◌, Bool, true, false, List}
use Rattle.machine.specs.declared.Cpu.{Cpu}
use Rattle.machine.specs.declared.Failure.{Failure}
use Rattle.machine.specs.declared.Guest.{Guest}
use Rattle.machine.specs.declared.Text.{Text}
use Rattle.machine.specs.Host.{Host}
use Rattle.machine.specs.Outcomes.{Outcome, Progress}
use Rattle.ahead.specs.Completing.{is_complete, WordShut}
use Rattle.interruptions.specs.declared.Done.{Done}
use Rattle.interruptions.specs.declared.Frames.{Frames}
use Rattle.interruptions.specs.After.{event_of, cpu_after, left_by, Standing, Left}

-- how the unit ends, with nothing stored or marked; the state too where it does not complete
pub record Foretold (h : Host) (c : Cpu) (o : Outcome) (d : Done) (storage keys : List ℕ) : Type 0 where
  pub event : d.event ≡ event_of o
  pub cpu : is_complete o ≡ false → left_by c d ≡ cpu_after c o
  pub bytes : storage ≡ h.storage
  pub marks : keys ≡ h.keys

-- what the code leaves of a unit, with the word shut or not
abbrev pub Comes : Bool → Host → Guest → Cpu → Outcome → Done → List ℕ → List ℕ → Type 0
Comes shut h g c o d storage keys =
    (shut ≡ false → Left h g c o d storage keys) × (shut ≡ true → (f : Failure) → WordShut g h f → Foretold h c o d storage keys)

-- so for every unit in progress that stands so
abbrev pub Tells : Bool → (Progress → Outcome) → Host → Guest → ℕ → Cpu → Text → Frames → Done → List ℕ → List ℕ → Type 0
Tells shut o h g clock c text t d storage keys = (x : Progress) → Standing h x g clock c text t → Comes shut h g c (o x) d storage keys
