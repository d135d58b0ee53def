-- How a run from a state in hand ends.
use Rattle.std.specs.Prelude.{ℕ, ◌≡◌, List}
use Rattle.machine.specs.declared.Cpu.{Cpu}
use Rattle.machine.specs.declared.Guest.{Guest}
use Rattle.machine.specs.declared.Numbers.{Numbers}
use Rattle.machine.specs.Run.{Ended as Run, run}
use Rattle.remaining.specs.Remaining.{record_at, machine_at, OfGuest}
use Rattle.run.specs.declared.Ended.{Ended}

-- how the definition's run ended is what the code has
pub record Ends (e : Run) (g : Guest) (d : List ℕ) (r : Ended) (storage keys : List ℕ) : Type 0 where
  pub end : e.end ≡ r.end
  pub units : e.units ≡ r.units
  pub description : e.machine.description ≡ record_at g d r.cpu r.request r.residue
  pub bytes : e.machine.storage ≡ storage
  pub marks : e.machine.keys ≡ keys

-- the run from here, for a record of this guest
abbrev pub Runs : Numbers → List ℕ → Guest → ℕ → ℕ → Cpu → ℕ → ℕ → List ℕ → List ℕ → Ended → List ℕ → List ℕ → Type 0
Runs n d g clock budget c request residue storage keys r storage' keys' =
    OfGuest g d → Ends (run budget n (machine_at g d c request residue clock storage keys)) g d r storage' keys'
