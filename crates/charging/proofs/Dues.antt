-- What the interval timer's word does at the end of a unit.
-- Assumes nothing.
use Rattle.std.specs.Prelude.{Err, Ok, None, Some}
use Prim.Native.Nat.{ℕ}
use mathlib.Core.Path.{◌≡◌}
use mathlib.Core.Bool.{true}
use mathlib.Core.List.{List}
use lib.ListN.{length}
use Rattle.machine.specs.declared.Guest.{Guest}
use Rattle.machine.specs.declared.Numbers.{Numbers}
use Rattle.machine.specs.Record.{guest_of}
use Rattle.machine.specs.Interval.{active, falls}
use Rattle.machine.specs.Run.{Machine}
use Rattle.interval.specs.Standing.{Stands, InStorage, Word}
use Rattle.charging.specs.Ticking.{Due, DueFound, Reaches}

-- what the word does, found
pub due_found : (designation : ℕ) (g : Guest) (storage : List ℕ) (residue time : ℕ) → active g ≡ true → falls residue time ≡ true → (w : Word)
    → ((n : Numbers) (m : Machine) → n.designation ≡ designation → m.storage ≡ storage → guest_of m.description ≡ g → Stands n m w)
    → InStorage storage w → DueFound designation g storage residue time (Some w)
due_found designation g storage residue time on full (Ok p) stands inside = (on, full, record { stands = stands; inside = inside })
due_found designation g storage residue time on full (Err f) stands inside = (on, full, record { stands = stands; inside = inside })

-- and it lies in the storage that the unit leaves
pub reaches : (designation : ℕ) (g : Guest) (storage s : List ℕ) (residue time : ℕ) (due : Due) → DueFound designation g storage residue time due
    → length s ≡ length storage → Reaches s due
reaches designation g storage s residue time None found long = tt
reaches designation g storage s residue time (Some (Ok p)) (on, full, word) long = rw long word.inside
reaches designation g storage s residue time (Some (Err f)) found long = tt
