-- The interval timer's residue in units in which its word does not fall.
-- Assumes nothing.
use Prim.Native.Nat.{ℕ, ◌*◌, ◌≤◌, ◌<◌}
use native.Mathlib.Omega.{arith}
use native.Mathlib.Nat.{mul-le-mul_right}
use mathlib.Core.Path.{◌≡◌, refl}
use mathlib.Core.Bool.{Bool, true, false}
use Rattle.machine.specs.Interval.{period}
use Rattle.calm.specs.Calming.{residues}

-- the residue rises
pub residue_below : (residue time k n : ℕ) → k ≤ n → residues residue time n < period → residues residue time k < period
unfolding residues
residue_below residue time k n fewer within = let less : k * (3 * time) ≤ n * (3 * time) = mul-le-mul_right (3 * time) fewer in omega arith

-- a residue that is charged, or stays
pub residue-charged : (timed : Bool) (residue time units r : ℕ) → residue < period → (timed ≡ true → residues residue time units < period)
    → (timed ≡ true → r ≡ residues residue time units) × (timed ≡ false → r ≡ residue) → r < period
residue-charged true residue time units r small within charged = rw (charged.0 refl) (within refl)
residue-charged false residue time units r small within charged = rw (charged.1 refl) small
