-- The bytes of an entry as a number, the first in the lowest place, and the lowest number whose test is false.
use Rattle.std.specs.Prelude.{ℕ, ◌+◌, ◌*◌, ◌<◌, ◌≡◌, Bool, List, Option, Some, None}
use Rattle.machine.specs.Words.{byte_at}
use Rattle.desk.proofs.Surveys.{AllPass, FirstFails}

-- four bytes from a place on, the first in the lowest place of a number
pub record Bytes (s : List ℕ) (a number : ℕ) : Type 0 where
  pub is : number ≡ byte_at s a + byte_at s (a + 1) * 256 + byte_at s (a + 2) * 65536 + byte_at s (a + 3) * 16777216
  pub first : byte_at s a < 256
  pub second : byte_at s (a + 1) < 256
  pub third : byte_at s (a + 2) < 256
  pub fourth : byte_at s (a + 3) < 256

-- of the numbers from one up to another the lowest whose test is false, or none
abbrev pub Lowest : (ℕ → Bool) → ℕ → ℕ → Option ℕ → Type 0
Lowest test from to None = AllPass test from to
Lowest test from to (Some number) = FirstFails test from to number
