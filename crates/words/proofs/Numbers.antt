-- The bytes of a number, as the library names them and as machine's Words does, and such a number stored in a part of a list.
-- Assumes nothing.
use Prim.Native.Nat.{ℕ, ◌+◌, ◌-◌, ◌≤◌}
use native.Mathlib.Omega.{arith}
use mathlib.Core.Path.{◌≡◌, ◌∙◌}
use mathlib.Core.List.{List}
use borrow.Rule.Slice.PartMut.{put_mid}
use lib.ListN.{length}
use lib.Seq.{sets}
use Rattle.std.specs.Int.{w32, w64, to_be_bytes, from_be_bytes}
use Rattle.std.proofs.lemmas.Grind.{common_steps}
use Rattle.machine.specs.Words.{word_at, double_at, word_bytes, double_bytes}
use Rattle.words.proofs.Parts.{sets_of_part}

pub word_to_bytes : (x : ℕ) → to_be_bytes w32 x ≡ word_bytes x
word_to_bytes x = grind (arith, common_steps)

pub double_to_bytes : (x : ℕ) → to_be_bytes w64 x ≡ double_bytes x
double_to_bytes x = grind (arith, common_steps)

pub word_from_bytes : (bytes : List ℕ) → from_be_bytes w32 bytes ≡ word_at bytes 0
unfolding word_at
word_from_bytes bytes = omega arith

pub double_from_bytes : (bytes : List ℕ) → from_be_bytes w64 bytes ≡ double_at bytes 0
unfolding double_at word_at
double_from_bytes bytes = omega arith

-- a part, put back with the bytes of a number
module _ (l part : List ℕ) (at x : ℕ) where
  pub word_of_part : at + 4 ≤ length l → part ≡ to_be_bytes w32 x → put_mid at (at + 4 - at) l part ≡ sets l at (word_bytes x)
  word_of_part fits same = rw (same ∙ word_to_bytes x) (sets_of_part l at (word_bytes x) fits)

  pub double_of_part : at + 8 ≤ length l → part ≡ to_be_bytes w64 x → put_mid at (at + 8 - at) l part ≡ sets l at (double_bytes x)
  double_of_part fits same = rw (same ∙ double_to_bytes x) (sets_of_part l at (double_bytes x) fits)
