-- An operand whose bytes stand in one part.
-- Assumes nothing.
use Prim.Native.Nat.{ℕ, ◌+◌, ◌≤◌, ◌<◌}
use native.Mathlib.Omega.{arith}
use mathlib.Core.Path.{◌≡◌, sym, ◌∙◌}
use mathlib.Core.Bool.{Bool}
use mathlib.Core.List.{List, ◌++◌}
use lib.ListN.{length, take, drop, length-drop, get_or-append}
use lib.Seq.{length-take-le, length_front, take_at, get_or-take, get_or-drop}
use Rattle.machine.specs.Words.{byte_at, word_at, double_at}
use Rattle.machine.specs.Record.{psw_of}

-- A list whose first n elements were put back.
module _ {A : Type 0} (l p : List A) (n : ℕ) (few : n ≤ length l) (same : length p ≡ length (take n l)) where
  pub front_within : n ≤ length (p ++ drop n l)
  front_within = rw (length_front l p n same) few

  pub front_count : n ≡ length (take n (p ++ drop n l))
  front_count = sym (length-take-le n (p ++ drop n l) front_within)

  pub front_is : take n (p ++ drop n l) ≡ p
  front_is = take_at p (drop n l) n (same ∙ length-take-le n l few)

-- An operand whose first n bytes stand at a.
module _ (s tail : List ℕ) (a n : ℕ) (fits : a + n ≤ length s) where
  part_byte : (i j : ℕ) → j ≡ a + i → i < n → byte_at (take n (drop a s) ++ tail) i ≡ byte_at s j
  part_byte i j at below =
      let long : length (take n (drop a s)) ≡ n = length-take-le n (drop a s) (omega (arith, length-drop a s)) in
      get_or-append (take n (drop a s)) tail 0 i (omega arith) ∙ get_or-take n (drop a s) i 0 below ∙ rw at (get_or-drop a s i 0)

  pub part_word : (i j : ℕ) → j ≡ a + i → i + 4 ≤ n → word_at (take n (drop a s) ++ tail) i ≡ word_at s j
  unfolding word_at
  part_word i j at below =
      omega (
        arith,
        part_byte i j at (omega arith),
        part_byte (i + 1) (j + 1) (omega arith) (omega arith),
        part_byte (i + 2) (j + 2) (omega arith) (omega arith),
        part_byte (i + 2 + 1) (j + 2 + 1) (omega arith) (omega arith),
      )

  pub part_double : 8 ≤ n → double_at (take n (drop a s) ++ tail) 0 ≡ double_at s a
  unfolding double_at
  part_double long = omega (arith, part_word 0 a (omega arith) (omega arith), part_word 4 (a + 4) (omega arith) (omega arith))

  pub part_psw : (system370 : Bool) → 8 ≤ n → psw_of system370 (take n (drop a s) ++ tail) 0 ≡ psw_of system370 s a
  unfolding psw_of
  part_psw system370 long =
      λ i. record {
        left = part_word 0 a (omega arith) (omega arith) i;
        right = part_word 4 (a + 4) (omega arith) (omega arith) i;
        system370 = system370;
      }
