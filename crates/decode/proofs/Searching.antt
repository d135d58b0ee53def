-- The first row of the code's table that fits is what the definition finds in its own, and has the length of the opcode.
-- Assumes nothing.
use Prim.Native.Nat.{ℕ, ◌*◌, ◌/◌, ◌<◌}
use native.Mathlib.Omega.{arith}
use mathlib.Core.Path.{◌≡◌, refl, ◌∙◌}
use mathlib.Core.Bool.{Bool, true, false, cond, ◌&&◌}
use mathlib.Core.List.{List, [], ◌∷◌, map}
use borrow.Author.Tests.{lt-ltb, le-ltb, eqb-true}
use lib.Dec.{eqb, ltb}
use Rattle.std.proofs.lemmas.Bool.Decides.{nat_tests}
use Rattle.std.specs.List as list
use Rattle.std.specs.Prelude.{Some, IfSome}
use Rattle.machine.specs.Words.{bits}
use Rattle.machine.specs.Opcodes.{has, length_of, number_of}
use Rattle.machine.specs.Opcodes as opcodes
use Rattle.decode.specs.declared.Row.{Row}
use Rattle.decode.specs.Rows.{architectures_of, meant, length_of_number, measured, fits, found}

pub first_that_fits : (system370 : Bool) (n : ℕ) (rows : List Row)
    → found n (list.find (fits system370 n) rows) ≡ opcodes.find system370 n (map meant rows)
unfolding opcodes.find fits
first_that_fits system370 n [] = refl
first_that_fits system370 n (r ∷ rows) = by_test (fits system370 n r) (first_that_fits system370 n rows)
  where
    by_test : (b : Bool) {x : opcodes.Row} → found n (list.find (fits system370 n) rows) ≡ x
        → found n (cond b (Some r) (list.find (fits system370 n) rows)) ≡ cond b (meant r) x
    by_test true rest = refl
    by_test false rest = rest

pub length_that_fits : (system370 : Bool) (n : ℕ) (rows : List Row) → measured rows ≡ true
    → IfSome (list.find (fits system370 n) rows) (λ r. r.2 ≡ length_of_number n)
unfolding measured fits
length_that_fits system370 n [] e = tt
length_that_fits system370 n (r ∷ rows) e =
    by_test (eqb n r.0) refl (has (architectures_of r.1) system370) (eqb r.2 (length_of_number r.0)) refl e
    (length_that_fits system370 n rows)
  where
    by_test : (same : Bool) → eqb n r.0 ≡ same → (own good : Bool) → eqb r.2 (length_of_number r.0) ≡ good → good && measured rows ≡ true
        → (measured rows ≡ true → IfSome (list.find (fits system370 n) rows) (λ r. r.2 ≡ length_of_number n))
        → IfSome (cond (same && own) (Some r) (list.find (fits system370 n) rows)) (λ r. r.2 ≡ length_of_number n)
    by_test same is own false wrong e rest = let z : ◌≡◌ {A = ℕ} 0 1 = cc in absurd (omega arith)
    by_test true is true true right e rest = rw (eqb-true n r.0 is) (eqb-true r.2 (length_of_number r.0) right)
    by_test true is false true right e rest = rest e
    by_test false is own true right e rest = rest e

-- the length lies in the first byte
same_length : (x y : ℕ) → bits 16 0 1 x ≡ bits 16 0 1 y → length_of x ≡ length_of y
unfolding length_of
same_length x y e = rw e

-- a first halfword has the length of its number
pub length_by_number : (first : ℕ) → first < 65536 → length_of_number (number_of first) ≡ length_of first
unfolding length_of_number number_of
length_by_number first short = by_test (eqb (first / 256) 0xb2) refl
  where
    by_test : (b : Bool) → eqb (first / 256) 0xb2 ≡ b → length_of_number (cond b first (first / 256)) ≡ length_of first
    by_test true e = rw (le-ltb first 256 (omega (arith, eqb-true (first / 256) 0xb2 e)))
    by_test false e = rw (lt-ltb (first / 256) 256 (omega arith)) (same_length (first / 256 * 256) first (omega arith))
