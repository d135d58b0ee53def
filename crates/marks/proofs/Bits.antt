-- A bit of a number, set by `|`.
-- Assumes nothing.
use Prim.Native.Nat.{ℕ, ◌+◌, ◌^◌}
use native.Mathlib.Omega.{arith}
use mathlib.Core.Path.{◌≡◌, ◌∙◌}
use mathlib.Core.Bool.{cond}
use mathlib.Core.Logic.{inl, inr}
use lib.Bits.{bit_or}
use borrow.Author.Tests.{eq-eqb, ne_eqb}
use Rattle.std.specs.Int.{bit_at}
use Rattle.std.specs.Prelude.{eqb}
use Rattle.std.proofs.lemmas.Bool.{cases_eq}
use Rattle.std.proofs.lemmas.Nat.{or_disjoint}
use Rattle.std.proofs.lemmas.Nat.Bits.{and_pow, bit_at_or, bit_at-lt, bit_at-pow_same, bit_at-pow_other, same_from_bits}

set_already : (n k : ℕ) → bit_at n k ≡ 1 → bit_or n (2 ^ k) ≡ n
set_already n k one =
    same_from_bits _ _
    (λ i.
    bit_at_or n (2 ^ k) i
    ∙ elim (cases_eq i k) [
      | inl here ↦ rw (here, bit_at-pow_same k, one)
      | inr other ↦ rw (bit_at-pow_other k i other) (omega arith)
    ])

set_anew : (n k : ℕ) → bit_at n k ≡ 0 → bit_or n (2 ^ k) ≡ n + 2 ^ k
set_anew n k none = or_disjoint n (2 ^ k) (and_pow n k ∙ rw none (omega arith))

pub or_bit : (n k : ℕ) → bit_or n (2 ^ k) ≡ cond (eqb (bit_at n k) 1) n (n + 2 ^ k)
or_bit n k =
    elim (cases_eq (bit_at n k) 1) [
      | inl one ↦ rw (eq-eqb _ _ one) (set_already n k one)
      | inr other ↦ rw (ne_eqb _ _ other) (set_anew n k (omega (arith, bit_at-lt n k)))
    ]
