-- A number with a bit set.
-- Assumes nothing.
use Rattle.std.proofs.Common.{◌≡◌, ℕ, zero, suc, ◌+◌, ◌*◌, ◌/◌, ◌%◌, ◌^◌, ◌<◌, refl, one-mul, add-zero, arith}
use Rattle.std.specs.Int.RustNames.{bit_or}
use Rattle.std.proofs.lemmas.Nat.{or_block, or_comm, shr_split, pow_pos}

or_lowest : (r : ℕ) → r < 2 → bit_or r 1 ≡ 1
or_lowest zero below = refl
or_lowest (suc zero) below = refl
or_lowest (suc (suc r)) below = absurd (omega arith)

none_set : (x : ℕ) → bit_or x 0 ≡ x
none_set x = or_comm x 0

-- the lowest bit, and what stands before it
or_one : (x : ℕ) → bit_or x 1 ≡ x / 2 * 2 + 1
or_one x =
    rw (shr_split x 1, none_set (x / 2), or_lowest (x % 2) (omega arith)) at (or_block 1 (x / 2) 0 (x % 2) 1 (omega arith) (omega arith))

-- the bit by what stands before it and behind it
pub or_bit : (x k : ℕ) → bit_or x (2 ^ k) ≡ (x / 2 ^ k / 2 * 2 + 1) * 2 ^ k + x % 2 ^ k
or_bit x k =
    let some = pow_pos k in
    rw (shr_split x k, one-mul, add-zero, or_one (x / 2 ^ k), none_set (x % 2 ^ k)) at
    (or_block k (x / 2 ^ k) 1 (x % 2 ^ k) 0 (omega arith) some)
