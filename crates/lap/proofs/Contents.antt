-- General registers: the content of a base or index register.
-- Assumes nothing.
use Rattle.std.proofs.Common.{◌≡◌, ℕ, zero, suc, ◌*◌, ◌^◌, ◌<◌, eqb, List, get_or, ap, ◌∙◌, arith}
use lib.Dec.{eqb-suc-zero}
use lib.ListN.{get_or-replicate}
use Rattle.machine.proofs.Tests.{on_either_arm}
use Rattle.lap.specs.Stepping.{flags, part_of}

module _ (words ones : List ℕ) (r v : ℕ) (few : r < 16) (are : ones ≡ flags) (is : v ≡ get_or words r 0) where
  -- multiplied by its flag, the content of a register is the part of an address
  pub part_is : v * get_or ones r 0 ≡ part_of words r
  part_is = ap (λ l. v * get_or l r 0) are ∙ by_number r few v is
    where
      by_number : (r : ℕ) → r < 16 → (v : ℕ) → v ≡ get_or words r 0 → v * get_or flags r 0 ≡ part_of words r
      by_number zero few v is = omega arith
      by_number (suc r) few v is =
          let flag : get_or flags (suc r) 0 ≡ 1 = get_or-replicate 15 r 1 0 (omega arith) in
          rw (flag, eqb-suc-zero r) (omega arith)

  pub part_small : v < 2 ^ 32 → v * get_or ones r 0 < 2 ^ 32
  part_small small = rw part_is (on_either_arm (λ n. n < 2 ^ 32) (eqb r 0) (omega arith) (rw is at small))
