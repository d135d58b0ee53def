-- The condition code of a sum is 0, 1, 2 or 3, and mask 15 selects each.
-- Assumes nothing.
use Rattle.std.proofs.Common.{◌≡◌, ℕ, ◌^◌, ◌<◌, true, eqb, ltb, refl, arith}
use Rattle.std.proofs.lemmas.Bool.Decides.{nat_tests}
use Rattle.machine.specs.Execute.{selected}
use Rattle.machine.proofs.Tests.{on_either_arm}
use Rattle.sums.specs.Summing.{outside, code_in}

pub small-code_in : (sum : ℕ) → code_in sum < 4
unfolding code_in
small-code_in sum = grind (arith, nat_tests)

pub selects_all : (sum : ℕ) → selected 15 (code_in sum) ≡ true
unfolding selected code_in
selects_all sum =
    on_either_arm (λ n. selected 15 n ≡ true) (eqb sum 0) refl
    (on_either_arm (λ n. selected 15 n ≡ true) (outside sum) refl (on_either_arm (λ n. selected 15 n ≡ true) (ltb sum (2 ^ 63)) refl refl))
