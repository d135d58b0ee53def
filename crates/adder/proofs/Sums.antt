-- What a sum sets: its condition code has two bits, and the state with the sum is told by PSW and register.
-- Assumes nothing.
use Rattle.std.proofs.Common.{◌≡◌, ℕ, ◌<◌, Bool, eqb, length, ap, ◌∙◌, arith, length-set, get_or-set_same}
use Rattle.std.proofs.lemmas.Bool.Decides.{nat_tests}
use Rattle.machine.specs.declared.Cpu.{Cpu}
use Rattle.machine.specs.declared.Psw.{Psw}
use Rattle.machine.specs.Psw.{with_psw, with_general, with_condition_code, condition_code, general}
use Rattle.machine.specs.Execute.{sum_code, with_sum}

pub small_code : (sum : ℕ) (overflow : Bool) → sum_code sum overflow < 4
unfolding sum_code
small_code sum overflow = grind (arith, nat_tests)

-- code 3 is an overflow, and no other is
three_overflows : (sum : ℕ) (overflow : Bool) → eqb (sum_code sum overflow) 3 ≡ overflow
unfolding sum_code
three_overflows sum overflow = grind (arith, nat_tests)

-- the condition code, read back in each form
code_back : (c : Cpu) (code : ℕ) → code < 4 → condition_code (with_condition_code c code) ≡ code
unfolding with_condition_code with_psw
code_back c code small = grind (arith, nat_tests)

module _ (c : Cpu) (sum : ℕ) (overflow : Bool) where
  pub coded_overflow : eqb (condition_code (with_condition_code c (sum_code sum overflow))) 3 ≡ overflow
  coded_overflow = ap (λ n. eqb n 3) (code_back c (sum_code sum overflow) (small_code sum overflow)) ∙ three_overflows sum overflow

  -- the state with the sum, by its PSW; and back, of the state that the code has
  pub sum_state : (i : ℕ) (psw : Psw) → psw ≡ (with_condition_code c (sum_code sum overflow)).psw → with_psw (with_general c i sum) psw ≡ with_sum c i sum overflow
  unfolding with_sum with_condition_code with_psw with_general
  sum_state i psw coded = ap (with_psw (with_general c i sum)) coded

  pub sum_psw : (i : ℕ) (after : Cpu) → after ≡ with_sum c i sum overflow → after.psw ≡ (with_condition_code c (sum_code sum overflow)).psw
  unfolding with_sum with_condition_code with_psw with_general
  sum_psw i after set = ap (λ k. k.psw) set

  pub sum_value : (i : ℕ) (after : Cpu) → after ≡ with_sum c i sum overflow → i < length after.general.words → general after i ≡ sum
  unfolding with_sum with_condition_code with_psw with_general
  sum_value i after set below =
      ap (λ k. general k i) set
      ∙ get_or-set_same c.general.words i sum 0 (omega (arith, ap (λ k. length k.general.words) set, length-set c.general.words i sum))
