-- Sums and differences of two words as signed numbers of 64 bits: out of such a number come the word, the overflow and the condition
-- code.
use Rattle.std.specs.Prelude.{◌≡◌, ℕ, ◌-◌, ◌%◌, ◌^◌, Bool, cond, not, ◌&&◌, ◌==◌, nat_lt}
use Rattle.machine.specs.Execute.{sum_code}

-- the number is no word's
unfoldable pub outside : ℕ → Bool
outside sum = not (nat_lt sum (2 ^ 31)) && nat_lt sum (2 ^ 64 - 2 ^ 31)

-- the condition code: 0 zero, 1 below zero, 2 above zero, 3 overflow
unfoldable pub code_in : ℕ → ℕ
code_in sum = cond (sum == 0) 0 (cond (outside sum) 3 (cond (nat_lt sum (2 ^ 63)) 2 1))

-- the number says this word, this overflow and their condition code
pub record Says (value : ℕ) (overflow : Bool) (sum : ℕ) : Type 0 where
  pub word : sum % 2 ^ 32 ≡ value
  pub over : outside sum ≡ overflow
  pub code : code_in sum ≡ sum_code value overflow
