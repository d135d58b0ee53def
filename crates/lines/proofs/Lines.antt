-- Laws of the line: numbers in decimal.
-- Assumes nothing.
use Prim.Native.Nat.{ℕ, ◌^◌, ◌≤◌, ◌<◌}
use native.Mathlib.Omega.{arith}
use mathlib.Core.Path.{◌≡◌}
use borrow.Author.Tests.{lt-ltb, le-ltb}
use lib.ListN.{length}
use Rattle.std.specs.Fmt.{decimal}
use Rattle.std.proofs.lemmas.Fmt.{AppendsLastDigit, decimal_from_appends, length-decimal-le}
use Rattle.lines.specs.Line.{decimal_in}

-- a number of 64 bits has at most 20 digits
pub decimal_most : (n : ℕ) → n < 2 ^ 64 → length (decimal n) ≤ 20
decimal_most n small = length-decimal-le 20 n (omega arith) (omega (arith, small)) small

-- the decimal digits of the definitions are those of the kit
pub decimal_lem : (n : ℕ) → n < 2 ^ 64 → decimal_in 20 n ≡ decimal n
unfolding decimal_in
decimal_lem n small = decimal_from_appends decimal_in last 20 n small (decimal_most n small)
  where
    last : AppendsLastDigit decimal_in
    last = record { one = λ k n few. rw (lt-ltb n 10 few); more = λ k n many. rw (le-ltb n 10 many) }
