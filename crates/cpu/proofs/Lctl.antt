-- The interception controls of LCTL, register by register.
-- Assumes nothing.
use Prim.Native.Nat.{ℕ, zero, suc, ◌+◌, ◌-◌, ◌%◌, ◌<◌}
use native.Mathlib.Omega.{arith}
use mathlib.Core.Path.{◌≡◌, sym, ap}
use mathlib.Core.Bool.{◌||◌}
use Rattle.machine.specs.declared.Guest.{Guest}
use Rattle.machine.specs.Words.{bit}
use Rattle.machine.specs.Units.{intercepts_lctl}

-- the bit of an arm's key is the bit of the register
pub bit_of_key : (lctl k i : ℕ) → i ≡ k → bit 16 k lctl ≡ bit 16 i lctl
bit_of_key lctl k i same = ap (λ n. bit 16 n lctl) (sym same)

-- the controls of n registers are that of the first, and then the others'
pub lctl_first : (g : Guest) (i n : ℕ) → 0 < n → intercepts_lctl g i n ≡ (bit 16 i g.lctl || intercepts_lctl g ((i + 1) % 16) (n - 1))
unfolding intercepts_lctl
lctl_first g i zero some = absurd (omega arith)
lctl_first g i (suc n) some = let less : suc n - 1 ≡ n = omega arith in rw less
