-- An operand is reached where it stands open.
-- Assumes nothing.
use Rattle.std.specs.Prelude.{Err, Ok, is_ok}
use Prim.Native.Nat.{ℕ, ◌≤◌, ◌<◌}
use native.Mathlib.Omega.{arith}
use mathlib.Core.Path.{◌≡◌, refl, ap, sym}
use mathlib.Core.Bool.{Bool}
use Rattle.machine.specs.declared.Cpu.{Cpu}
use Rattle.machine.specs.declared.Guest.{Guest}
use Rattle.machine.specs.declared.Text.{Text}
use Rattle.machine.specs.Psw.{wrap}
use Rattle.machine.specs.Host.{Host, view}
use Rattle.machine.specs.Addresses.{access, accesses, span}
use Rattle.machine.specs.Outcomes.{Progress}
use Rattle.laws.proofs.PageBytes.{wrap_by_mode}
use Rattle.operands.specs.Operands.{operand_of, Operand}
use Rattle.operands.proofs.Operands.{operand_shut, operand_open}
use Rattle.ahead.specs.Completing.{all_reached, reaches, InHand}

pub open_reached : (g : Guest) (h : Host) (c : Cpu) (store : Bool) (a n : ℕ) → wrap c a ≡ a → 1 ≤ n → n ≤ 4096
    → is_ok (operand_of g h c store a n) ≡ all_reached (accesses (access g (view g h) c store) (span c a n))
unfolding all_reached
open_reached g h c store a n wrapped some few = by_operand (operand_of g h c store a n) refl
  where
    by_operand : (o : Operand) → operand_of g h c store a n ≡ o → is_ok o ≡ all_reached (accesses (access g (view g h) c store) (span c a n))
    by_operand (Err f) e = sym (ap all_reached (operand_shut g h c store a n wrapped some few e))
    by_operand (Ok at) e = sym (ap all_reached (operand_open g h c store a n wrapped some few e).1)

-- the access of a unit in hand
pub in_hand : (h : Host) (x : Progress) {g : Guest} {c : Cpu} {text : Text} → InHand h x g c text → (store : Bool) (a n : ℕ)
    → all_reached (accesses (access g (view g h) c store) (span c a n)) ≡ reaches x store a n
in_hand h x hand store a n = rw (hand.of_guest, hand.of_view, hand.of_cpu) refl

-- a wrapped logical address has 31 bits
pub small_address : (c : Cpu) (a : ℕ) → wrap c a ≡ a → a < 2147483648
small_address c a wrapped = wrap_by_mode (λ w. w a ≡ a → a < 2147483648) c (λ e. omega arith) (λ e. omega arith) wrapped
