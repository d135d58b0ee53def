-- What accepted input gives the address path, and translate's answer from a byte's place.
-- Assumes nothing.
use Rattle.std.specs.Prelude.{Err, Ok}
use Prim.Native.Nat.{ℕ, ◌/◌, ◌%◌, ◌≤◌, ◌<◌}
use native.Mathlib.Omega.{arith}
use mathlib.Core.Path.{◌≡◌, refl, ap, sym, ◌∙◌}
use mathlib.Core.Bool.{Bool, true, false, not, ◌&&◌}
use mathlib.Core.List.{List}
use lib.Dec.{eqb}
use lib.ListN.{length}
use borrow.Author.Tests.{eq-eqb, ne_eqb, eqb-true, not-false}
use Rattle.machine.specs.declared.Refusal.TheVariants.{WrongLength}
use Rattle.machine.specs.declared.Cpu.{Cpu}
use Rattle.machine.specs.declared.Guest.{Guest}
use Rattle.machine.specs.declared.Psw.{Psw}
use Rattle.machine.specs.declared.Registers.{Registers}
use Rattle.machine.specs.Words.{byte_at}
use Rattle.machine.specs.Entry.{extent_fits, prefix_fits, entry_good}
use Rattle.machine.specs.Record.{version_for, guest_of, psw_of, cpu_of}
use Rattle.machine.specs.Refusals.{frames_of, wrong_length, wrong_version, wrong_storage, wrong_keys, check_verdict, translate_verdict, Verdict, no_refusal}
use Rattle.machine.specs.Psw.{psw_bit, wrap}
use Rattle.machine.specs.Host.{Host, Located, backing, view}
use Rattle.machine.specs.Addresses.{Access, reached, denied, access}
use Rattle.machine.specs.Sought.{nowhere}
use Rattle.machine.specs.Operations.{translates, address_in, translated_to, translated_as, translate}
use Rattle.machine.proofs.Laws.{good_length}
use Rattle.laws.proofs.WhichTable.{reached_goes}
use Rattle.machine.proofs.Verdicts.{accepted_test, length_of_right, keys_of_right}
use Rattle.entry.specs.Modes.{xa_mode}
use Rattle.entry.proofs.Parts.{entry_xa, xa_mode_lem, long_record}
use Rattle.address.specs.Touching.{seen, placed, touched_by, touch_of}
use Rattle.inspect.specs.Answering.{answered}
use Rattle.machine.specs.Walk.{Walk}

pub checked_length : (r : List ℕ) → check_verdict r ≡ no_refusal → 200 ≤ length r
unfolding check_verdict
checked_length r accepted = good_length r (length_of_right r (accepted_test _ (wrong_length r) _ accepted).0)

version_right : (r : List ℕ) → wrong_version r ≡ false → eqb (length r) 208 ≡ eqb (guest_of r).version 2
unfolding wrong_version
version_right r right = long_record r (eqb-true (byte_at r 2) (version_for (length r)) (not-false _ right))

pub checked_long : (r : List ℕ) → check_verdict r ≡ no_refusal → eqb (length r) 208 ≡ eqb (guest_of r).version 2
unfolding check_verdict
checked_long r accepted = version_right r (accepted_test _ (wrong_version r) _ (accepted_test _ (wrong_length r) _ accepted).1).0

module _ (r storage keys : List ℕ) (kind : ℕ) (accepted : translate_verdict r storage keys kind ≡ no_refusal) where
  pub translated_length : 200 ≤ length r
  unfolding translate_verdict
  translated_length = good_length r (length_of_right r (accepted_test _ (wrong_length r) _ accepted).0)

  pub translated_long : eqb (length r) 208 ≡ eqb (guest_of r).version 2
  unfolding translate_verdict
  translated_long = version_right r (accepted_test _ (wrong_version r) _ (accepted_test _ (wrong_length r) _ accepted).1).0

  pub translated_keys : frames_of storage ≤ length keys
  unfolding translate_verdict
  translated_keys =
      let second = (accepted_test _ (wrong_length r) _ accepted).1 in
      let third = (accepted_test _ (wrong_version r) _ second).1 in
      let fourth = (accepted_test _ (wrong_storage storage) _ third).1 in
      omega (arith, keys_of_right storage keys (accepted_test _ (wrong_keys storage keys) _ fourth).0)

-- a record below 200 bytes is refused
pub too_short : (r : List ℕ) (h : Host) (a kind : ℕ) → length r < 200 → translate r h a kind ≡ Err WrongLength
unfolding translate translated_as translate_verdict wrong_length
too_short r h a kind below =
    rw (ne_eqb (length r) 200 (λ short. absurd (omega (arith, below, short))), ne_eqb (length r) 208 (λ long. absurd (omega (arith, below, long))))

-- translate, once the verdict is known
pub translate_by : (r : List ℕ) (h : Host) (a kind : ℕ) {v : Verdict} → translate_verdict r h.storage h.keys kind ≡ v → translate r h a kind ≡ translated_as r h a kind v
unfolding translate
translate_by r h a kind is = rw is

pub answered_is : (g : Guest) (h : Host) (c : Cpu) (store : Bool) (a : ℕ)
    → translated_to g h c a (access g (view g h) c store a) ≡ Ok (answered g h c a (touch_of g h c store a))
unfolding translated_to touched_by answered address_in placed
answered_is g h c store a = by_access (access g (view g h) c store a) refl
  where
    by_walk : (l : Located) (w : Walk) → backing g h l.absolute ≡ w → access g (view g h) c store a ≡ reached l
        → address_in l.absolute w ≡ Ok (answered g h c a (placed l.absolute w))
    by_walk l (Err f) behind is = absurd (reached_goes g h c a store l f nowhere is (ap (address_in l.absolute) behind))
    by_walk l (Ok page) behind is = refl

    by_access : (x : Access) → access g (view g h) c store a ≡ x → translated_to g h c a x ≡ Ok (answered g h c a (touched_by g h x))
    by_access (denied f) is = refl
    by_access (reached l) is = by_walk l (backing g h l.absolute) refl is

-- the address wraps by the PSW alone
pub wrapped_is : (c : Cpu) (psw : Psw) (a at : ℕ) → psw ≡ c.psw → ((k : Registers) → at ≡ wrap (seen psw k) a) → at ≡ wrap c a
unfolding wrap
wrapped_is c psw a at same wrapped = wrapped c.control ∙ ap (λ p. wrap (seen p c.control) a) same

-- entry of a 370-XA guest: where it lies
pub entry_is : (r : List ℕ) {g : Guest} {good : Bool} → g ≡ guest_of r → xa_mode (guest_of r).mode ≡ true → good ≡ (extent_fits g && prefix_fits g)
    → entry_good (guest_of r) ≡ good
entry_is r {g} same xa is = rw (entry_xa (guest_of r) xa, ← same) (sym is)

-- its PSW is translated
pub xa_translates : (r : List ℕ) → xa_mode (guest_of r).mode ≡ true → translates (cpu_of r) ≡ true
unfolding translates guest_of cpu_of psw_of
xa_translates r xa = rw (xa_mode_lem (byte_at r 4) xa) (go (psw_bit 5 (cpu_of r)))
  where
    go : (b : Bool) → not ((b && true) && false) ≡ true
    go true = refl
    go false = refl

-- Which PSWs are translated: a 370-XA one, one with bit 5 zero, and of the others of System/370 one with bit 12 zero.
module _ (c : Cpu) (psw : Psw) (same : psw ≡ c.psw) where
  left_is : c.psw.left ≡ psw.left
  left_is = ap (λ p. p.left) (sym same)

  pub translates_xa : psw.system370 ≡ false → translates c ≡ true
  unfolding translates
  translates_xa xa = rw (ap (λ p. p.system370) (sym same) ∙ xa) (go (psw_bit 5 c))
    where
      go : (b : Bool) → not (b && true && false) ≡ true
      go true = refl
      go false = refl

  pub translates_off : (psw.left / 67108864 % 2 ≡ 1 → ⊥) → translates c ≡ true
  unfolding translates
  translates_off off = rw (left_is, ne_eqb (psw.left / 67108864 % 2) 1 off)

  pub translates_370 : psw.system370 ≡ true → psw.left / 67108864 % 2 ≡ 1 → translates c ≡ not (eqb (psw.left / 524288 % 2) 1)
  unfolding translates
  translates_370 s370 on =
      rw (ap (λ p. p.system370) (sym same) ∙ s370, left_is, eq-eqb (psw.left / 67108864 % 2) 1 on) (go (eqb (psw.left / 524288 % 2) 1))
    where
      go : (b : Bool) → not (not (not b) && true) ≡ not b
      go true = refl
      go false = refl
