-- An instruction whose operand is denied at its first byte ends with the exception.
-- Assumes nothing.
use Rattle.std.specs.Prelude.{Err}
use Prim.Native.Nat.{ℕ, ◌+◌, ◌*◌, ◌≤◌, ◌<◌}
use native.Mathlib.Omega.{arith}
use mathlib.Core.Path.{◌≡◌, refl, ap, sym, subst, ◌∙◌}
use mathlib.Core.Bool.{Bool, true, false, cond}
use mathlib.Core.List.{List}
use borrow.Author.Tests.{eqb-true}
use lib.Dec.{eqb, leb}
use lib.ListN.{length}
use Rattle.machine.specs.declared.Class.{Class}
use Rattle.machine.specs.declared.Class.TheVariants.{St, L, Lpsw, Stctl, Lctl, Stck, Spt, Stpt}
use Rattle.machine.specs.declared.Cpu.{Cpu}
use Rattle.machine.specs.declared.Failure.{Failure}
use Rattle.machine.specs.declared.Guest.{Guest}
use Rattle.machine.specs.declared.Psw.{Psw}
use Rattle.machine.specs.declared.Registers.{Registers}
use Rattle.machine.specs.declared.Text.{Text}
use Rattle.machine.specs.Psw.{wrap}
use Rattle.machine.specs.Host.{Host, view}
use Rattle.machine.specs.Outcomes.{Progress}
use Rattle.machine.specs.Interruptions.{exception}
use Rattle.machine.specs.Execute.{r1, operand_address, indexed_address, fetching, storing, range_count, execute, store, load, load_psw, store_control, load_control, store_clock, set_timer, store_timer}
use Rattle.machine.proofs.Tests.{on_either_arm}
use Rattle.address.specs.Touching.{touch_of}
use Rattle.operands.specs.Operands.{in_one_page, in_two_pages, to_page_end, operand_of}
use Rattle.operands.proofs.Reached.{operand_code}
use Rattle.execute.proofs.Operations.{fetching_shut, storing_shut}
use Rattle.stores.proofs.Controls.{length_controls}
use Rattle.denials.specs.Denying.{Reaching}

-- the first byte's page decides first
pub denied_shut : (g : Guest) (h : Host) (c : Cpu) (store : Bool) (a n : ℕ) {f : Failure} → touch_of g h c store a ≡ Err f → operand_of g h c store a n ≡ Err f
unfolding operand_of in_one_page in_two_pages
denied_shut g h c store a n {f} denied =
    subst (λ p. cond (leb n (to_page_end a)) (in_one_page n p) (in_two_pages (to_page_end a) p (touch_of g h c store (wrap c (a + to_page_end a)))) ≡ Err f) (sym denied)
    (on_either_arm (λ o. o ≡ Err f) (leb n (to_page_end a)) refl refl)

pub denied_code : (g : Guest) (h : Host) (c : Cpu) (store : Bool) (a : ℕ) {f : Failure} → touch_of g h c store a ≡ Err f → f.code < 65536
denied_code g h c store a denied = operand_code g h c store a 1 (denied_shut g h c store a 1 denied)

-- a wrapped address of the instruction's text
abbrev Addresses : Psw → Registers → Text → (Progress → ℕ) → ℕ → Type 0
Addresses psw general text place a =
    ((c : Cpu) → c.psw ≡ psw → wrap c a ≡ a)
    × ((x : Progress) → x.cpu.psw ≡ psw → x.cpu.general ≡ general → x.text ≡ text → a ≡ place x)

-- as many bytes as control registers
controls_some : (x : Progress) → 0 < 4 * range_count x
unfolding range_count
controls_some x = omega arith

controls_few : (x : Progress) → 4 * range_count x ≤ 4096
unfolding range_count
controls_few x = omega arith

module _ (psw : Psw) (general : Registers) (text : Text) (a : ℕ) where
  -- an instruction of a class, by the address that the code compares
  pub of_class : (class kind : Class) (store : Bool) (place : Progress → ℕ) (b : ℕ) → class ≡ kind → eqb a b ≡ true → Addresses psw general text place b
      → (Addresses psw general text place a → Reaching kind psw general text store a) → Reaching class psw general text store a
  of_class class kind store place b known same addresses reaching =
      subst (λ (k : Class). Reaching k psw general text store a) (sym known) (reaching (subst (Addresses psw general text place) (sym (eqb-true a b same)) addresses))

  module _ (place : Progress → ℕ) (addresses : Addresses psw general text place a) where
    -- n bytes that are fetched
    fetch_denied : (h : Host) (x : Progress) (f : Failure) (n : ℕ) (after : List ℕ → Cpu) → 0 < n → n ≤ 4096
        → x.view ≡ view x.guest h → x.cpu.psw ≡ psw → x.cpu.general ≡ general → x.text ≡ text
        → touch_of x.guest h x.cpu false a ≡ Err f → fetching x (place x) n after ≡ exception x x.cpu f
    fetch_denied h x f n after some few viewed of_psw ofGeneral of_text denied =
        ap (λ b. fetching x b n after) (sym (addresses.1 x of_psw ofGeneral of_text))
        ∙ fetching_shut h x viewed a n (addresses.0 x.cpu of_psw) some few f after (denied_shut x.guest h x.cpu false a n denied)

    -- and that are stored
    store-denied : (h : Host) (x : Progress) (f : Failure) (n : ℕ) (bytes : List ℕ) (to : Cpu) → length bytes ≡ n → 0 < n → n ≤ 4096
        → x.view ≡ view x.guest h → x.cpu.psw ≡ psw → x.cpu.general ≡ general → x.text ≡ text
        → touch_of x.guest h x.cpu true a ≡ Err f → storing x (place x) bytes to ≡ exception x x.cpu f
    store-denied h x f n bytes to long some few viewed of_psw ofGeneral of_text denied =
        ap (λ b. storing x b bytes to) (sym (addresses.1 x of_psw ofGeneral of_text))
        ∙ storing_shut h x viewed a n (addresses.0 x.cpu of_psw) some few f bytes to long (denied_shut x.guest h x.cpu true a n denied)

  -- class by class

  pub reaching_l : Addresses psw general text indexed_address a → Reaching L psw general text false a
  unfolding execute load
  reaching_l addresses h x f = fetch_denied indexed_address addresses h x f 4 _ (omega arith) (omega arith)

  pub reaching_lpsw : Addresses psw general text operand_address a → Reaching Lpsw psw general text false a
  unfolding execute load_psw
  reaching_lpsw addresses h x f = fetch_denied operand_address addresses h x f 8 _ (omega arith) (omega arith)

  pub reaching_lctl : Addresses psw general text operand_address a → Reaching Lctl psw general text false a
  unfolding execute load_control
  reaching_lctl addresses h x f = fetch_denied operand_address addresses h x f (4 * range_count x) _ (controls_some x) (controls_few x)

  pub reaching_spt : Addresses psw general text operand_address a → Reaching Spt psw general text false a
  unfolding execute set_timer
  reaching_spt addresses h x f = fetch_denied operand_address addresses h x f 8 _ (omega arith) (omega arith)

  pub reaching_st : Addresses psw general text indexed_address a → Reaching St psw general text true a
  unfolding execute store
  reaching_st addresses h x f = store-denied indexed_address addresses h x f 4 _ _ refl (omega arith) (omega arith)

  pub reaching_stctl : Addresses psw general text operand_address a → Reaching Stctl psw general text true a
  unfolding execute store_control
  reaching_stctl addresses h x f =
      store-denied operand_address addresses h x f (4 * range_count x) _ _ (length_controls x.cpu (r1 x) (range_count x)) (controls_some x) (controls_few x)

  pub reaching_stck : Addresses psw general text operand_address a → Reaching Stck psw general text true a
  unfolding execute store_clock
  reaching_stck addresses h x f = store-denied operand_address addresses h x f 8 _ _ refl (omega arith) (omega arith)

  pub reaching_stpt : Addresses psw general text operand_address a → Reaching Stpt psw general text true a
  unfolding execute store_timer
  reaching_stpt addresses h x f = store-denied operand_address addresses h x f 8 _ _ refl (omega arith) (omega arith)
