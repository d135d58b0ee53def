-- The fields of the entry that a change writes.
use Prim.Native.Nat.{ℕ, ◌+◌, ◌*◌, ◌/◌, ◌%◌, ◌^◌, ◌<◌}
use native.Mathlib.Omega.{arith}
use native.Mathlib.Nat.{div-div-eq-div-mul}
use mathlib.Core.Path.{◌≡◌, refl, sym, ap, ◌∙◌}
use mathlib.Core.Bool.{Bool, true, false}
use borrow.Author.Tests.{eqb-false}
use Rattle.machine.specs.Walk.{frame_of, page_invalid, page_malformed, page_protected}
use Rattle.machine.proofs.Tests.{by_either_test}
use Rattle.desk.specs.declared.Change.TheVariants.{Add, Remove, Protect}
use Rattle.desk.specs.Desk.{entry_after}

-- numbers alike above a bit are alike above each bit further left
same_above : (e f n k : ℕ) → e / n ≡ f / n → e / (n * k) ≡ f / (n * k)
same_above e f n k same = sym (div-div-eq-div-mul e n k) ∙ ap (λ x. x / k) same ∙ div-div-eq-div-mul f n k

-- the last 32 bits of an entry have its fields

word_invalid : (e : ℕ) → page_invalid (e % 2 ^ 32) ≡ page_invalid e
word_invalid e = let same : e % 2 ^ 32 / 2 ^ 10 % 2 ≡ e / 2 ^ 10 % 2 = omega arith in rw same

word_frame : (e : ℕ) → frame_of (e % 2 ^ 32) ≡ frame_of e
word_frame e = omega arith

word_form : (e : ℕ) → page_malformed (e % 2 ^ 32) ≡ page_malformed e
word_form e =
    let bit_0 : e % 2 ^ 32 / 2 ^ 31 % 2 ≡ e / 2 ^ 31 % 2 = omega arith in
    let bit_20 : e % 2 ^ 32 / 2 ^ 11 % 2 ≡ e / 2 ^ 11 % 2 = omega arith in
    let bit_23 : e % 2 ^ 32 / 2 ^ 8 % 2 ≡ e / 2 ^ 8 % 2 = omega arith in
    rw (bit_0, bit_20, bit_23)

word_guard : (e : ℕ) → page_protected (e % 2 ^ 32) ≡ page_protected e
word_guard e = let same : e % 2 ^ 32 / 2 ^ 9 % 2 ≡ e / 2 ^ 9 % 2 = omega arith in rw same

-- a valid entry with this frame, protected or not
pub record ValidEntry (e frame : ℕ) (guarded : Bool) : Type 0 where
  pub valid : page_invalid e ≡ false
  pub formed : page_malformed e ≡ false
  pub named : frame_of e ≡ frame
  pub guard : page_protected e ≡ guarded

valid-word : (e frame : ℕ) (guarded : Bool) → ValidEntry e frame guarded → ValidEntry (e % 2 ^ 32) frame guarded
valid-word e frame guarded h = record {
  valid = word_invalid e ∙ h.valid;
  formed = word_form e ∙ h.formed;
  named = word_frame e ∙ h.named;
  guard = word_guard e ∙ h.guard;
}

pub added-entry : (frame e : ℕ) → frame < 2 ^ 19 → ValidEntry (entry_after (Add frame) e % 2 ^ 32) frame false
unfolding entry_after
added-entry frame e small =
    let bit_0 : frame * 2 ^ 12 / 2 ^ 31 % 2 ≡ 0 = omega arith in
    let bit_20 : frame * 2 ^ 12 / 2 ^ 11 % 2 ≡ 0 = omega arith in
    let bit_23 : frame * 2 ^ 12 / 2 ^ 8 % 2 ≡ 0 = omega arith in
    let bit_21 : frame * 2 ^ 12 / 2 ^ 10 % 2 ≡ 0 = omega arith in
    let bit-22 : frame * 2 ^ 12 / 2 ^ 9 % 2 ≡ 0 = omega arith in
    valid-word (frame * 2 ^ 12) frame false (record { valid = rw bit_21; formed = rw (bit_0, bit_20, bit_23); named = omega arith; guard = rw bit-22 })

pub removed_entry : (e : ℕ) → page_invalid e ≡ false → (page_invalid (entry_after Remove e % 2 ^ 32) ≡ true) × (frame_of (entry_after Remove e % 2 ^ 32) ≡ frame_of e)
unfolding entry_after
removed_entry e valid =
    let off : e / 2 ^ 10 % 2 ≡ 1 → ⊥ = eqb-false (e / 2 ^ 10 % 2) 1 valid in
    let on : (e + 2 ^ 10) / 2 ^ 10 % 2 ≡ 1 = omega arith in
    let above : (e + 2 ^ 10) / 2 ^ 12 ≡ e / 2 ^ 12 = same_above (e + 2 ^ 10) e (2 ^ 11) 2 (omega arith) in
    rw valid (word_invalid (e + 2 ^ 10) ∙ rw on, word_frame (e + 2 ^ 10) ∙ rw above)

pub protected-entry : (e : ℕ) → page_invalid e ≡ false → page_malformed e ≡ false → ValidEntry (entry_after Protect e % 2 ^ 32) (frame_of e) true
unfolding entry_after
protected-entry e valid formed =
    valid-word _ _ _
    (by_either_test (λ x. ValidEntry x (frame_of e) true) (page_protected e)
    (λ guarded. record { valid = valid; formed = formed; named = refl; guard = guarded })
    (λ free.
    let off : e / 2 ^ 9 % 2 ≡ 1 → ⊥ = eqb-false (e / 2 ^ 9 % 2) 1 free in
    let on : (e + 2 ^ 9) / 2 ^ 9 % 2 ≡ 1 = omega arith in
    let bit_23 : (e + 2 ^ 9) / 2 ^ 8 % 2 ≡ e / 2 ^ 8 % 2 = omega arith in
    let bit_21 : (e + 2 ^ 9) / 2 ^ 10 ≡ e / 2 ^ 10 = omega arith in
    let bit_20 : (e + 2 ^ 9) / 2 ^ 11 ≡ e / 2 ^ 11 = same_above (e + 2 ^ 9) e (2 ^ 10) 2 bit_21 in
    let bit_19 : (e + 2 ^ 9) / 2 ^ 12 ≡ e / 2 ^ 12 = same_above (e + 2 ^ 9) e (2 ^ 10) (2 ^ 2) bit_21 in
    let bit_0 : (e + 2 ^ 9) / 2 ^ 31 ≡ e / 2 ^ 31 = same_above (e + 2 ^ 9) e (2 ^ 10) (2 ^ 21) bit_21 in
    record { valid = rw bit_21 valid; formed = rw (bit_0, bit_20, bit_23) formed; named = rw bit_19; guard = rw on }))
