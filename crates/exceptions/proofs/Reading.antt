-- The fetch of a text of any length that stands on a kept block.
-- Assumes nothing.
use Rattle.std.specs.Prelude.{Ok}
use Prim.Native.Nat.{ℕ, ◌+◌, ◌-◌, ◌/◌, ◌%◌, ◌≤◌, ◌<◌}
use native.Mathlib.Omega.{arith}
use mathlib.Core.Path.{◌≡◌, refl, ap, sym, subst, ◌∙◌}
use mathlib.Core.Bool.{Bool, true, false, cond}
use mathlib.Core.Logic.{◌⊎◌, inl, inr, ⊎_elim}
use borrow.Author.Tests.{le-leb}
use lib.Dec.{eqb, ltb}
use Rattle.machine.specs.declared.Cpu.{Cpu}
use Rattle.machine.specs.declared.Guest.{Guest}
use Rattle.machine.specs.declared.Text.{Text}
use Rattle.machine.specs.Words.{bits, half_at}
use Rattle.machine.specs.Psw.{wrap, instruction_address}
use Rattle.machine.specs.Host.{Host, view}
use Rattle.machine.specs.Opcodes.{length_of, opcode_of}
use Rattle.machine.specs.Units.{first_text, second_text, third_text, fetch_third, started, instruction}
use Rattle.address.specs.Touching.{seen, touch_of}
use Rattle.operands.specs.Operands.{operand_of, in_one_page, to_page_end, in_pieces}
use Rattle.operands.proofs.Seen.{operand_seen}
use Rattle.execute.proofs.Reaching.{not_both}
use Rattle.text.specs.Fetching.{FetchedAs, Fetches, Halfword, no_text, no_frames, one_frame, whole}
use Rattle.text.proofs.Halfwords.{initial, further, marked_first, marked_once}
use Rattle.text.proofs.Texts.{standing_started, first_open, second_open, third_open}
use Rattle.blocks.specs.Keeping.{Block, Leads, Stands}
use Rattle.interruptions.specs.declared.Frames.TheVariants as frames
use Rattle.steps.specs.Texting.{short_text, text_frame}
use Rattle.steps.proofs.Reading.{reads_one, reads_two}
use Rattle.exceptions.specs.Excepting.{text_in}

-- the lengths of texts, by the two tests on their first bits

abbrev halfwords : Bool → Bool → ℕ
halfwords none few = cond none 1 (cond few 2 3)

one_to_three : (none few : Bool) → (halfwords none few ≡ 1) ⊎ ((halfwords none few ≡ 2) ⊎ (halfwords none few ≡ 3))
one_to_three true few = inl refl
one_to_three false true = inr (inl refl)
one_to_three false false = inr (inr refl)

lengths : (first : ℕ) → (length_of first ≡ 1) ⊎ ((length_of first ≡ 2) ⊎ (length_of first ≡ 3))
unfolding length_of
lengths first = one_to_three (eqb (bits 16 0 1 first) 0) (ltb (bits 16 0 1 first) 3)

module _ (h : Host) (g : Guest) (clock : ℕ) (c : Cpu) (b : Block) (at : ℕ) (leads : Leads g h c false b) (stands : Stands h.storage b)
    (small : b.first < 2147483648) (from : b.place ≤ at) (inside : at + 6 ≤ b.place + 2048) (even : (at - b.place) % 2 ≡ 0)
    (address : instruction_address c ≡ b.first + (at - b.place)) (wrapped : wrap c (b.first + (at - b.place)) ≡ b.first + (at - b.place)) where
  abbrev a : ℕ
  a = b.first + (at - b.place)

  touched : touch_of g h c false a ≡ Ok at
  touched =
      let place : b.place + (at - b.place) ≡ at = omega arith in
      leads (at - b.place) (omega (arith, inside, from)) (omega (arith, stands.aligned, small, inside, from)) (λ store. not_both store refl) ∙ ap Ok place

  sought : operand_of g h c false a 2 ≡ in_pieces at 2 0
  unfolding operand_of in_one_page
  sought = rw (le-leb 2 (to_page_end a) (omega (arith, stands.aligned, inside, from, even)), touched)

  found : Halfword h g (seen c.psw c.control) 0 a (in_pieces at 2 0)
  unfolding wrap
  found =
      initial {c = seen c.psw c.control} (sym (ap (wrap c) address ∙ wrapped)) (omega (arith, address, even, stands.aligned))
      (sym sought ∙ operand_seen g h c false a 2)

  in_frame_lem : one_frame at ≡ text_frame b
  in_frame_lem = ap frames.One (omega (arith, stands.placed, inside, from))

  abbrev FetchedHere : ℕ → Text → Type 0
  FetchedHere first text = FetchedAs h g clock c (instruction (started g clock (view g h) c 1)) (opcode_of c.psw.system370 first) (whole text (text_frame b))

  abbrev long_text : ℕ → ℕ → ℕ → Text
  long_text first second third = third_text (short_text first second) third

  -- a mark for another halfword in the block
  marked_further : (p : ℕ) → at ≤ p → p ≤ at + 4 → at / 4096 ≡ p / 4096
  marked_further p low high = omega (arith, stands.placed, inside, from)

  -- the third halfword
  reads_last : (first second : ℕ) → length_of first ≡ 3
      → Fetches h g c.psw c.control (short_text first second) (one_frame at) fetch_third (opcode_of c.psw.system370 first) (whole (long_text first second (half_at h.storage (at + 2 + 2))) (one_frame at))
  reads_last first second long =
      third_open (short_text first second) (one_frame at) (at + 2 + 2) (one_frame at) (marked_once (one_frame at) a at refl (at + 2 + 2) (marked_further (at + 2 + 2) (omega arith) (omega arith)))
      (omega (arith, long)) (further (further found (omega (arith, stands.aligned, inside, from))) (omega (arith, stands.aligned, inside, from)))

  -- of three halfwords
  reads_three : (first second third : ℕ) → first ≡ half_at h.storage at → second ≡ half_at h.storage (at + 2) → half_at h.storage (at + 2 + 2) ≡ third → length_of first ≡ 3
      → FetchedHere first (long_text first second third)
  unfolding opcode_of
  reads_three first second third read next last long =
      subst (λ t. FetchedAs h g clock c (instruction (started g clock (view g h) c 1)) (opcode_of c.psw.system370 first) (whole (long_text first second third) t)) in_frame_lem
      (first_open no_text no_frames at (one_frame at) (marked_first at) (short_text first 0) (opcode_of c.psw.system370 first) (whole (long_text first second third) (one_frame at)) found
      (ap (first_text c.psw.system370) read) refl
      (second_open (short_text first 0) (one_frame at) (at + 2) (one_frame at) (marked_once (one_frame at) a at refl (at + 2) (marked_further (at + 2) (omega arith) (omega arith)))
      (short_text first second) (whole (long_text first second third) (one_frame at)) (omega (arith, long)) (further found (omega (arith, stands.aligned, inside, from)))
      (ap (λ half. second_text (short_text first 0) half) next)
      (subst (λ half. Fetches h g c.psw c.control (short_text first second) (one_frame at) fetch_third (opcode_of c.psw.system370 first) (whole (long_text first second half) (one_frame at))) last (reads_last first second long)))
      _ clock c refl refl (standing_started h g clock c 1 refl))

  -- the text, by its length
  module _ (first : ℕ) (read : first ≡ half_at h.storage at) where
    abbrev second : ℕ
    second = half_at h.storage (at + 2)

    abbrev third : ℕ
    third = half_at h.storage (at + 4)

    -- the text of so many halfwords
    abbrev of_length : ℕ → Text
    of_length n = record { ilc = length_of first; first = first; second = cond (ltb n 2) 0 second; third = cond (ltb n 3) 0 third }

    by_length : (n : ℕ) → length_of first ≡ n → FetchedHere first (of_length n) → FetchedHere first (text_in h.storage at first)
    by_length n long fetched = subst (λ m. FetchedHere first (of_length m)) (sym long) fetched

    pub reads_text : FetchedHere first (text_in h.storage at first)
    reads_text =
        ⊎_elim (λ one. by_length 1 one (reads_one h g clock c b at leads stands small from (omega arith) even address wrapped first read one))
        (⊎_elim (λ two. by_length 2 two (reads_two h g clock c b at leads stands small from (omega arith) even address wrapped first second read refl two (omega arith)))
        (λ three. by_length 3 three (reads_three first second third read refl (ap (half_at h.storage) (omega arith)) three)))
        (lengths first)
