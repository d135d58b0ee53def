-- The fetch of a text that stands on a kept block.
-- Assumes nothing.
use Rattle.std.specs.Prelude.{Ok}
use Prim.Native.Nat.{ℕ, ◌+◌, ◌-◌, ◌%◌, ◌≤◌, ◌<◌}
use native.Mathlib.Omega.{arith}
use mathlib.Core.Path.{◌≡◌, refl, ap, sym, subst, ◌∙◌}
use mathlib.Core.Bool.{false}
use borrow.Author.Tests.{le-leb, lt-ltb, eq-eqb, ne_eqb}
use Rattle.machine.specs.declared.Cpu.{Cpu}
use Rattle.machine.specs.declared.Guest.{Guest}
use Rattle.machine.specs.Words.{bits, half_at}
use Rattle.machine.specs.Psw.{wrap, instruction_address}
use Rattle.machine.specs.Host.{Host, view}
use Rattle.machine.specs.Opcodes.{length_of, opcode_of}
use Rattle.machine.specs.Units.{first_text, second_text, started, instruction}
use Rattle.address.specs.Touching.{seen, touch_of}
use Rattle.operands.specs.Operands.{operand_of, in_one_page, to_page_end, in_pieces}
use Rattle.operands.proofs.Seen.{operand_seen}
use Rattle.execute.proofs.Reaching.{not_both}
use Rattle.text.specs.Fetching.{FetchedAs, Halfword, no_text, no_frames, one_frame, whole}
use Rattle.text.proofs.Halfwords.{initial, further, same_offset, marked_first, marked_once}
use Rattle.text.proofs.Texts.{standing_started, second_spare, third_spare, first_open, second_open}
use Rattle.blocks.specs.Keeping.{Block, Leads, Stands}
use Rattle.interruptions.specs.declared.Frames.TheVariants as frames
use Rattle.steps.specs.Texting.{short_text, text_frame}

-- the length of a text by its first halfword

pub length_one : (first : ℕ) → first < 16384 → length_of first ≡ 1
unfolding length_of
length_one first low = rw (eq-eqb (bits 16 0 1 first) 0 (omega arith))

pub length_two : (first : ℕ) → 16384 ≤ first → first < 49152 → length_of first ≡ 2
unfolding length_of
length_two first low high = rw (ne_eqb (bits 16 0 1 first) 0 (omega arith), lt-ltb (bits 16 0 1 first) 3 (omega arith))

module _ (h : Host) (g : Guest) (clock : ℕ) (c : Cpu) (b : Block) (at : ℕ) (leads : Leads g h c false b) (stands : Stands h.storage b)
    (small : b.first < 2147483648) (from : b.place ≤ at) (inside : at + 2 ≤ b.place + 2048) (even : (at - b.place) % 2 ≡ 0)
    (address : instruction_address c ≡ b.first + (at - b.place)) (wrapped : wrap c (b.first + (at - b.place)) ≡ b.first + (at - b.place)) where
  abbrev a : ℕ
  a = b.first + (at - b.place)

  even_address : instruction_address c % 2 ≡ 0
  even_address = omega (arith, address, even, stands.aligned)

  touched : touch_of g h c false a ≡ Ok at
  touched =
      let place : b.place + (at - b.place) ≡ at = omega arith in
      leads (at - b.place) (omega (arith, inside, from)) (omega (arith, stands.aligned, small, inside, from)) (λ store. not_both store refl) ∙ ap Ok place

  sought : operand_of g h c false a 2 ≡ in_pieces at 2 0
  unfolding operand_of in_one_page
  sought = rw (le-leb 2 (to_page_end a) (omega (arith, stands.aligned, inside, from, even)), touched)

  found : Halfword h g (seen c.psw c.control) 0 a (in_pieces at 2 0)
  unfolding wrap
  found = initial {c = seen c.psw c.control} (sym (ap (wrap c) address ∙ wrapped)) even_address (sym sought ∙ operand_seen g h c false a 2)

  in_frame_lem : one_frame at ≡ text_frame b
  in_frame_lem = ap frames.One (omega (arith, stands.placed, inside, from))

  -- the fetch from the block
  abbrev pub FetchedHere : ℕ → ℕ → Type 0
  FetchedHere first second = FetchedAs h g clock c (instruction (started g clock (view g h) c 1)) (opcode_of c.psw.system370 first) (whole (short_text first second) (text_frame b))

  -- of one halfword
  pub reads_one : (first : ℕ) → first ≡ half_at h.storage at → length_of first ≡ 1 → FetchedHere first 0
  unfolding opcode_of
  reads_one first read short =
      subst (λ t. FetchedAs h g clock c (instruction (started g clock (view g h) c 1)) (opcode_of c.psw.system370 first) (whole (short_text first 0) t)) in_frame_lem
      (first_open no_text no_frames at (one_frame at) (marked_first at) (short_text first 0) (opcode_of c.psw.system370 first) (whole (short_text first 0) (one_frame at)) found
      (ap (first_text c.psw.system370) read) refl (second_spare (short_text first 0) (one_frame at) (omega (arith, short))) _ clock c refl refl (standing_started h g clock c 1 refl))

  -- of two halfwords
  pub reads_two : (first second : ℕ) → first ≡ half_at h.storage at → second ≡ half_at h.storage (at + 2) → length_of first ≡ 2 → at + 4 ≤ b.place + 2048
      → FetchedHere first second
  unfolding opcode_of
  reads_two first second read next short whole-text =
      subst (λ t. FetchedAs h g clock c (instruction (started g clock (view g h) c 1)) (opcode_of c.psw.system370 first) (whole (short_text first second) t)) in_frame_lem
      (first_open no_text no_frames at (one_frame at) (marked_first at) (short_text first 0) (opcode_of c.psw.system370 first) (whole (short_text first second) (one_frame at)) found
      (ap (first_text c.psw.system370) read) refl
      (second_open (short_text first 0) (one_frame at) (at + 2) (one_frame at)
      (marked_once (one_frame at) a at refl (at + 2) (omega (arith, same_offset found, stands.placed, whole-text, from)))
      (short_text first second) (whole (short_text first second) (one_frame at)) (omega (arith, short)) (further found (omega (arith, stands.aligned, whole-text, from)))
      (ap (λ half. second_text (short_text first 0) half) next) (third_spare (short_text first second) (one_frame at) (omega (arith, short))))
      _ clock c refl refl (standing_started h g clock c 1 refl))
