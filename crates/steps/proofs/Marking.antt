-- Marks that the keys have already change nothing.
-- Assumes nothing.
use Prim.Native.Nat.{ℕ, ◌+◌, ◌/◌, ◌≤◌, ◌<◌}
use native.Mathlib.Omega.{arith}
use mathlib.Core.Path.{◌≡◌, refl, ap, sym, ◌∙◌}
use mathlib.Core.Bool.{true, false}
use mathlib.Core.List.{List}
use borrow.Author.Tests.{le-leb}
use lib.ListN.{get_or}
use Rattle.machine.specs.Host.{referenced, changed}
use Rattle.marks.specs.Marks.{mark_operand}
use Rattle.interruptions.specs.After.{mark_text}
use Rattle.execute.specs.Reaching.{mark_all}
use Rattle.blocks.specs.Keeping.{Block, Stands, HasMarks}
use Rattle.blocks.proofs.Holding.{mark_same}
use Rattle.steps.specs.Texting.{text_frame}

module _ (keys : List ℕ) (text : Block) (marks : HasMarks keys false text) where
  pub marked_text : keys ≡ mark_text (text_frame text) keys
  unfolding mark_text
  marked_text = sym (mark_same referenced (text.place / 4096) keys marks.fetched)

  -- with an operand of n bytes at d in a block
  module _ (storage : List ℕ) (b : Block) (stands : Stands storage b) (d n : ℕ) (within : d + n ≤ 2048) (some : 0 < n) where
    abbrev place : ℕ
    place = b.place + d

    frame : place / 4096 ≡ b.place / 4096
    frame = omega (arith, stands.placed)

    operand_same : (mark : ℕ → ℕ) → mark (get_or keys (b.place / 4096) 0) ≡ get_or keys (b.place / 4096) 0 → keys ≡ mark_operand mark n place n 0 keys
    operand_same mark has = rw (le-leb n n (omega arith), frame) (sym (mark_same mark (b.place / 4096) keys has))

    pub marked_fetched : HasMarks keys false b → keys ≡ mark_all (text_frame text) false n place n 0 keys
    marked_fetched has = operand_same referenced has.fetched ∙ ap (mark_operand referenced n place n 0) marked_text

    pub marked-stored : HasMarks keys true b → keys ≡ mark_all (text_frame text) true n place n 0 keys
    marked-stored has =
        operand_same changed (has.stored refl)
        ∙ ap (mark_operand changed n place n 0) (operand_same referenced has.fetched ∙ ap (mark_operand referenced n place n 0) marked_text)
