-- Marks on the keys of frames.
use Rattle.std.specs.Prelude.{ℕ, ◌/◌, cond, List, leb, get_or, set}
use Rattle.machine.specs.Host.{referenced, changed}
use Rattle.machine.specs.Sizes.{frame_bytes}
use Rattle.marks.specs.declared.Mark.{Mark}
use Rattle.marks.specs.declared.Mark.TheVariants.{Referenced, Changed}

-- what a mark does to a key
abbrev pub mark_of : Mark → ℕ → ℕ
mark_of Referenced = referenced
mark_of Changed = changed

-- a mark on a frame's key
abbrev pub mark_frame : (ℕ → ℕ) → ℕ → List ℕ → List ℕ
mark_frame mark frame keys = set keys frame (mark (get_or keys frame 0))

-- marks for an operand of n bytes, m of them at p and the others at q
abbrev pub mark_operand : (ℕ → ℕ) → ℕ → ℕ → ℕ → ℕ → List ℕ → List ℕ
mark_operand mark n p m q keys =
    cond (leb n m) (mark_frame mark (p / frame_bytes) keys) (mark_frame mark (q / frame_bytes) (mark_frame mark (p / frame_bytes) keys))
