-- What a change comes to beside the entry: the frame that the page names afterwards.
use Rattle.std.specs.Prelude.{ℕ, ◌<◌}
use Rattle.machine.specs.Walk.{frame_of}
use Rattle.desk.specs.declared.Change.{Change}
use Rattle.desk.specs.declared.Change.TheVariants.{Add, Remove, Protect}
use Rattle.desk.specs.Extent.{not_valid}

-- the frame that a page names after the change of its entry; a number past every frame where it is removed
unfoldable pub frame_after : Change → ℕ → ℕ
frame_after (Add frame) e = frame
frame_after Remove e = not_valid
frame_after Protect e = frame_of e

-- a frame that a change names fits an entry
abbrev pub FrameFits : Change → Type 0
FrameFits (Add frame) = frame < 4096
FrameFits Remove = Unit {0}
FrameFits Protect = Unit {0}
