-- `paging::entangled` meets its contract.
use mathlib.Core.Path.{sym, ◌∙◌}
use Rattle.paging.proofs.Meeting.{tangled_shared, tangled_tables}
use Rattle.paging.proofs.entangled.Goals as goal

pub returns-then-shares : goal.returns-then-shares
returns-then-shares c =
    c.if-shares.true
    ∙ sym (tangled_shared c.args.c c.args.first c.args.pages c.args.designation c.args.storage.now c.args.p c.args.place c.requires (c.shares.ensures.so c.if-shares.true))

pub returns-else-shares : goal.returns-else-shares
returns-else-shares c =
    tangled_tables c.args.c c.args.first c.args.pages c.args.designation c.args.storage.now c.args.p c.args.place c.requires _ (c.shares.ensures.never c.if-shares.false) (rw (c.frame_after.ensures, c.word_at-entry.ensures) at c.tables_meet.ensures)
