-- `paging::tables_meet` meets its contract.
use native.Mathlib.Omega.{arith}
use Rattle.paging.proofs.Meeting.{unmarked, length-marked, marks-tell_frame}
use Rattle.paging.proofs.tables_meet.Goals as goal

pub returns : goal.returns
returns c =
    let first = c.mark_pages.ensures in
    let second = c.mark_pages-2.ensures in
    marks-tell_frame c.args.host.designation c.args.host.storage.now c.args.pages.from c.args.pages.to c.args.own c.args.frame _ (unmarked _ 4096) _ _ _
    (length-marked _ _ _ 4096 _ _ _ first second (omega (arith, c.requires.1)) (omega arith)) first second (rw c.mark_frame.ensures at c.entries_marked.ensures)
