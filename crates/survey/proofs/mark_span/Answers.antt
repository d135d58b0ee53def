-- `survey::mark_span` meets its contract.
use native.Mathlib.Omega.{arith}
use mathlib.Core.Path.{◌≡◌, ◌∙◌}
use lib.ListN.{length}
use Rattle.machine.specs.Refusals.{frames_of}
use Rattle.tables.specs.Tabling.{entry_at}
use Rattle.survey.proofs.Marking.{noted_none, noted_more, marks_of_names}
use Rattle.survey.proofs.mark_span.Goals as goal

pub loop-entry-init : goal.loop-entry-init
loop-entry-init c = noted_none _ _ _

pub loop-entry-preserved : goal.loop-entry-preserved
loop-entry-preserved c =
    let loop = c.loop-entry in
    let entries = c.entries_of-entry-items.result.now in
    let entry : c.from_be_bytes.result ≡ entry_at entries loop.entry-index = c.from_be_bytes.ensures in
    rw (c.mark_named.ensures, entry)
    (noted_more loop.entry-index (frames_of c.args.host.storage.now) entries c.args.marks.now loop.marks (loop.auto.marks ∙ c.requires) loop.invariant)

pub returns : goal.returns
returns c =
    let entries = c.entries_of-entry-items.result.now in
    let all : c.loop-entry.entry-index ≡ length entries = omega arith in
    marks_of_names _ _ _ _ entries c.entries_of-entry-items.ensures _ _ (rw all at c.loop-entry.invariant)
