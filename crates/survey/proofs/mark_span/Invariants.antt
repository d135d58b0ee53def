-- `survey::mark_span` meets its contract. The loop's invariant: the frames that the entries passed name are marked.
use Rattle.machine.specs.Refusals.{frames_of}
use Rattle.survey.specs.Marking.{Added}
use Rattle.survey.proofs.Marking.{Noted}
use Rattle.survey.proofs.mark_span.Given as goal

abbrev pub invariant-loop-entry : goal.invariant-loop-entry
invariant-loop-entry l = Added (Noted l.entry-index (frames_of l.host.storage.now) l.entry-items) l.initial.marks l.marks
