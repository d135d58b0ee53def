-- `faults::host_by_segment` meets its contract.
use native.Mathlib.Nat.{div-one}
use mathlib.Core.Path.{ap, sym, ◌∙◌}
use Rattle.machine.specs.Sought.{way_of_segment, host_sought_by}
use Rattle.machine.proofs.Tests.{tests}
use Rattle.faults.proofs.Ways.{page-read, page_beyond, segment-onward}
use Rattle.faults.proofs.host_by_segment.Goals as goal
use Rattle.faults.proofs.host_by_segment.Goals.{then-word-eq1-via-then-word-eq1, then-word-eq1-via-else-word-eq1+then-word-eq1-2}

pub returns-then-word-eq1 : goal.returns-then-word-eq1
unfolding way_of_segment host_sought_by
returns-then-word-eq1 c =
    rw c.sought_at.ensures
    (elim c.then-word-eq1.branch [
      | then-word-eq1-via-then-word-eq1 w ↦ search (tests, div-one)
      | then-word-eq1-via-else-word-eq1+then-word-eq1-2 w ↦ search (tests, div-one)
    ])

pub returns-then-word-index : goal.returns-then-word-index
unfolding way_of_segment host_sought_by
returns-then-word-index c = rw c.sought_at-then-word-index.ensures (search (tests, div-one))

pub returns-then-page-storage : goal.returns-then-page-storage
returns-then-page-storage c =
    rw c.sought_at-then-page-storage.ensures
    (sym (ap host_sought_by (segment-onward _ _ _ _ (search (tests, div-one)) (search (tests, div-one)) (search (tests, div-one))) ∙ page-read _ _ _ (search tests)))

pub returns-else-page-storage : goal.returns-else-page-storage
returns-else-page-storage c =
    rw c.sought_at-else-page-storage.ensures
    (sym (ap host_sought_by (segment-onward _ _ _ _ (search (tests, div-one)) (search (tests, div-one)) (search (tests, div-one))) ∙ page_beyond _ _ _ (search tests)))
