-- `faults::host_sought` meets its contract.
use native.Mathlib.Nat.{div-one}
use mathlib.Core.Path.{sym}
use Rattle.machine.specs.Sought.{way, host_sought_by, host_sought}
use Rattle.machine.proofs.Tests.{tests}
use Rattle.faults.proofs.Ways.{segment-read, segment_beyond}
use Rattle.faults.proofs.host_sought.Goals as goal

pub returns-then-designation-segment : goal.returns-then-designation-segment
unfolding host_sought way host_sought_by
returns-then-designation-segment c = rw c.sought_at.ensures (search (tests, div-one))

pub returns-then-at-storage : goal.returns-then-at-storage
returns-then-at-storage c = rw (c.host_by_segment.ensures, c.word_at.ensures) (sym (segment-read _ _ _ (search (tests, div-one)) (search tests)))

pub returns-else-at-storage : goal.returns-else-at-storage
returns-else-at-storage c = rw c.sought_at-else-at-storage.ensures (sym (segment_beyond _ _ _ (search (tests, div-one)) (search tests)))
