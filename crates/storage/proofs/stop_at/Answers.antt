-- `storage::stop_at` meets its contract.
use Rattle.machine.proofs.Tests.{tests}
use Rattle.storage.proofs.stop_at.Goals as goal
use Rattle.storage.proofs.stop_at.Goals.{then-at-storage, else-at-storage}

pub returns : goal.returns
returns c = elim c.if-at-storage.branch [ then-at-storage w ↦ search (tests, w.result-is) | else-at-storage w ↦ search (tests, w.result-is) ]
