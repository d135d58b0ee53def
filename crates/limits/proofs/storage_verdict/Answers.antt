-- `limits::storage_verdict` meets its contract. Each return meets refusals 3 and 4 by the tests that led to it.
use Rattle.machine.specs.Refusals.{wrong_storage, wrong_keys}
use Rattle.machine.proofs.Tests.{tests}
use Rattle.limits.specs.Parts.{storage_verdict}
use Rattle.limits.proofs.storage_verdict.Goals as goal
use Rattle.limits.proofs.storage_verdict.Goals.{then-storage-eq0-via-then-storage-eq0, then-storage-eq0-via-else-storage-eq0+then-storage, then-storage-eq0-via-else-storage-eq0+else-storage+then-storage-ne0}

pub returns-then-storage-eq0 : goal.returns-then-storage-eq0
unfolding storage_verdict wrong_storage wrong_keys
returns-then-storage-eq0 c =
    elim c.then-storage-eq0.branch [
      | then-storage-eq0-via-then-storage-eq0 w ↦ search tests
      | then-storage-eq0-via-else-storage-eq0+then-storage w ↦ search tests
      | then-storage-eq0-via-else-storage-eq0+else-storage+then-storage-ne0 w ↦ search tests
    ]

pub returns-then-keys-storage : goal.returns-then-keys-storage
unfolding storage_verdict wrong_storage wrong_keys
returns-then-keys-storage c = search tests

pub returns : goal.returns
unfolding storage_verdict wrong_storage wrong_keys
returns c = search tests
