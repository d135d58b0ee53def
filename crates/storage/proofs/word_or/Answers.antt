-- `storage::word_or` meets its contract.
use Rattle.machine.proofs.Tests.{tests}
use Rattle.storage.proofs.word_or.Goals as goal

pub returns-then-at-storage : goal.returns-then-at-storage
returns-then-at-storage c = search tests

pub returns-else-at-storage : goal.returns-else-at-storage
returns-else-at-storage c = search tests
