-- `storage::page_of_found` meets its contract.
use Rattle.machine.proofs.Tests.{tests}
use Rattle.storage.specs.Found.{page_found}
use Rattle.storage.proofs.page_of_found.Goals as goal

pub returns-then-found-lt-STOPPED : goal.returns-then-found-lt-STOPPED
unfolding page_found
returns-then-found-lt-STOPPED c = search tests

pub returns-else-found-lt-STOPPED : goal.returns-else-found-lt-STOPPED
unfolding page_found
returns-else-found-lt-STOPPED c = search tests
