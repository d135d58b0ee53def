-- `storage::backing` meets its contract.
use Rattle.machine.specs.Host.{backing}
use Rattle.machine.proofs.Tests.{tests}
use Rattle.storage.proofs.backing.Goals as goal

pub returns-then-absolute-extent : goal.returns-then-absolute-extent
unfolding backing
returns-then-absolute-extent c = λ g own full. rw (own, full) (search tests)

pub returns-else-absolute-extent : goal.returns-else-absolute-extent
unfolding backing
returns-else-absolute-extent c = λ g own full. rw full (search tests)
