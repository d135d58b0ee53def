-- `address::low_protected` meets its contract.
use Rattle.machine.specs.Addresses.{low_protected}
use Rattle.machine.proofs.Tests.{tests}
use Rattle.address.proofs.low_protected.Goals as goal

pub returns-then-a-lt512 : goal.returns-then-a-lt512
unfolding low_protected
returns-then-a-lt512 c = λ x is. rw (← is) (search tests)

pub returns-else-a-lt512 : goal.returns-else-a-lt512
unfolding low_protected
returns-else-a-lt512 c = λ x is. search tests
