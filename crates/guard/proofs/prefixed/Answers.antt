-- `guard::prefixed` meets its contract.
use Rattle.machine.specs.Addresses.{prefixed}
use Rattle.machine.proofs.Tests.{tests}
use Rattle.guard.proofs.prefixed.Goals as goal

pub returns-then-a-eq0 : goal.returns-then-a-eq0
unfolding prefixed
returns-then-a-eq0 c = search tests

pub returns-then-a-guest : goal.returns-then-a-guest
unfolding prefixed
returns-then-a-guest c = search tests

pub returns-else-a-guest : goal.returns-else-a-guest
unfolding prefixed
returns-else-a-guest c = search tests
