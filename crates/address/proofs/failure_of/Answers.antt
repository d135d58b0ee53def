-- `address::failure_of` meets its contract.
use Rattle.machine.specs.Failures.{walk_exception}
use Rattle.machine.proofs.Tests.{tests}
use Rattle.address.specs.Locating.{failure_in}
use Rattle.address.proofs.failure_of.Goals as goal

pub returns-then-host : goal.returns-then-host
unfolding failure_in
returns-then-host c = search tests

pub returns-else-host : goal.returns-else-host
unfolding failure_in walk_exception
returns-else-host c = rw c.exception_address-address.ensures (search tests)
