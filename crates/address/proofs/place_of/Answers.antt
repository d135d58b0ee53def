-- `address::place_of` meets its contract.
use Rattle.machine.proofs.Tests.{tests}
use Rattle.address.specs.Locating.{place_in}
use Rattle.address.proofs.place_of.Goals as goal

pub returns-then-w-lt-STOPPED : goal.returns-then-w-lt-STOPPED
unfolding place_in
returns-then-w-lt-STOPPED c = search tests

pub returns-else-w-lt-STOPPED : goal.returns-else-w-lt-STOPPED
unfolding place_in
returns-else-w-lt-STOPPED c = rw c.failure_of.ensures (search tests)
