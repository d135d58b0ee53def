-- `faults::fault_sought` meets its contract.
use Rattle.machine.specs.Sought.{fault_sought}
use Rattle.machine.proofs.Tests.{tests}
use Rattle.faults.proofs.fault_sought.Goals as goal

pub returns-then-f-eq-PROTECTION : goal.returns-then-f-eq-PROTECTION
unfolding fault_sought
returns-then-f-eq-PROTECTION c = rw c.nowhere.ensures (search tests)

pub returns-else-f-eq-PROTECTION : goal.returns-else-f-eq-PROTECTION
unfolding fault_sought
returns-else-f-eq-PROTECTION c = rw c.host_sought.ensures (search tests)
