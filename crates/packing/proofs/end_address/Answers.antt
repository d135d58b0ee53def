-- `packing::end_address` meets its contract.
use mathlib.Core.Path.{refl}
use mathlib.Core.Logic.{⊎_elim}
use Rattle.machine.specs.Answers.{end_address}
use Rattle.packing.proofs.end_address.Goals as goal

pub returns-in-HostFault : goal.returns-in-HostFault
unfolding end_address
returns-in-HostFault c = rw c.in-HostFault.is refl

pub returns-in-Intercepted : goal.returns-in-Intercepted
unfolding end_address
returns-in-Intercepted c = ⊎_elim (λ h. rw h.1 refl) (λ h. rw h refl) c.in-Intercepted.is
