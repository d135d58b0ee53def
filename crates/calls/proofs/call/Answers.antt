-- `calls::call` meets its contract.
use Rattle.calls.proofs.Taking.{called_kept}
use Rattle.calls.proofs.call.Goals as goal

pub returns : goal.returns
returns c =
    let a = c.args in
    λ guard h g x clock k text t stands (ilc, number).
    called_kept stands a.number ilc number c.advanced-past.result c.take.result (c.advanced-past.ensures k stands.of_psw)
    c.take.ensures.value c.take.ensures.storage_after
