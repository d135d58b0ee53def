-- `execute::excepted` meets its contract.
use Rattle.machine.specs.Host.{host}
use Rattle.machine.specs.Psw.{with_psw}
use Rattle.interruptions.specs.After.{left_by}
use Rattle.execute.proofs.Exceptions.{exception_of_lem}
use Rattle.execute.proofs.excepted.Goals as goal

pub returns : goal.returns
unfolding with_psw
returns c =
    let a = c.args in
    λ clock x standing.
    exception_of_lem (host a.designation _ _) x standing (left_by a.cpu c.with_psw-done.result) c.with_psw-done.ensures.1 a.f c.exception.result
    (c.exception.ensures x clock a.cpu standing c.with_psw-done.ensures.2)
