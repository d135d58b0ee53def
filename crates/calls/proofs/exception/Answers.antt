-- `calls::exception` meets its contract.
use mathlib.Core.Path.{refl}
use Rattle.calls.proofs.Taking.{program_order, excepted_kept}
use borrow.Author.Rules.{rules}
use Rattle.calls.proofs.exception.Goals as goal

pub take-requires : goal.take-requires
take-requires c =
    (program_order c.program_interruption-i.result c.program_interruption-i.ensures.1, search rules)

pub returns : goal.returns
returns c =
    let a = c.args in
    λ guard h g x clock k text t stands asked.
    excepted_kept stands a.f c.requires.4 asked c.program_interruption-i.result c.program_interruption-i.ensures
    c.after_exception-past.result c.take.result
    (λ told. c.after_exception-past.ensures x k a.f told refl stands.of_psw) c.take.ensures.value c.take.ensures.storage_after
