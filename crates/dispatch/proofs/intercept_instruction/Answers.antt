-- `dispatch::intercept_instruction` meets its contract.
use mathlib.Core.Path.{refl}
use Rattle.machine.specs.Psw.{with_psw}
use Rattle.interruptions.specs.After.{left_by}
use Rattle.text.proofs.Order.{instruction-intercepted}
use Rattle.dispatch.proofs.intercept_instruction.Goals as goal

pub returns : goal.returns
unfolding left_by with_psw
returns c =
    λ h g clock t x standing.
    instruction-intercepted h x standing _ c.advanced-psw.result (c.advanced-psw.ensures c.args.cpu refl) refl c.with_psw.ensures.1
