-- `loads::set_timer` meets its contract.
use native.Mathlib.Omega.{arith}
use mathlib.Core.Path.{refl, ap, ◌∙◌}
use Rattle.machine.specs.Host.{host}
use Rattle.machine.specs.Execute.{set_timer}
use Rattle.machine.specs.Words.{double_at}
use Rattle.words.proofs.Numbers.{double_from_bytes}
use Rattle.loads.proofs.Fetching.{timer_loaded, fetch_shut, fetch_open}
use Rattle.loads.proofs.set_timer.Goals as goal

pub reach-requires : goal.reach-requires
reach-requires c =
    record { ready = c.requires; a_value = (c.operand_address-a.ensures.0 c.args.cpu refl, omega arith, omega arith) }

pub returns-in-Err : goal.returns-in-Err
unfolding set_timer
returns-in-Err c =
    λ clock x standing.
    fetch_shut (host c.args.designation _ _) x standing c.operand_address-a.ensures (omega arith) (omega arith) refl
    _ _ _ c.in-Err.done (c.in-Err.ensures.reaches x clock standing)

pub returns : goal.returns
unfolding set_timer
returns c =
    λ clock x standing.
    fetch_open (host c.args.designation _ _) x standing c.operand_address-a.ensures (omega arith) (omega arith) refl
    _ _ _ c.with_timer.result c.in-Ok.o (c.in-Ok.ensures.reaches x clock standing) c.with_timer.ensures.0
    (timer_loaded _ x standing _ _ _ _ c.with_timer.ensures.1 c.advanced-psw.ensures (c.from_be_bytes-timer.ensures ∙ double_from_bytes _ ∙ ap (λ bytes. double_at bytes 0) c.operand.ensures))
