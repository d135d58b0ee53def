-- `loads::load_psw` meets its contract.
use native.Mathlib.Omega.{arith}
use mathlib.Core.Path.{refl, ap, ◌∙◌}
use Rattle.machine.specs.Host.{host}
use Rattle.machine.specs.Execute.{load_psw}
use Rattle.machine.specs.Record.{psw_of}
use Rattle.loads.proofs.Fetching.{psw_loaded, fetch_shut, fetch_open}
use Rattle.loads.proofs.load_psw.Goals as goal

pub reach-requires : goal.reach-requires
reach-requires c =
    record { ready = c.requires; a_value = (c.operand_address-a.ensures.0 c.args.cpu refl, omega arith, omega arith) }

pub returns-in-Err : goal.returns-in-Err
unfolding load_psw
returns-in-Err c =
    λ clock x standing.
    fetch_shut (host c.args.designation _ _) x standing c.operand_address-a.ensures (omega arith) (omega arith) refl
    _ _ _ c.in-Err.done (c.in-Err.ensures.reaches x clock standing)

pub returns : goal.returns
unfolding load_psw
returns c =
    λ clock x standing.
    fetch_open (host c.args.designation _ _) x standing c.operand_address-a.ensures (omega arith) (omega arith) refl
    _ _ _ c.with_psw.result c.in-Ok.o (c.in-Ok.ensures.reaches x clock standing) c.with_psw.ensures.0 (psw_loaded _ x standing _ _ _ c.with_psw.ensures.1 (c.psw_at-psw.ensures ∙ ap (λ bytes. psw_of c.args.cpu.psw.system370 bytes 0) c.operand-bytes.ensures))
