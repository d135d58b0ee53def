-- `loads::load_control` meets its contract.
use Prim.Native.Nat.{◌*◌}
use native.Mathlib.Omega.{arith}
use mathlib.Core.Path.{refl, ap}
use Rattle.machine.specs.Host.{host}
use Rattle.machine.specs.Execute.{load_control}
use Rattle.loads.proofs.Fetching.{controls_loaded, fetch_shut, fetch_open}
use Rattle.loads.proofs.load_control.Goals as goal

pub reach-requires : goal.reach-requires
reach-requires c =
    record { ready = c.requires; a_value = (c.operand_address-a.ensures.0 c.args.cpu refl, omega arith, omega arith) }

pub returns-in-Err : goal.returns-in-Err
unfolding load_control
returns-in-Err c =
    λ clock x standing.
    fetch_shut (host c.args.designation _ _) x standing c.operand_address-a.ensures (omega arith) (omega arith)
    (ap (λ n. 4 * n) (c.range_count-count.ensures.2 x standing.of_text))
    _ _ _ c.in-Err.done (c.in-Err.ensures.reaches x clock standing)

pub returns : goal.returns
unfolding load_control
returns c =
    λ clock x standing.
    let as_many = c.range_count-count.ensures.2 x standing.of_text in
    fetch_open (host c.args.designation _ _) x standing c.operand_address-a.ensures (omega arith) (omega arith) (ap (λ n. 4 * n) as_many)
    _ _ _ c.with_controls.result c.in-Ok.o (c.in-Ok.ensures.reaches x clock standing) c.with_controls.ensures.0
    (controls_loaded _ x standing _ _ _ _ c.range_count-count.result c.with_controls.ensures.1 c.advanced-psw.ensures
    (c.operand_controls-control.ensures _ refl) as_many)
