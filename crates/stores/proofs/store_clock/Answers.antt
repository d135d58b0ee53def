-- `stores::store_clock` meets its contract.
use mathlib.Core.Path.{refl}
use Rattle.machine.specs.Psw.{with_psw, with_condition_code}
use Rattle.machine.specs.Host.{host}
use Rattle.machine.specs.Execute.{store_clock}
use Rattle.stores.proofs.Storing.{does}
use Rattle.stores.proofs.store_clock.Goals as goal

pub returns : goal.returns
unfolding store_clock with_psw with_condition_code
returns c =
    let args = c.args in
    does store_clock (host args.designation _ _) λ fetched standing.
    rw (← c.guest_clock-value.ensures args.guest refl, ← c.with_condition_code-psw.ensures args.cpu refl) (c.store_double.ensures args.clock _ standing)
