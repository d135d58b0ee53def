-- `stores::store_timer` meets its contract.
use Rattle.machine.specs.Psw.{with_psw}
use Rattle.machine.specs.Host.{host}
use Rattle.machine.specs.Execute.{store_timer}
use Rattle.stores.proofs.Storing.{does}
use Rattle.stores.proofs.store_timer.Goals as goal

pub returns : goal.returns
unfolding store_timer with_psw
returns c = λ clock. does store_timer (host c.args.designation _ _) λ fetched standing. c.store_double.ensures clock _ standing
