-- `unit::unit` meets its contract.
use mathlib.Core.Path.{refl}
use Rattle.machine.specs.Host.{host}
use Rattle.unit.proofs.Foretelling.{comes_along}
use Rattle.unit.proofs.unit.Goals as goal

pub returns : goal.returns
returns c =
    let a = c.args in
    comes_along a.shut (host a.designation _ _) a.guest a.cpu c.unit_after.result
    (c.before_unit-before.ensures _ a.cpu refl refl refl) c.unit_after.ensures
