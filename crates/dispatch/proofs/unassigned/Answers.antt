-- `dispatch::unassigned` meets its contract.
use mathlib.Core.Path.{refl, sym}
use Rattle.dispatch.proofs.Classes.{other}
use Rattle.dispatch.proofs.unassigned.Goals as goal

pub returns-in-Unassigned : goal.returns-in-Unassigned
returns-in-Unassigned c = rw c.in-Unassigned.is refl

pub returns-in_default : goal.returns-in_default
returns-in_default c = sym (other c.in_default.not-Unassigned)
