-- `address::touch` meets its contract.
use mathlib.Core.Path.{refl, sym}
use Rattle.address.proofs.touch.Goals as goal

pub returns : goal.returns
returns c =
    let space = c.space_of-space in
    rw (c.place_of.ensures, ← space.ensures.0) (sym (c.locate.ensures _ _ (space.ensures.1 _ refl refl refl)))
