-- `packing::place_after_run` meets its contract.
use mathlib.Core.Path.{refl}
use Rattle.packing.specs.Packing.{place_after_run}
use Rattle.packing.proofs.place_after_run.Goals as goal

pub returns-in-Err : goal.returns-in-Err
unfolding place_after_run
returns-in-Err c = rw c.in-Err.is refl

pub returns-in-Ok : goal.returns-in-Ok
unfolding place_after_run
returns-in-Ok c = rw (c.in-Ok.is, c.placed.ensures, c.end_address.ensures) refl
