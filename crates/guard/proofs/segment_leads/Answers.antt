-- `guard::segment_leads` meets its contract.
use Rattle.std.proofs.lemmas.Result.{err_from_is_err_and}
use mathlib.Core.Path.{sym}
use Rattle.storage.specs.Steps.{segment_leads}
use Rattle.guard.proofs.segment_leads.Goals as goal

pub returns : goal.returns
returns c = rw (c.in_ok-e.was, c.place_of.ensures) (sym c.by_segment.ensures)

pub returns-in_err-e : goal.returns-in_err-e
unfolding segment_leads
returns-in_err-e c = let p = err_from_is_err_and c.from_residual.result c.from_residual.ensures.1 in rw (p.1, p.2, c.in_err-e.was)
