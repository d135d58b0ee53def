-- `guard::page_leads` meets its contract.
use Rattle.std.proofs.lemmas.Result.{err_from_is_err_and}
use mathlib.Core.Path.{sym}
use Rattle.machine.specs.Walk.{walk_page}
use Rattle.guard.proofs.page_leads.Goals as goal

pub returns : goal.returns
returns c = rw (c.in_ok-e.was, c.page_of.ensures) (sym (c.by_page.ensures _))

pub returns-in_err-e : goal.returns-in_err-e
unfolding walk_page
returns-in_err-e c = let p = err_from_is_err_and c.from_residual.result c.from_residual.ensures.1 in rw (p.1, p.2, c.in_err-e.was)
