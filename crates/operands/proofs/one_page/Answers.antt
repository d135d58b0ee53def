-- An operand of one page stands where its first byte does.
use Rattle.std.proofs.lemmas.Result.{err_from_is_err_and}
use Rattle.operands.specs.Operands.{in_one_page}
use Rattle.operands.proofs.one_page.Goals as goal

pub returns : goal.returns
unfolding in_one_page
returns c = rw c.in_ok-x.was

pub returns-in_err-x : goal.returns-in_err-x
unfolding in_one_page
returns-in_err-x c = let p = err_from_is_err_and c.from_residual.result c.from_residual.ensures.1 in rw (p.1, p.2, c.in_err-x.was)
