-- The test for the page end is the definition's.
use Rattle.std.proofs.lemmas.Result.{err_from_is_err_and}
use Rattle.machine.proofs.Tests.{tests}
use Rattle.operands.specs.Operands.{in_two_pages, operand_of}
use Rattle.operands.proofs.find_operand.Goals as goal

pub returns-then-n-m : goal.returns-then-n-m
unfolding operand_of
returns-then-n-m c = rw (c.one_page.ensures, c.touch-first.ensures) (search tests)

pub returns-in_err-first : goal.returns-in_err-first
unfolding operand_of in_two_pages
returns-in_err-first c =
    let p = err_from_is_err_and c.from_residual.result c.from_residual.ensures.1 in
    rw (p.1, p.2, ← c.touch-first.ensures, c.in_err-first.was) (search tests)

pub returns-in_err-second : goal.returns-in_err-second
unfolding operand_of in_two_pages
returns-in_err-second c =
    let p = err_from_is_err_and c.from_residual-in_err-second.result c.from_residual-in_err-second.ensures.1 in
    rw (
      p.1,
      p.2,
      ← c.wrapped-next.ensures c.args.control,
      ← c.touch-first.ensures,
      c.in_ok-first.was,
      ← c.touch.ensures,
      c.in_err-second.was,
    )
    (search tests)

pub returns : goal.returns
unfolding operand_of in_two_pages
returns c =
    rw (
      ← c.wrapped-next.ensures c.args.control,
      ← c.touch-first.ensures,
      c.in_ok-first.was,
      ← c.touch.ensures,
      c.in_ok-second.was,
    )
    (search tests)
