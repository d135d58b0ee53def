-- The code wraps as the definition does.
use mathlib.Core.Bool.{not, and-false}
use borrow.Author.Tests.{eq-eqb, ne_eqb, eqb-true, not-false}
use Rattle.machine.specs.Psw.{wrap}
use Rattle.address.proofs.wrapped.Goals as goal
use Rattle.address.proofs.wrapped.Goals.{then-psw-ne1, else-psw-ne1}
use mathlib.Core.Path.{sym, ◌∙◌}

pub returns-then-psw : goal.returns-then-psw
unfolding wrap
returns-then-psw c =
    λ control.
    elim c.if-psw-ne1.branch [
      | then-psw-ne1 w ↦ rw (ne_eqb _ _ w.if-psw-ne1.true, and-false (not c.args.psw.system370))
      | else-psw-ne1 w ↦ rw (sym w.value-is ∙ c.if-psw.true)
    ]

pub returns-else-psw : goal.returns-else-psw
unfolding wrap
returns-else-psw c =
    λ control.
    elim c.if-psw-ne1.branch [
      | then-psw-ne1 w ↦ absurd (w.if-psw-ne1.true (eqb-true _ _ (not-false _ (sym w.value-is ∙ c.if-psw.false))))
      | else-psw-ne1 w ↦ rw (sym w.value-is ∙ c.if-psw.false, eq-eqb _ _ w.if-psw-ne1.false)
    ]
