-- `inspect::translates` meets its contract. Each return by the tests that led to it.
use mathlib.Core.Path.{sym, ◌∙◌}
use mathlib.Core.Bool.{false≢true}
use borrow.Author.Tests.{eqb-true, eqb-false, not-true, not-false}
use Rattle.inspect.proofs.Accepting.{translates_xa, translates_off, translates_370}
use Rattle.inspect.proofs.translates.Goals as goal
use Rattle.inspect.proofs.translates.Goals.{then-not-psw, else-not-psw}

pub returns-then-psw-ne1 : goal.returns-then-psw-ne1
returns-then-psw-ne1 c k same =
    rw c.if-psw-ne1.true
    (elim c.if-not-psw.branch [
      | then-not-psw w ↦ sym (translates_xa k _ same (not-true _ w.if-not-psw.true))
      | else-not-psw w ↦ sym (translates_off k _ same (eqb-false _ 1 (not-true _ (sym w.value-is ∙ c.if-psw-ne1.true))))
    ])

pub returns-else-psw-ne1 : goal.returns-else-psw-ne1
returns-else-psw-ne1 c k same =
    elim c.if-not-psw.branch [
      | then-not-psw w ↦ absurd (false≢true (sym c.if-psw-ne1.false ∙ w.value-is ∙ w.if-not-psw.true))
      | else-not-psw w ↦
          sym (translates_370 k _ same (not-false _ w.if-not-psw.false) (eqb-true _ 1 (not-false _ (sym w.value-is ∙ c.if-psw-ne1.false))))
    ]
