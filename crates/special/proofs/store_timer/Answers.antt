-- `special::store_timer` meets its contract.
use mathlib.Core.Path.{sym, subst}
use Rattle.std.proofs.lemmas.Result.{IfOk-weaker}
use Rattle.special.specs.Performing.{Near}
use Rattle.special.proofs.Leaving.{in_calm, past_psw, past_near}
use Rattle.special.proofs.Instructions.{timer_stored}
use borrow.Author.Rules.{rules}
use Rattle.special.proofs.store_timer.Goals as goal

pub returns-clause-performs : goal.returns-clause-performs
returns-clause-performs c =
    let unit = c.store_double in
    let a = c.args in
    let next = c.advanced in
    IfOk-weaker unit.result _ _ (λ d (own, timed). (
      timer_stored a.kept.now a.storage.now a.psw a.a c.requires.1 next.result a.timer d unit.new.storage own next.ensures,
      timed,
      in_calm d.change (λ wrapped.
          subst (Near a.psw) (sym (past_psw a.psw next.result 2 next.ensures d own.left own.right))
          (past_near a.psw next.result 2 (search rules) (search rules) wrapped next.ensures)),
    )) unit.ensures.stored
