-- `backing::unbacked_for` meets its contract.
use native.Mathlib.Omega.{arith}
use mathlib.Core.Path.{sym}
use Rattle.backing.proofs.Asking.{wrong_order, past_the_extent_lem, all_backed, one_unbacked}
use Rattle.backing.proofs.unbacked_for.Goals as goal
use Rattle.backing.proofs.unbacked_for.Goals.{then-to-from-via-then-to-from, then-to-from-via-else-to-from+then-count-to}

pub returns-then-to-from : goal.returns-then-to-from
returns-then-to-from c =
    elim c.then-to-from.branch [
      | then-to-from-via-then-to-from w ↦ sym (wrong_order _ _ _ _ _ w.if-to-from.true)
      | then-to-from-via-else-to-from+then-count-to w ↦ sym (past_the_extent_lem _ _ _ _ _ (omega arith))
    ]

pub returns-in-Some : goal.returns-in-Some
returns-in-Some c = sym (one_unbacked _ _ _ _ _ c.if-to-from.false (omega arith) _ c.of_extent-extent.ensures.0 _ c.in-Some.ensures)

pub returns-in-None : goal.returns-in-None
returns-in-None c = sym (all_backed _ _ _ _ _ c.if-to-from.false (omega arith) _ c.of_extent-extent.ensures.0 c.in-None.ensures)
