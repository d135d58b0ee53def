-- `charging::find_due` meets its contract.
use mathlib.Core.Path.{sym, ◌∙◌}
use mathlib.Core.Bool.{false≢true}
use Rattle.charging.proofs.Dues.{due_found}
use Rattle.charging.proofs.find_due.Goals as goal
use Rattle.charging.proofs.find_due.Goals.{else-timed-via-then-timed+else-falls, else-timed-via-else-timed}

pub returns-then-falls : goal.returns-then-falls
returns-then-falls c =
    due_found _ _ _ _ _ (sym c.requires.1 ∙ c.if-timed.true) (sym c.falls.ensures ∙ c.if-falls.true) c.find_word.result c.find_word.ensures.stands c.find_word.ensures.in_storage

pub returns-else-timed : goal.returns-else-timed
returns-else-timed c =
    elim c.else-timed.branch [
      | else-timed-via-then-timed+else-falls w ↦ λ on. sym w.falls.ensures ∙ w.if-falls.false
      | else-timed-via-else-timed w ↦ λ on. absurd (false≢true (sym w.if-timed.false ∙ c.requires.1 ∙ on))
    ]
