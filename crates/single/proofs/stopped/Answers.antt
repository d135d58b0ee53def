-- `single::stopped` meets its contract.
use mathlib.Core.Path.{refl, sym, ◌∙◌}
use Rattle.single.specs.Deciding.{stopped_of}
use Rattle.single.proofs.stopped.Goals as goal

pub returns-then-problem_state : goal.returns-then-problem_state
unfolding stopped_of
returns-then-problem_state c = λ cpu same. rw (sym c.tested.ensures ∙ c.if-tested.true, sym (c.problem_state.ensures cpu same), c.if-problem_state.true) refl

pub returns-else-problem_state : goal.returns-else-problem_state
unfolding stopped_of
returns-else-problem_state c =
    λ cpu same. rw (sym c.tested.ensures ∙ c.if-tested.true, sym (c.problem_state.ensures cpu same), c.if-problem_state.false, c.alignment.ensures.0) refl

pub returns-else-tested : goal.returns-else-tested
unfolding stopped_of
returns-else-tested c = λ cpu same. rw (sym c.tested.ensures ∙ c.if-tested.false) c.if-tested.false
