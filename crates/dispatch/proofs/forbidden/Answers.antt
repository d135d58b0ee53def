-- `dispatch::forbidden` meets its contract.
use mathlib.Core.Path.{refl}
use Rattle.dispatch.proofs.forbidden.Goals as goal

pub returns-then-privileged : goal.returns-then-privileged
returns-then-privileged c = λ k same. rw c.if-privileged.true (c.problem_state.ensures k same)

pub returns : goal.returns
returns c = λ k same. rw c.if-privileged.false refl
