-- `pages::has_marks` meets its contract.
use mathlib.Core.Bool.{false≢true}
use borrow.Author.Tests.{eq-eqb}
use Rattle.machine.specs.Host.{referenced, changed}
use Rattle.pages.proofs.has_marks.Goals as goal

pub returns-then-not-store : goal.returns-then-not-store
unfolding referenced changed
returns-then-not-store c = λ _. (rw (eq-eqb _ _ c.if-key-eq1.true), λ stored. absurd (false≢true (rw (← c.if-not-store.true, stored))))

pub returns-else-not-store : goal.returns-else-not-store
unfolding referenced changed
returns-else-not-store c = λ marked. (rw (eq-eqb _ _ c.if-key-eq1.true), λ _. rw marked)
