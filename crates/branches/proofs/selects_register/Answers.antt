-- `branches::selects_register` meets its contract.
use native.Mathlib.Nat.{div-one}
use mathlib.Core.Path.{refl}
use borrow.Author.Tests.{eq-eqb, ne_eqb}
use Rattle.branches.proofs.selects_register.Goals as goal

pub returns-then-first-eq0 : goal.returns-then-first-eq0
returns-then-first-eq0 c = λ k same. rw (div-one, eq-eqb _ 0 c.if-first-eq0.true) refl

pub returns : goal.returns
returns c = λ k same. rw (div-one, ne_eqb _ 0 c.if-first-eq0.false) (c.selects.ensures k same)
