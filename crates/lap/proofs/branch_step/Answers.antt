-- `lap::branch_step` meets its contract.
use Rattle.std.proofs.Common.{eq-eqb, ne_eqb}
use Rattle.lap.specs.Stepping.{branch_step}
use Rattle.lap.proofs.branch_step.Goals as goal

pub returns-then-to-top : goal.returns-then-to-top
unfolding branch_step
returns-then-to-top c = rw (eq-eqb _ _ c.if-to-top.true) c.stepped.ensures

pub returns : goal.returns
unfolding branch_step
returns c = rw (ne_eqb _ _ c.if-to-top.false) c.wanting.ensures
