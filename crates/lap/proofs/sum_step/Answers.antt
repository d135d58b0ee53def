-- `lap::sum_step` meets its contract.
use Rattle.std.proofs.Common.{◌≡◌, false, ◌&&◌, sym, ap, ◌∙◌}
use mathlib.Core.Bool.{and-false}
use Rattle.sums.specs.Summing.{outside}
use Rattle.lap.specs.Stepping.{sum_step}
use Rattle.lap.proofs.sum_step.Goals as goal
use Rattle.lap.proofs.sum_step.Goals.{else-trap-via-then-trap+else-is_outside, else-trap-via-else-trap}

pub returns-then-is_outside : goal.returns-then-is_outside
unfolding sum_step
returns-then-is_outside c = rw (c.if-trap.true, ← c.is_outside.ensures, c.if-is_outside.true) c.wanting.ensures

pub returns : goal.returns
unfolding sum_step
returns c =
    let a = c.args in
    let passes : (a.trap && outside a.sum) ≡ false =
    elim c.else-trap.branch [
      | else-trap-via-then-trap+else-is_outside w ↦ ap (λ b. a.trap && b) (sym w.is_outside.ensures ∙ w.if-is_outside.false) ∙ and-false a.trap
      | else-trap-via-else-trap w ↦ ap (λ b. b && outside a.sum) w.if-trap.false
    ] in
    rw (passes, ← c.word_of.ensures) c.stepped.ensures
