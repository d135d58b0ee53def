-- `registers::subtract` meets its contract.
use mathlib.Core.Path.{refl, ap, ◌∙◌}
use Rattle.machine.specs.Execute.{difference_of, difference_overflows, subtract}
use Rattle.machine.specs.Host.{host}
use Rattle.machine.specs.Psw.{with_condition_code}
use Rattle.adder.proofs.Sums.{small_code}
use Rattle.execute.proofs.Ending.{of_words}
use Rattle.registers.proofs.subtract.Goals as goal

pub with_condition_code-coded-requires : goal.with_condition_code-coded-requires
with_condition_code-coded-requires c = rw c.subtract-sum.ensures.2 (small_code _ _)

pub returns : goal.returns
unfolding subtract
returns c =
    let k = c.args.cpu in
    λ clock x standing.
    of_words (host c.args.designation _ _) x standing c.summed.result difference_of difference_overflows
    c.with_condition_code-coded.result c.subtract-sum.result.value
    (c.with_condition_code-coded.ensures k refl ∙ ap (λ n. (with_condition_code k n).psw) c.subtract-sum.ensures.2, c.subtract-sum.ensures.0)
    (λ overflow coded. c.summed.ensures overflow clock coded x standing)
