-- `registers::summed` meets its contract.
use mathlib.Core.Path.{refl, sym, ◌∙◌}
use Rattle.machine.specs.Execute.{sum_code}
use Rattle.machine.specs.Host.{host}
use Rattle.machine.specs.Psw.{with_condition_code}
use Rattle.interruptions.specs.After.{left_by}
use Rattle.adder.proofs.Sums.{sum_state}
use Rattle.execute.proofs.Ending.{sum_interrupts, summed_interrupts, summed_ends}
use Rattle.registers.proofs.summed.Goals as goal

pub returns-then-interrupts : goal.returns-then-interrupts
returns-then-interrupts c =
    let a = c.args in
    λ overflow clock coded x standing.
    summed_interrupts (host a.designation _ _) x standing a.value overflow
    (sum_interrupts a.cpu a.value overflow _ (c.condition_code.ensures (with_condition_code a.cpu (sum_code a.value overflow)) (sym coded))
    _ (c.interrupts.ensures a.cpu refl) ∙ c.if-interrupts.true)
    c.exception.result (left_by a.cpu c.with_general-done.result)
    (c.with_general-done.ensures.1 ∙ sum_state a.cpu a.value overflow _ a.coded coded)
    (c.exception.ensures x clock a.cpu standing c.with_general-done.ensures.2)

pub returns : goal.returns
returns c =
    let a = c.args in
    λ overflow clock coded x standing.
    summed_ends (host a.designation _ _) x standing a.value overflow
    (sum_interrupts a.cpu a.value overflow _ (c.condition_code.ensures (with_condition_code a.cpu (sum_code a.value overflow)) (sym coded))
    _ (c.interrupts.ensures a.cpu refl) ∙ c.if-interrupts.false)
    c.with_general.result a.coded c.advanced-psw.result coded
    c.advanced-psw.ensures c.with_general.ensures.0 c.with_general.ensures.1 c.mark_text.ensures
