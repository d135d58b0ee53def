-- `execute::exception` meets its contract.
use mathlib.Core.Path.{refl, ap, sym, ◌∙◌}
use borrow.Author.Tests.{eq-eqb, ne_eqb}
use Rattle.machine.specs.Psw.{with_psw}
use Rattle.machine.specs.Host.{host}
use Rattle.interruptions.specs.After.{left_by}
use Rattle.interruptions.proofs.Leaving.{left_taken, old_replaced}
use Rattle.execute.proofs.Exceptions.{excepted_host, excepted_operation, excepted_program, excepted_interruption}
use Rattle.execute.proofs.exception.Goals as goal

pub returns-then-f : goal.returns-then-f
returns-then-f c =
    let a = c.args in
    λ x clock k standing before.
    excepted_host (host a.designation _ _) x standing (left_by k a.after) a.f c.if-f.true
    c.faulted.result c.faulted.ensures.0 (c.faulted.ensures.1 k before)

pub returns-then-intercepts_operation : goal.returns-then-intercepts_operation
unfolding left_by with_psw
returns-then-intercepts_operation c =
    let a = c.args in
    λ x clock k standing before.
    excepted_operation (host a.designation _ _) x standing (left_by k a.after) a.f c.if-f.false
    (sym c.intercepts_operation.ensures ∙ c.if-intercepts_operation.true) _ refl
    (c.after_exception-psw.ensures x (left_by k a.after) a.f (ap (λ t. t.ilc) standing.of_text) refl refl)

pub returns-then-guest-eq1 : goal.returns-then-guest-eq1
unfolding left_by with_psw
returns-then-guest-eq1 c =
    let a = c.args in
    λ x clock k standing before.
    excepted_program (host a.designation _ _) x standing (left_by k a.after) a.f c.if-f.false
    (sym c.intercepts_operation.ensures ∙ c.if-intercepts_operation.false) (eq-eqb _ 1 c.if-guest-eq1.true)
    _ refl
    (c.after_exception-psw.ensures x (left_by k a.after) a.f (ap (λ t. t.ilc) standing.of_text) refl refl)

pub returns : goal.returns
unfolding left_by with_psw
returns c =
    let a = c.args in
    let i = c.program_interruption-i.ensures in
    let psw = c.after_exception-psw.result in
    λ x clock k standing before.
    let told = ap (λ t. t.ilc) standing.of_text in
    let to = with_psw (left_by k a.after) psw in
    excepted_interruption (host a.designation _ _) x standing (left_by k a.after) a.f c.if-f.false
    (sym c.intercepts_operation.ensures ∙ c.if-intercepts_operation.false) (ne_eqb _ 1 c.if-guest-eq1.false) c.interrupted.result
    (c.after_exception-psw.ensures x (left_by k a.after) a.f told refl refl)
    i.1 i.4 (i.2 x told)
    (left_taken (host a.designation _ _) a.guest k to _ c.take-took.result c.interrupted.result
    (c.take-took.ensures x clock k to a.text standing refl i.3) c.interrupted.ensures.0
    (c.interrupted.ensures.1 k before ∙ old_replaced k (left_by k a.after) psw c.take-took.result))
