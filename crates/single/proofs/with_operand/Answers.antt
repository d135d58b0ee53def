-- `single::with_operand` meets its contract.
use native.Mathlib.Omega.{arith}
use mathlib.Core.Path.{refl, ap, sym, ◌∙◌}
use borrow.Author.Tests.{ne_eqb}
use Rattle.std.proofs.lemmas.Result.{IfOk-weaker, IfErr-weaker}
use Rattle.machine.specs.Units.{intercepts_lctl}
use Rattle.single.proofs.Operating.{stck_leaves, stpt_leaves, spt_leaves, lpsw_leaves, stctl_leaves, lctl_leaves}
use Rattle.single.proofs.Meeting.{calm_so}
use Rattle.single.proofs.with_operand.Goals as goal

pub returns-in-Stck-clause-operates : goal.returns-in-Stck-clause-operates
returns-in-Stck-clause-operates c =
    let a = c.args in
    let unit = c.store_clock in
    IfOk-weaker unit.result _ _ (λ d (performs, timed, calm). (
      stck_leaves a.guest a.clock a.psw a.timer a.control.now a.kept.now a.operation a.registers a.a a.storage.now d
          (λ k same. sym (c.stopped.ensures k same) ∙ c.if-stopped.false) refl c.in-Stck.is timed performs,
      calm_so d.change (λ near wrapped. (near wrapped, timed, refl)) calm,
    )) unit.ensures.performs

pub returns-in-Stck-clause-wants : goal.returns-in-Stck-clause-wants
returns-in-Stck-clause-wants c = let unit = c.store_clock in IfErr-weaker unit.result _ _ (λ w (bytes, below). (bytes, refl, below)) unit.ensures.wants

pub returns-in-Stpt-clause-operates : goal.returns-in-Stpt-clause-operates
returns-in-Stpt-clause-operates c =
    let a = c.args in
    let unit = c.store_timer in
    IfOk-weaker unit.result _ _ (λ d (performs, timed, calm). (
      stpt_leaves a.guest a.clock a.psw a.timer a.control.now a.kept.now a.operation a.registers a.a a.storage.now d
          (λ k same. sym (c.stopped.ensures k same) ∙ c.if-stopped.false) refl c.in-Stpt.is timed performs,
      calm_so d.change (λ near wrapped. (near wrapped, timed, refl)) calm,
    )) unit.ensures.performs

pub returns-in-Stpt-clause-wants : goal.returns-in-Stpt-clause-wants
returns-in-Stpt-clause-wants c = let unit = c.store_timer in IfErr-weaker unit.result _ _ (λ w (bytes, below). (bytes, refl, below)) unit.ensures.wants

pub returns-in-Spt-clause-operates : goal.returns-in-Spt-clause-operates
returns-in-Spt-clause-operates c =
    let a = c.args in
    let unit = c.set_timer in
    IfOk-weaker unit.result _ _ (λ d (performs, calm). (
      spt_leaves a.guest a.clock a.psw a.timer a.control.now a.kept.now a.operation a.registers a.a a.storage.now d
          (λ k same. sym (c.stopped.ensures k same) ∙ c.if-stopped.false) refl c.in-Spt.is performs,
      calm_so d.change (λ near _. (near.0, near.1, refl)) calm,
    )) unit.ensures.performs

pub returns-in-Spt-clause-wants : goal.returns-in-Spt-clause-wants
returns-in-Spt-clause-wants c = let unit = c.set_timer in IfErr-weaker unit.result _ _ (λ w below. (refl, refl, below)) unit.ensures.wants

pub returns-else-guest-eq1-clause-operates : goal.returns-else-guest-eq1-clause-operates
returns-else-guest-eq1-clause-operates c =
    let a = c.args in
    let unit = c.load_psw in
    IfOk-weaker unit.result _ _ (λ d (performs, timed, calm). (
      lpsw_leaves a.guest a.clock a.psw a.timer a.control.now a.kept.now a.operation a.registers a.a a.storage.now d
          (λ k same. sym (c.stopped.ensures k same) ∙ c.if-stopped.false) refl c.in-Lpsw.is (ne_eqb _ _ c.if-guest-eq1.false) timed performs,
      calm_so d.change (λ near _. (near, timed, refl)) calm,
    )) unit.ensures.performs

pub returns-else-guest-eq1-clause-wants : goal.returns-else-guest-eq1-clause-wants
returns-else-guest-eq1-clause-wants c = let unit = c.load_psw in IfErr-weaker unit.result _ _ (λ w below. (refl, refl, below)) unit.ensures.wants

pub returns-else-intercepts_lctl-clause-operates : goal.returns-else-intercepts_lctl-clause-operates
returns-else-intercepts_lctl-clause-operates c =
    let a = c.args in
    let unit = c.load_control in
    IfOk-weaker unit.result _ _ (λ d (performs, timed, calm). (
      lctl_leaves a.guest a.clock a.psw a.timer a.control.now a.kept.now a.operation a.registers a.a a.storage.now d
          (λ k same. sym (c.stopped.ensures k same) ∙ c.if-stopped.false) c.wide-r1.result c.wide-r3.result c.wide-r1.ensures.0 c.wide-r3.ensures.0 (omega arith) c.in-Lctl.is (sym (c.intercepts_lctl.ensures ∙ ap (intercepts_lctl a.guest c.wide-r1.result) c.count_of-count.ensures.2) ∙ c.if-intercepts_lctl.false) timed performs,
      calm_so d.change (λ near _. (near.0, timed, near.1)) calm,
    )) unit.ensures.performs

pub returns-else-intercepts_lctl-clause-wants : goal.returns-else-intercepts_lctl-clause-wants
returns-else-intercepts_lctl-clause-wants c = let unit = c.load_control in IfErr-weaker unit.result _ _ (λ w (registers, below). (refl, registers, below)) unit.ensures.wants

pub returns-in-Stctl-clause-operates : goal.returns-in-Stctl-clause-operates
returns-in-Stctl-clause-operates c =
    let a = c.args in
    let unit = c.store_control in
    IfOk-weaker unit.result _ _ (λ d (performs, timed, calm). (
      stctl_leaves a.guest a.clock a.psw a.timer a.control.now a.kept.now a.operation a.registers a.a a.storage.now d
          (λ k same. sym (c.stopped.ensures k same) ∙ c.if-stopped.false) c.wide-r1.result c.wide-r3.result c.wide-r1.ensures.0 c.wide-r3.ensures.0 (omega arith) refl c.in-Stctl.is timed performs,
      calm_so d.change (λ near wrapped. (near wrapped, timed, refl)) calm,
    )) unit.ensures.performs

pub returns-in-Stctl-clause-wants : goal.returns-in-Stctl-clause-wants
returns-in-Stctl-clause-wants c = let unit = c.store_control in IfErr-weaker unit.result _ _ (λ w (bytes, below). (bytes, refl, below)) unit.ensures.wants
