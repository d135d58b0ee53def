-- `dispatch::intercepts` meets its contract.
use native.Mathlib.Nat.{div-one}
use mathlib.Core.Path.{refl, sym, ◌∙◌}
use Rattle.machine.specs.Words.{bits}
use Rattle.machine.specs.Units.{intercepts_lctl, intercepts}
use Rattle.dispatch.proofs.Classes.{other}
use Rattle.dispatch.proofs.intercepts.Goals as goal

pub returns-in-Svc : goal.returns-in-Svc
unfolding intercepts
returns-in-Svc c = λ x guest text. rw (c.in-Svc.is, guest, text, div-one) c.intercepts_svc.ensures

pub returns-in-Lpsw : goal.returns-in-Lpsw
unfolding intercepts
returns-in-Lpsw c = λ x guest text. rw (c.in-Lpsw.is, guest) refl

pub returns-in-Lctl : goal.returns-in-Lctl
unfolding intercepts
returns-in-Lctl c =
    λ x guest text.
    rw c.in-Lctl.is
    (c.intercepts_lctl.ensures ∙ (λ i. intercepts_lctl (sym guest i) (bits 16 8 11 (sym text i).first) (c.range_count.ensures.2 x text i)))

-- a class that never asks
pub returns-in_default : goal.returns-in_default
unfolding intercepts
returns-in_default c =
    λ x guest text. rw (other c.in_default.not-Svc, other c.in_default.not-Lpsw, other c.in_default.not-Lctl)
