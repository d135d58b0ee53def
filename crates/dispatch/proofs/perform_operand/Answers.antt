-- `dispatch::perform_operand` meets its contract.
use Rattle.machine.specs.Host.{host}
use Rattle.machine.specs.Execute.{execute}
use Rattle.text.proofs.Order.{performed}
use Rattle.dispatch.proofs.Classes.{left_stpt}
use Rattle.dispatch.proofs.perform_operand.Goals as goal

pub returns-in-St : goal.returns-in-St
unfolding execute
returns-in-St c =
    let a = c.args in
    λ x standing.
    performed (host a.designation _ _) a.guest a.cpu x c.store.result c.in-St.is
    (c.store.ensures a.clock x standing)

pub returns-in-L : goal.returns-in-L
unfolding execute
returns-in-L c =
    let a = c.args in
    λ x standing.
    performed (host a.designation _ _) a.guest a.cpu x c.load.result c.in-L.is
    (c.load.ensures a.clock x standing)

pub returns-in-Lpsw : goal.returns-in-Lpsw
unfolding execute
returns-in-Lpsw c =
    let a = c.args in
    λ x standing.
    performed (host a.designation _ _) a.guest a.cpu x c.load_psw.result c.in-Lpsw.is
    (c.load_psw.ensures a.clock x standing)

pub returns-in-Stctl : goal.returns-in-Stctl
unfolding execute
returns-in-Stctl c =
    let a = c.args in
    λ x standing.
    performed (host a.designation _ _) a.guest a.cpu x c.store_control.result c.in-Stctl.is
    (c.store_control.ensures a.clock x standing)

pub returns-in-Lctl : goal.returns-in-Lctl
unfolding execute
returns-in-Lctl c =
    let a = c.args in
    λ x standing.
    performed (host a.designation _ _) a.guest a.cpu x c.load_control.result c.in-Lctl.is
    (c.load_control.ensures a.clock x standing)

pub returns-in-Stck : goal.returns-in-Stck
unfolding execute
returns-in-Stck c =
    let a = c.args in
    λ x standing.
    performed (host a.designation _ _) a.guest a.cpu x c.store_clock.result c.in-Stck.is
    (c.store_clock.ensures x standing)

pub returns-in-Spt : goal.returns-in-Spt
unfolding execute
returns-in-Spt c =
    let a = c.args in
    λ x standing.
    performed (host a.designation _ _) a.guest a.cpu x c.set_timer.result c.in-Spt.is
    (c.set_timer.ensures a.clock x standing)

pub returns-in_default : goal.returns-in_default
unfolding execute
returns-in_default c =
    let a = c.args in
    λ x standing.
    performed (host a.designation _ _) a.guest a.cpu x c.store_timer.result
    (left_stpt a.class c.requires.1 c.in_default.not-St c.in_default.not-L c.in_default.not-Lpsw c.in_default.not-Stctl c.in_default.not-Lctl c.in_default.not-Stck c.in_default.not-Spt)
    (c.store_timer.ensures a.clock x standing)
