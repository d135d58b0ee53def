-- `dispatch::perform` meets its contract.
use native.Mathlib.Omega.{arith}
use mathlib.Core.Path.{refl}
use Rattle.machine.specs.Host.{host}
use Rattle.machine.specs.Execute.{execute}
use Rattle.text.proofs.Order.{performed, performed_unassigned}
use Rattle.dispatch.proofs.Classes.{left_with_operand}
use Rattle.dispatch.proofs.perform.Goals as goal

pub excepted-requires : goal.excepted-requires
excepted-requires c = record { ready = c.requires; code_bound = rw c.exception_of-f.ensures (omega arith) }

pub perform_operand-requires : goal.perform_operand-requires
perform_operand-requires c = (c.requires, left_with_operand c.args.class c.in_default.not-Lr c.in_default.not-Ar c.in_default.not-Sr c.in_default.not-Bcr c.in_default.not-Svc c.in_default.not-La c.in_default.not-Bc c.in_default.not-Mandatory c.in_default.not-Unassigned)

pub returns-in-Lr : goal.returns-in-Lr
unfolding execute
returns-in-Lr c =
    let a = c.args in
    λ x standing.
    performed (host a.designation _ _) a.guest a.cpu x c.load_register.result c.in-Lr.is
    (c.load_register.ensures (host a.designation _ _) a.guest a.clock refl x standing)

pub returns-in-Ar : goal.returns-in-Ar
unfolding execute
returns-in-Ar c =
    let a = c.args in
    λ x standing.
    performed (host a.designation _ _) a.guest a.cpu x c.add.result c.in-Ar.is
    (c.add.ensures a.clock x standing)

pub returns-in-Sr : goal.returns-in-Sr
unfolding execute
returns-in-Sr c =
    let a = c.args in
    λ x standing.
    performed (host a.designation _ _) a.guest a.cpu x c.subtract.result c.in-Sr.is
    (c.subtract.ensures a.clock x standing)

pub returns-in-Bcr : goal.returns-in-Bcr
unfolding execute
returns-in-Bcr c =
    let a = c.args in
    λ x standing.
    performed (host a.designation _ _) a.guest a.cpu x c.branch_register.result c.in-Bcr.is
    (c.branch_register.ensures (host a.designation _ _) a.guest a.clock refl x standing)

pub returns-in-Svc : goal.returns-in-Svc
unfolding execute
returns-in-Svc c =
    let a = c.args in
    λ x standing.
    performed (host a.designation _ _) a.guest a.cpu x c.supervisor_call.result c.in-Svc.is
    (c.supervisor_call.ensures a.clock x standing)

pub returns-in-La : goal.returns-in-La
unfolding execute
returns-in-La c =
    let a = c.args in
    λ x standing.
    performed (host a.designation _ _) a.guest a.cpu x c.load_address.result c.in-La.is
    (c.load_address.ensures (host a.designation _ _) a.guest a.clock refl x standing)

pub returns-in-Bc : goal.returns-in-Bc
unfolding execute
returns-in-Bc c =
    let a = c.args in
    λ x standing.
    performed (host a.designation _ _) a.guest a.cpu x c.branch_indexed.result c.in-Bc.is
    (c.branch_indexed.ensures (host a.designation _ _) a.guest a.clock refl x standing)

pub returns-in-Mandatory : goal.returns-in-Mandatory
unfolding execute
returns-in-Mandatory c =
    let a = c.args in
    λ x standing.
    performed (host a.designation _ _) a.guest a.cpu x c.intercept_instruction.result c.in-Mandatory.is
    (c.intercept_instruction.ensures (host a.designation _ _) a.guest a.clock a.t x standing)

pub returns-in-Unassigned : goal.returns-in-Unassigned
returns-in-Unassigned c =
    let a = c.args in
    λ x standing.
    performed_unassigned (host a.designation _ _) a.guest a.cpu x c.excepted.result c.exception_of-f.result
    c.exception_of-f.ensures c.in-Unassigned.is (c.excepted.ensures a.clock x standing)

pub returns-in_default : goal.returns-in_default
returns-in_default c = c.perform_operand.ensures
