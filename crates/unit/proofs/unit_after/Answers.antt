-- `unit::unit_after` meets its contract.
use native.Mathlib.Omega.{arith}
use mathlib.Core.Path.{refl}
use Rattle.machine.specs.Host.{host, view}
use Rattle.machine.specs.Units.{started}
use Rattle.machine.specs.Psw.{with_psw}
use Rattle.interruptions.specs.After.{left_by}
use Rattle.text.proofs.Texts.{standing_started}
use Rattle.text.proofs.Order.{after_ends, after-malformed}
use Rattle.unit.proofs.Order.{list_ends, list_malformed}
use Rattle.unit.proofs.Foretelling.{comes_left, after_comes}
use Rattle.unit.proofs.unit_after.Goals as goal

pub excepted-requires : goal.excepted-requires
excepted-requires c =
    let pre = c.requires in record {
      ready = record { entered = pre.0; with_keys = tt; frames = pre.1; short = rw c.unfetched.ensures (omega arith) };
      code_bound = rw c.exception_of-f.ensures (omega arith);
    }

pub returns-in-Ends : goal.returns-in-Ends
unfolding left_by with_psw
returns-in-Ends c =
    let a = c.args in
    comes_left a.shut (host a.designation _ _) a.guest a.cpu _ _
    (λ f word. list_ends a.guest (host a.designation _ _) word a.clock a.cpu a.before c.in-Ends.is)
    (after_ends (host a.designation _ _) a.guest a.clock a.cpu a.before _ c.in-Ends.reason c.in-Ends.is refl c.with_psw.ensures.1)

pub returns-in-Malformed : goal.returns-in-Malformed
returns-in-Malformed c =
    let a = c.args in
    let h = host a.designation _ _ in
    comes_left a.shut h a.guest a.cpu _ c.excepted.result
    (λ f word. list_malformed a.guest h word a.clock a.cpu a.before c.in-Malformed.is)
    (after-malformed h a.guest a.clock a.cpu a.before c.excepted.result c.exception_of-f.result c.exception_of-f.ensures c.in-Malformed.is
    (c.excepted.ensures a.clock (started a.guest a.clock (view a.guest h) a.cpu 0)
    (standing_started h a.guest a.clock a.cpu 0 c.unfetched.ensures)))

pub returns-in-Instruction : goal.returns-in-Instruction
returns-in-Instruction c =
    let a = c.args in
    after_comes a.shut (host a.designation _ _) a.guest a.clock a.cpu a.before c.instruction.result c.in-Instruction.is c.instruction.ensures
