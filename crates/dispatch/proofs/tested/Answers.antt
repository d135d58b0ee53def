-- `dispatch::tested` meets its contract, test by test.
use native.Mathlib.Omega.{arith}
use mathlib.Core.Path.{ap, sym, ◌∙◌}
use Rattle.machine.specs.Units.{misaligned, decoded}
use Rattle.dispatch.proofs.tested.Goals as goal

pub returns-then-unassigned : goal.returns-then-unassigned
unfolding decoded
returns-then-unassigned c = record { o_value = λ x guest psw general text. rw (sym c.unassigned.ensures ∙ c.if-unassigned.true); result_bound = omega arith }

pub returns-then-forbidden : goal.returns-then-forbidden
unfolding decoded
returns-then-forbidden c =
    record {
      o_value = λ x guest psw general text.
          rw (sym c.unassigned.ensures ∙ c.if-unassigned.false, sym (c.forbidden.ensures x.cpu psw) ∙ c.if-forbidden.true);
      result_bound = omega arith;
    }

pub returns-then-intercepts : goal.returns-then-intercepts
unfolding decoded
returns-then-intercepts c =
    record {
      o_value = λ x guest psw general text.
          rw (
            sym c.unassigned.ensures ∙ c.if-unassigned.false,
            sym (c.forbidden.ensures x.cpu psw) ∙ c.if-forbidden.false,
            sym (c.intercepts.ensures x guest text) ∙ c.if-intercepts.true,
          );
      result_bound = omega arith;
    }

pub returns-then-misaligned : goal.returns-then-misaligned
unfolding decoded
returns-then-misaligned c =
    let a = c.args in record {
      o_value = λ x guest psw general text.
          let at = c.operand_address-a.ensures.1 x psw general text in
          rw (
            sym c.unassigned.ensures ∙ c.if-unassigned.false,
            sym (c.forbidden.ensures x.cpu psw) ∙ c.if-forbidden.false,
            sym (c.intercepts.ensures x guest text) ∙ c.if-intercepts.false,
            ap (misaligned a.o.alignment) (sym at) ∙ sym c.misaligned.ensures ∙ c.if-misaligned.true,
          );
      result_bound = omega arith;
    }

pub returns : goal.returns
unfolding decoded
returns c =
    let a = c.args in record {
      o_value = λ x guest psw general text.
          let at = c.operand_address-a.ensures.1 x psw general text in
          rw (
            sym c.unassigned.ensures ∙ c.if-unassigned.false,
            sym (c.forbidden.ensures x.cpu psw) ∙ c.if-forbidden.false,
            sym (c.intercepts.ensures x guest text) ∙ c.if-intercepts.false,
            ap (misaligned a.o.alignment) (sym at) ∙ sym c.misaligned.ensures ∙ c.if-misaligned.false,
          );
      result_bound = omega arith;
    }
