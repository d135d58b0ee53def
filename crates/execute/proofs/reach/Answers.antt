-- `execute::reach` meets its contract.
use mathlib.Core.Path.{refl, sym, subst, ◌∙◌}
use borrow.Author.Rules.{rules}
use Rattle.machine.specs.Host.{host}
use Rattle.execute.specs.Reaching.{InReach}
use Rattle.execute.proofs.Exceptions.{exception_of_state}
use Rattle.execute.proofs.reach.Goals as goal

pub excepted-requires : goal.excepted-requires
excepted-requires c =
    record { ready = c.requires.ready; code_bound = subst (InReach _ _ _) c.in-Err.is c.operand_of.ensures.in_reach }

pub mark_operand-requires : goal.mark_operand-requires
mark_operand-requires c =
    let inside = subst (InReach _ _ _) c.in-Ok.is c.operand_of.ensures.in_reach in
    let first = inside.3 in
    record { first_in_bounds = search (rules, first); second_in_bounds = λ more. let later = inside.4 more in search (rules, later) }

pub returns-in-Err : goal.returns-in-Err
returns-in-Err c =
    let a = c.args in record {
      reaches = λ x clock standing. (
        c.in-Err.f,
        sym c.operand_of.ensures.value ∙ c.in-Err.is,
        exception_of_state (host a.designation _ _) x standing c.in-Err.f c.excepted.result (c.excepted.ensures clock x standing),
      );
      within = tt;
    }

pub returns-in-Ok : goal.returns-in-Ok
returns-in-Ok c =
    let inside = subst (InReach _ _ _) c.in-Ok.is c.operand_of.ensures.in_reach in record {
      reaches = λ x clock standing. (sym c.operand_of.ensures.value ∙ c.in-Ok.is, refl, rw (c.mark_operand.ensures, c.mark_text.ensures) refl);
      within = (inside.0, inside.1, inside.2);
    }
