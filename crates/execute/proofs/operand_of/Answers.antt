-- `execute::operand_of` meets its contract.
use mathlib.Core.Path.{sym, subst, ◌∙◌}
use Rattle.operands.proofs.Seen.{operand_seen}
use Rattle.execute.specs.Reaching.{InReach}
use Rattle.execute.proofs.Reaching.{small_of_wrap, in_reach}
use Rattle.execute.proofs.operand_of.Goals as goal

pub find_operand-requires : goal.find_operand-requires
find_operand-requires c =
    (c.requires.entered.0, c.requires.entered.1, small_of_wrap c.args.cpu _ c.requires.a_value.0)

pub returns : goal.returns
returns c =
    let a = c.args in
    let (wrapped, some, few) = c.requires.a_value in
    let found = c.find_operand.ensures ∙ sym (operand_seen a.guest _ a.cpu a.store a.a a.n) in
    record {
      value = found;
      in_reach = subst (InReach _ _ _) (sym found) (in_reach a.guest a.designation _ _ a.cpu a.store a.a a.n wrapped some few c.requires.entered.1);
    }
