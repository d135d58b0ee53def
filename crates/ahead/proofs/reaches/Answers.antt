-- `ahead::reaches` meets its contract.
use mathlib.Core.Path.{ap, sym, ◌∙◌}
use Rattle.operands.proofs.Seen.{operand_seen}
use Rattle.std.specs.Prelude.{is_ok}
use Rattle.ahead.proofs.Reached.{open_reached, small_address}
use Rattle.ahead.proofs.reaches.Goals as goal

pub find_operand-operand-requires : goal.find_operand-operand-requires
find_operand-operand-requires c =
    (c.requires.entered.0, c.requires.entered.1, small_address c.args.cpu _ c.requires.a_value.0)

pub returns : goal.returns
returns c =
    let a = c.args in
    let (wrapped, some, few) = c.requires.a_value in
    c.is_ok.ensures.value
    ∙ ap is_ok (c.find_operand-operand.ensures ∙ sym (operand_seen a.guest _ a.cpu a.store a.a a.n))
    ∙ open_reached a.guest _ a.cpu a.store a.a a.n wrapped some few
