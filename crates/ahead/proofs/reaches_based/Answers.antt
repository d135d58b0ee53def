-- `ahead::reaches_based` meets its contract.
use mathlib.Core.Path.{refl, ap, ◌∙◌}
use Rattle.machine.specs.declared.Cpu.{Cpu}
use Rattle.ahead.specs.Completing.{reaches}
use Rattle.ahead.proofs.Reached.{in_hand}
use Rattle.ahead.proofs.reaches_based.Goals as goal

pub reaches-requires : goal.reaches-requires
reaches-requires c =
    record { entered = c.requires.entered; a_value = (c.operand_address-a.ensures.0 c.args.cpu refl, c.requires.le_n.0, c.requires.le_n.1) }

pub returns : goal.returns
returns c =
    let a = c.args in
    λ x hand.
    c.reaches.ensures
    ∙ in_hand _ x hand a.store _ a.n
    ∙ ap (λ at. reaches x a.store at a.n) (c.operand_address-a.ensures.1 x (ap (λ (k : Cpu). k.psw) hand.of_cpu) (ap (λ (k : Cpu). k.general) hand.of_cpu) hand.of_text)
