-- `ahead::reaches_indexed` meets its contract.
use native.Mathlib.Omega.{arith}
use mathlib.Core.Path.{refl, ap, ◌∙◌}
use Rattle.machine.specs.declared.Cpu.{Cpu}
use Rattle.ahead.specs.Completing.{reaches}
use Rattle.ahead.proofs.Reached.{in_hand}
use Rattle.ahead.proofs.reaches_indexed.Goals as goal

pub reaches-requires : goal.reaches-requires
reaches-requires c =
    record { entered = c.requires; a_value = (c.indexed_address-a.ensures.0 c.args.cpu refl, omega arith, omega arith) }

pub returns : goal.returns
returns c =
    let a = c.args in
    λ x hand.
    c.reaches.ensures
    ∙ in_hand _ x hand a.store _ 4
    ∙ ap (λ at. reaches x a.store at 4) (c.indexed_address-a.ensures.1 x (ap (λ (k : Cpu). k.psw) hand.of_cpu) (ap (λ (k : Cpu). k.general) hand.of_cpu) hand.of_text)
