-- `ahead::performs` meets its contract.
use Prim.Native.Nat.{◌*◌}
use mathlib.Core.Path.{ap, sym, ◌∙◌}
use mathlib.Core.Bool.{true, false}
use Rattle.machine.specs.declared.Class.{Class}
use Rattle.machine.specs.Execute.{operand_address}
use Rattle.ahead.specs.Completing.{reaches, performs}
use Rattle.ahead.proofs.performs.Goals as goal

pub returns-in-Stctl : goal.returns-in-Stctl
unfolding performs
returns-in-Stctl c =
    λ x hand.
    c.reaches_based-in-Stctl.ensures x hand
    ∙ ap (λ n. reaches x true (operand_address x) (4 * n)) (c.range_count-n.ensures.2 x hand.of_text)
    ∙ sym (ap (λ (k : Class). performs k x) c.in-Stctl.is)

pub returns-in-Lctl : goal.returns-in-Lctl
unfolding performs
returns-in-Lctl c =
    λ x hand.
    c.reaches_based-in-Lctl.ensures x hand
    ∙ ap (λ n. reaches x false (operand_address x) (4 * n)) (c.range_count-n.ensures.2 x hand.of_text)
    ∙ sym (ap (λ (k : Class). performs k x) c.in-Lctl.is)
