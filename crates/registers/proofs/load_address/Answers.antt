-- `registers::load_address` meets its contract.
use mathlib.Core.Path.{refl, ap, sym, ◌∙◌}
use Rattle.execute.proofs.Ending.{register_set}
use Rattle.interruptions.specs.After.{mark_text}
use Rattle.machine.specs.Execute.{load_address}
use Rattle.registers.proofs.load_address.Goals as goal

pub returns : goal.returns
unfolding load_address
returns c =
    let a = c.args in
    λ h g clock same x standing.
    register_set h x standing c.with_general.result c.advanced-psw.result c.indexed_address-value.result
    (c.indexed_address-value.ensures.1 x (ap (λ k. k.psw) standing.of_cpu) (ap (λ k. k.general) standing.of_cpu) standing.of_text)
    (c.advanced-psw.ensures a.cpu refl) c.with_general.ensures.0 c.with_general.ensures.1 (c.mark_text.ensures ∙ ap (mark_text a.t) (sym same))
