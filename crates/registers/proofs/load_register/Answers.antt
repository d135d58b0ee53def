-- `registers::load_register` meets its contract.
use mathlib.Core.Path.{refl, ap, sym, ◌∙◌}
use Rattle.execute.proofs.Ending.{second_register, register_set}
use Rattle.interruptions.specs.After.{mark_text}
use Rattle.machine.specs.Execute.{load_register}
use Rattle.registers.proofs.load_register.Goals as goal

pub returns : goal.returns
unfolding load_register
returns c =
    let a = c.args in
    λ h g clock same x standing.
    register_set h x standing c.with_general.result c.advanced-psw.result _
    (second_register h x standing) (c.advanced-psw.ensures a.cpu refl) c.with_general.ensures.0
    c.with_general.ensures.1 (c.mark_text.ensures ∙ ap (mark_text a.t) (sym same))
