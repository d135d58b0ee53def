-- `branches::branch_register` meets its contract.
use mathlib.Core.Bool.{not, ◌&&◌}
use lib.Dec.{eqb}
use mathlib.Core.Path.{◌≡◌, ap, sym, subst, ◌∙◌}
use Rattle.execute.proofs.Ending.{second_register, branched}
use Rattle.interruptions.specs.After.{mark_text}
use Rattle.machine.specs.Execute.{branch_register, selected}
use Rattle.machine.specs.Psw.{condition_code}
use Rattle.machine.specs.Words.{bits}
use Rattle.branches.proofs.branch_register.Goals as goal

pub returns : goal.returns
unfolding branch_register
returns c =
    let a = c.args in
    λ h g clock same x standing.
    branched h x standing c.branch-cpu.result c.selects_register-taken.result _
    (subst (λ u. c.selects_register-taken.result ≡ (not (eqb (bits 16 12 15 u.first) 0) && selected (bits 16 8 11 u.first) (condition_code x.cpu))) (sym standing.of_text)
    (c.selects_register-taken.ensures x.cpu (ap (λ k. k.psw) standing.of_cpu)))
    (second_register h x standing)
    c.branch-cpu.ensures.0 (c.branch-cpu.ensures.1 x standing.of_cpu standing.of_text) (c.mark_text.ensures ∙ ap (mark_text a.t) (sym same))
