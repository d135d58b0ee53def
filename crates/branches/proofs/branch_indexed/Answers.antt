-- `branches::branch_indexed` meets its contract.
use mathlib.Core.Path.{◌≡◌, ap, sym, subst, ◌∙◌}
use Rattle.execute.proofs.Ending.{branched}
use Rattle.interruptions.specs.After.{mark_text}
use Rattle.machine.specs.Execute.{branch_indexed, selected}
use Rattle.machine.specs.Psw.{condition_code}
use Rattle.machine.specs.Words.{bits}
use Rattle.branches.proofs.branch_indexed.Goals as goal

pub returns : goal.returns
unfolding branch_indexed
returns c =
    let a = c.args in
    λ h g clock same x standing.
    branched h x standing c.branch-cpu.result c.selects-taken.result c.indexed_address-a.result
    (subst (λ u. c.selects-taken.result ≡ selected (bits 16 8 11 u.first) (condition_code x.cpu)) (sym standing.of_text)
    (c.selects-taken.ensures x.cpu (ap (λ k. k.psw) standing.of_cpu)))
    (c.indexed_address-a.ensures.1 x (ap (λ k. k.psw) standing.of_cpu) (ap (λ k. k.general) standing.of_cpu) standing.of_text)
    c.branch-cpu.ensures.0 (c.branch-cpu.ensures.1 x standing.of_cpu standing.of_text) (c.mark_text.ensures ∙ ap (mark_text a.t) (sym same))
