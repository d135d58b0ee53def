-- `registers::supervisor_call` meets its contract.
use Prim.Native.Nat.{◌%◌}
use native.Mathlib.Omega.{arith}
use mathlib.Core.Path.{refl, ap, ◌∙◌}
use Rattle.machine.specs.Psw.{with_psw}
use Rattle.machine.specs.Host.{host}
use Rattle.interruptions.specs.After.{cpu_by}
use Rattle.interruptions.proofs.Leaving.{left_taken}
use Rattle.execute.proofs.Exceptions.{ilc_of-word}
use Rattle.execute.proofs.Ending.{supervisor_called}
use Rattle.registers.proofs.supervisor_call.Goals as goal

pub returns : goal.returns
unfolding with_psw
returns c =
    let a = c.args in
    let psw = c.advanced-psw.result in
    let took = c.take-took.result in
    let to = with_psw a.cpu psw in
    λ clock x standing.
    supervisor_called (host a.designation _ _) x standing c.requires.short c.interrupted.result psw to (c.advanced-psw.ensures a.cpu refl) refl
    (left_taken (host a.designation _ _) a.guest a.cpu to _ took c.interrupted.result
    (c.take-took.ensures x clock a.cpu to a.text standing refl
    (ilc_of-word a.text.ilc (a.text.first % 256) c.requires.short (omega arith)))
    c.interrupted.ensures.0
    (c.interrupted.ensures.1 a.cpu c.with_psw.ensures.2 ∙ ap (λ k. cpu_by a.cpu k took) c.with_psw.ensures.1))
