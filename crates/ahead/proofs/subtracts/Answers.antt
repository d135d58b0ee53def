-- `ahead::subtracts` meets its contract.
use native.Mathlib.Nat.{div-one}
use mathlib.Core.Path.{refl, ap, ◌∙◌}
use Rattle.machine.specs.declared.Cpu.{Cpu}
use Rattle.ahead.specs.Completing.{performs}
use Rattle.ahead.proofs.subtracts.Goals as goal

pub returns : goal.returns
unfolding performs
returns c =
    λ x own same.
    c.passes.ensures x.cpu (ap (λ (k : Cpu). k.psw) own) ∙ rw (c.subtract-sum.ensures.1, own, same, div-one) refl
