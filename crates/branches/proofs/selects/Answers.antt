-- `branches::selects` meets its contract.
use mathlib.Core.List.{[]}
use native.Mathlib.Omega.{arith}
use mathlib.Core.Path.{refl, ap, ◌∙◌}
use Rattle.address.specs.Touching.{seen}
use Rattle.machine.specs.Execute.{selected}
use Rattle.execute.proofs.Ending.{small_code}
use Rattle.branches.proofs.selects.Goals as goal

pub selected-requires : goal.selected-requires
selected-requires c =
    let k = seen c.args.psw (record { words = [] }) in
    omega (arith, small_code k, c.condition_code.ensures k refl)

pub returns : goal.returns
returns c = λ k same. c.selected.ensures ∙ ap (selected _) (c.condition_code.ensures k same)
