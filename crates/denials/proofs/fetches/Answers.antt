-- `denials::fetches` meets its contract.
use mathlib.Core.Path.{refl}
use mathlib.Core.Logic.{⊎_elim}
use mathlib.Core.Bool.{false}
use Rattle.machine.specs.declared.Class.TheVariants.{L, Lpsw, Lctl, Spt}
use Rattle.machine.specs.Execute.{operand_address, indexed_address}
use Rattle.execute.proofs.Reaching.{not_both}
use Rattle.denials.proofs.Reaching.{of_class, reaching_l, reaching_lpsw, reaching_lctl, reaching_spt}
use Rattle.denials.proofs.fetches.Goals as goal

pub returns-in-L : goal.returns-in-L
returns-in-L c =
    let args = c.args in
    λ yes. of_class args.psw args.general args.text args.a args.class L false indexed_address c.indexed_address.result
    c.in-L.is yes c.indexed_address.ensures
    (reaching_l args.psw args.general args.text args.a)

pub returns-in-Lpsw : goal.returns-in-Lpsw
returns-in-Lpsw c =
    let args = c.args in
    ⊎_elim (λ is yes. of_class args.psw args.general args.text args.a args.class Lpsw false operand_address c.operand_address.result is yes c.operand_address.ensures (reaching_lpsw args.psw args.general args.text args.a))
    (⊎_elim (λ is yes. of_class args.psw args.general args.text args.a args.class Lctl false operand_address c.operand_address.result is yes c.operand_address.ensures (reaching_lctl args.psw args.general args.text args.a))
    (λ is yes. of_class args.psw args.general args.text args.a args.class Spt false operand_address c.operand_address.result is yes c.operand_address.ensures (reaching_spt args.psw args.general args.text args.a)))
    c.in-Lpsw.is

pub returns-in_default : goal.returns-in_default
returns-in_default c = λ yes. not_both yes refl
