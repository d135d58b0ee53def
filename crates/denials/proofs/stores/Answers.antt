-- `denials::stores` meets its contract.
use mathlib.Core.Path.{refl}
use mathlib.Core.Logic.{⊎_elim}
use mathlib.Core.Bool.{true}
use Rattle.machine.specs.declared.Class.TheVariants.{St, Stctl, Stck, Stpt}
use Rattle.machine.specs.Execute.{operand_address, indexed_address}
use Rattle.execute.proofs.Reaching.{not_both}
use Rattle.denials.proofs.Reaching.{of_class, reaching_st, reaching_stctl, reaching_stck, reaching_stpt}
use Rattle.denials.proofs.stores.Goals as goal

pub returns-in-St : goal.returns-in-St
returns-in-St c =
    let args = c.args in
    λ yes. of_class args.psw args.general args.text args.a args.class St true indexed_address c.indexed_address.result
    c.in-St.is yes c.indexed_address.ensures
    (reaching_st args.psw args.general args.text args.a)

pub returns-in-Stctl : goal.returns-in-Stctl
returns-in-Stctl c =
    let args = c.args in
    ⊎_elim (λ is yes. of_class args.psw args.general args.text args.a args.class Stctl true operand_address c.operand_address.result is yes c.operand_address.ensures (reaching_stctl args.psw args.general args.text args.a))
    (⊎_elim (λ is yes. of_class args.psw args.general args.text args.a args.class Stck true operand_address c.operand_address.result is yes c.operand_address.ensures (reaching_stck args.psw args.general args.text args.a))
    (λ is yes. of_class args.psw args.general args.text args.a args.class Stpt true operand_address c.operand_address.result is yes c.operand_address.ensures (reaching_stpt args.psw args.general args.text args.a)))
    c.in-Stctl.is

pub returns-in_default : goal.returns-in_default
returns-in_default c = λ yes. not_both yes refl
