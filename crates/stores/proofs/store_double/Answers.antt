-- `stores::store_double` meets its contract.
use native.Mathlib.Omega.{arith}
use mathlib.Core.Path.{◌∙◌, refl}
use Rattle.machine.specs.Words.{double_bytes}
use Rattle.machine.specs.Psw.{with_psw}
use Rattle.machine.specs.Host.{host}
use Rattle.machine.specs.Execute.{next, operand_address, storing}
use Rattle.words.proofs.Numbers.{double_to_bytes}
use Rattle.stores.proofs.Storing.{does, storing_none, storing_all}
use Rattle.stores.proofs.store_double.Goals as goal

pub reach-requires : goal.reach-requires
reach-requires c =
    record { ready = c.requires; a_value = (c.operand_address-a.ensures.0 c.args.cpu refl, omega arith, omega arith) }

pub returns-in-Err : goal.returns-in-Err
returns-in-Err c =
    let args = c.args in
    let a = c.operand_address-a in
    λ clock. does (λ x. storing x (operand_address x) (double_bytes args.value) (next x (with_psw x.cpu args.psw))) (host args.designation _ _) λ fetched standing.
    storing_none _ _ standing a.result 8 (a.ensures.0 args.cpu refl, omega arith, omega arith) _ _ _ refl (a.ensures.1 _ refl refl refl) refl _
    c.in-Err.done (c.in-Err.ensures.reaches _ _ standing)

pub returns : goal.returns
unfolding with_psw
returns c =
    let args = c.args in
    let a = c.operand_address-a in
    let k = with_psw args.cpu args.psw in
    λ clock. does (λ x. storing x (operand_address x) (double_bytes args.value) (next x (with_psw x.cpu args.psw))) (host args.designation _ _) λ fetched standing.
    storing_all _ _ standing a.result 8 (a.ensures.0 args.cpu refl, omega arith, omega arith) _ _ _ refl (a.ensures.1 _ refl refl refl) refl k
    c.with_psw.result c.in-Ok.o (c.in-Ok.ensures.reaches _ _ standing) c.advanced-past.result c.with_psw.ensures.0 c.with_psw.ensures.1 refl
    (c.advanced-past.ensures k refl) (rw (c.to_be_bytes.ensures ∙ double_to_bytes _) at c.put_operand.ensures)

pub put_operand-requires : goal.put_operand-requires
put_operand-requires c =
    let within = c.in-Ok.ensures.within in
    rw c.to_be_bytes.ensures record { count_bound = within.0; first_in_bounds = within.1; second_in_bounds = within.2 }
