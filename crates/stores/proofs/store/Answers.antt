-- `stores::store` meets its contract.
use native.Mathlib.Omega.{arith}
use mathlib.Core.Path.{◌∙◌, refl}
use Rattle.machine.specs.Host.{host}
use Rattle.machine.specs.Execute.{store}
use Rattle.words.proofs.Numbers.{word_to_bytes}
use Rattle.stores.proofs.Storing.{does, storing_none, storing_all}
use Rattle.stores.proofs.store.Goals as goal

pub reach-requires : goal.reach-requires
reach-requires c =
    record { ready = c.requires; a_value = (c.indexed_address-a.ensures.0 c.args.cpu refl, omega arith, omega arith) }

pub returns-in-Err : goal.returns-in-Err
unfolding store
returns-in-Err c =
    let args = c.args in
    let a = c.indexed_address-a in
    λ clock. does store (host args.designation _ _) λ fetched standing.
    storing_none _ _ standing a.result 4 (a.ensures.0 args.cpu refl, omega arith, omega arith) _ _ _ refl (a.ensures.1 _ refl refl refl) refl _
    c.in-Err.done (c.in-Err.ensures.reaches _ _ standing)

pub returns : goal.returns
unfolding store
returns c =
    let args = c.args in
    let a = c.indexed_address-a in
    λ clock. does store (host args.designation _ _) λ fetched standing.
    storing_all _ _ standing a.result 4 (a.ensures.0 args.cpu refl, omega arith, omega arith) _ _ _ refl (a.ensures.1 _ refl refl refl) refl args.cpu
    c.with_psw.result c.in-Ok.o (c.in-Ok.ensures.reaches _ _ standing) c.advanced-psw.result c.with_psw.ensures.0 c.with_psw.ensures.1 refl
    (c.advanced-psw.ensures args.cpu refl) (rw (c.to_be_bytes.ensures ∙ word_to_bytes _) at c.put_operand.ensures)

pub put_operand-requires : goal.put_operand-requires
put_operand-requires c =
    let within = c.in-Ok.ensures.within in
    rw c.to_be_bytes.ensures record { count_bound = within.0; first_in_bounds = within.1; second_in_bounds = within.2 }
