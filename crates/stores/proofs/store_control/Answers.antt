-- `stores::store_control` meets its contract.
use Prim.Native.Nat.{◌*◌}
use native.Mathlib.Omega.{arith}
use mathlib.Core.Path.{refl, ap}
use Rattle.machine.specs.Words.{bits, words_bytes}
use Rattle.machine.specs.Host.{host}
use Rattle.machine.specs.Execute.{controls_from, store_control}
use Rattle.stores.proofs.Controls.{length_controls}
use Rattle.stores.proofs.Storing.{does, storing_none, storing_all}
use Rattle.stores.proofs.store_control.Goals as goal

pub reach-requires : goal.reach-requires
reach-requires c =
    record { ready = c.requires; a_value = (c.operand_address-a.ensures.0 c.args.cpu refl, omega arith, omega arith) }

pub returns-in-Err : goal.returns-in-Err
unfolding store_control
returns-in-Err c =
    let args = c.args in
    let a = c.operand_address-a in
    let k = c.range_count-k in
    let i = bits 16 8 11 args.text.first in
    λ clock. does store_control (host args.designation _ _) λ fetched standing.
    storing_none _ _ standing a.result (4 * k.result) (a.ensures.0 args.cpu refl, omega arith, omega arith) _ _ _ (length_controls args.cpu i k.result)
    (a.ensures.1 _ refl refl refl) (ap (λ m. words_bytes (controls_from args.cpu i m)) (k.ensures.2 _ refl)) _
    c.in-Err.done (c.in-Err.ensures.reaches _ _ standing)

pub returns : goal.returns
unfolding store_control
returns c =
    let args = c.args in
    let a = c.operand_address-a in
    let k = c.range_count-k in
    let i = bits 16 8 11 args.text.first in
    λ clock. does store_control (host args.designation _ _) λ fetched standing.
    storing_all _ _ standing a.result (4 * k.result) (a.ensures.0 args.cpu refl, omega arith, omega arith) _ _ _ (length_controls args.cpu i k.result)
    (a.ensures.1 _ refl refl refl) (ap (λ m. words_bytes (controls_from args.cpu i m)) (k.ensures.2 _ refl)) args.cpu
    c.with_psw.result c.in-Ok.o (c.in-Ok.ensures.reaches _ _ standing) c.advanced-psw.result c.with_psw.ensures.0 c.with_psw.ensures.1 refl
    (c.advanced-psw.ensures args.cpu refl) (c.put_control_operand.ensures args.cpu refl)
