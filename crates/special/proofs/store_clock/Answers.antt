-- `special::store_clock` meets its contract.
use native.Mathlib.Omega.{arith}
use mathlib.Core.Path.{◌≡◌, sym, subst}
use Rattle.std.proofs.lemmas.Result.{IfOk-weaker}
use Rattle.machine.specs.declared.Cpu.{Cpu}
use Rattle.machine.specs.declared.Psw.{Psw}
use Rattle.machine.specs.Psw.{advanced, with_condition_code}
use Rattle.special.specs.Performing.{Near}
use Rattle.special.proofs.Leaving.{in_calm, coded_psw, coded_near}
use Rattle.special.proofs.Instructions.{clock_performed}
use borrow.Author.Rules.{rules}
use Rattle.special.proofs.store_clock.Goals as goal

-- the PSW past the instruction, with condition code 0
past_coded : (psw coded next : Psw) → ((k : Cpu) → k.psw ≡ psw → (with_condition_code k 0).psw ≡ coded) → ((k : Cpu) → k.psw ≡ coded → next ≡ (advanced k 2).psw)
    → (k : Cpu) → k.psw ≡ psw → next ≡ (advanced (with_condition_code k 0) 2).psw
past_coded psw coded next codes moves k same = moves (with_condition_code k 0) (codes k same)

pub returns-clause-performs : goal.returns-clause-performs
returns-clause-performs c =
    let unit = c.store_double in
    let a = c.args in
    let psw = c.with_condition_code in
    let next = c.advanced-next.result in
    let past = past_coded a.psw psw.result next (λ k same. sym (psw.ensures k same)) c.advanced-next.ensures in
    IfOk-weaker unit.result _ _ (λ d (own, timed). (
      clock_performed a.kept.now a.storage.now a.psw a.a c.requires.1 next c.guest_clock.result d unit.new.storage own a.epoch a.clock c.guest_clock.ensures past,
      timed,
      in_calm d.change (λ wrapped.
          subst (Near a.psw) (sym (coded_psw a.psw next 2 0 past d own.left own.right))
          (coded_near a.psw next 2 (search rules) (search rules) wrapped 0 (omega arith) past)),
    )) unit.ensures.stored
