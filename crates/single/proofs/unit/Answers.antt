-- `single::unit` meets its contract.
use Prim.Native.Nat.{ℕ, ◌+◌, ◌<◌}
use native.Mathlib.Omega.{arith}
use mathlib.Core.Path.{◌≡◌, refl, sym, subst}
use mathlib.Core.List.{List}
use Rattle.std.proofs.lemmas.Result.{IfOk-weaker, IfErr-weaker}
use lib.ListN.{get_or}
use Rattle.machine.specs.declared.Cpu.{Cpu}
use Rattle.machine.specs.declared.Psw.{Psw}
use Rattle.machine.specs.Psw.{instruction_address}
use Rattle.psws.specs.Psws.{state}
use Rattle.lap.specs.declared.Landing.{Landing}
use Rattle.lap.specs.Stepping.{Lands}
use Rattle.special.specs.Performing.{IfCalm}
use Rattle.single.specs.Deciding.{KindIs}
use Rattle.single.proofs.Meeting.{calm_so}
use Rattle.single.proofs.Singling.{address_small, text_inside, operates_singles, calls_singles}
use borrow.Author.Rules.{rules}
use Rattle.single.proofs.unit.Goals as goal

-- where the text was found
found : (psw : Psw) (kept : List ℕ) (address : ℕ) (l : Landing) → ((c : Cpu) → c.psw ≡ psw → address ≡ instruction_address c)
    → Lands kept address l → Lands kept (instruction_address (state psw)) l
found psw kept address l is lands = subst (λ n. Lands kept n l) (is (state psw) refl) lands

pub land-requires : goal.land-requires
land-requires c =
    let psw = c.args.psw in
    omega (arith, c.instruction_address-address.ensures (state psw) refl, address_small (state psw))

pub overflow_add-text : goal.overflow_add-text
overflow_add-text c =
    let a = c.args in
    let inside = text_inside a.storage.now a.kept.now c.requires.0 a.psw c.in-Some.text (found a.psw a.kept.now _ c.in-Some.text c.instruction_address-address.ensures (c.land.ensures c.in-Some.text c.in-Some.is)) in
    record { fits = omega (arith, inside.1) }

pub overflow_add-registers : goal.overflow_add-registers
overflow_add-registers c =
    let a = c.args in
    let inside = text_inside a.storage.now a.kept.now c.requires.0 a.psw c.in-Some.text (found a.psw a.kept.now _ c.in-Some.text c.instruction_address-address.ensures (c.land.ensures c.in-Some.text c.in-Some.is)) in
    record { fits = omega (arith, inside.1, c.if-at-text.false) }

pub bounds-storage-at : goal.bounds-storage-at
bounds-storage-at c =
    let a = c.args in
    let inside = text_inside a.storage.now a.kept.now c.requires.0 a.psw c.in-Some.text (found a.psw a.kept.now _ c.in-Some.text c.instruction_address-address.ensures (c.land.ensures c.in-Some.text c.in-Some.is)) in
    omega (arith, inside.0, c.if-at-text.false)

pub bounds-storage-at-2 : goal.bounds-storage-at-2
bounds-storage-at-2 c =
    let a = c.args in
    let inside = text_inside a.storage.now a.kept.now c.requires.0 a.psw c.in-Some.text (found a.psw a.kept.now _ c.in-Some.text c.instruction_address-address.ensures (c.land.ensures c.in-Some.text c.in-Some.is)) in
    omega (arith, inside.0, c.if-at-text.false)

pub call-requires : goal.call-requires
call-requires c = (omega arith, c.requires.3)

pub returns-in-Svc-clause-singles : goal.returns-in-Svc-clause-singles
returns-in-Svc-clause-singles c =
    let a = c.args in
    let at = c.in-Some.text.at in
    let unit = c.call in
    let kind = subst (KindIs (get_or a.storage.now at 0) (get_or a.storage.now (at + 1) 0)) c.in-Svc.is c.kind_of.ensures in
    IfOk-weaker unit.result _ _ (λ d (calls, time, called). (
      calls_singles a.storage.now a.kept.now c.requires.0 a.psw c.in-Some.text (found a.psw a.kept.now _ c.in-Some.text c.instruction_address-address.ensures (c.land.ensures c.in-Some.text c.in-Some.is)) (omega (arith, c.if-at-text.false)) a.words.now c.requires.1.long
          a.guest a.clock a.timer a.control.now a.area d a.control.now unit.new.storage _ (get_or a.storage.now (at + 1) 0) refl refl (omega arith)
          kind time refl calls,
      calm_so d.change (λ never. absurd never) (subst (λ change. IfCalm change ⊥) (sym called) tt),
    )) unit.ensures.calls

pub returns-in-Svc-clause-wants : goal.returns-in-Svc-clause-wants
returns-in-Svc-clause-wants c = let unit = c.call in IfErr-weaker unit.result _ _ (λ w (bytes, below). (bytes, refl, below)) unit.ensures.wants

pub operand-a-requires : goal.operand-a-requires
operand-a-requires c =
    let a = c.args in
    let inside = text_inside a.storage.now a.kept.now c.requires.0 a.psw c.in-Some.text (found a.psw a.kept.now _ c.in-Some.text c.instruction_address-address.ensures (c.land.ensures c.in-Some.text c.in-Some.is)) in
    omega (arith, inside.0, c.if-at-text.false)

pub returns-in-With-clause-singles : goal.returns-in-With-clause-singles
returns-in-With-clause-singles c =
    let a = c.args in
    let at = c.in-Some.text.at in
    let unit = c.with_operand in
    let place = c.operand-a in
    let long = c.is_long in
    let registers = get_or a.storage.now (at + 1) 0 in
    let operation = c.in-With.operation in
    let kind = subst (KindIs (get_or a.storage.now at 0) registers) c.in-With.is c.kind_of.ensures in
    let two : get_or a.storage.now (at + 2) 0 < 256 = search rules in
    let three : get_or a.storage.now (at + 2 + 1) 0 < 256 = search rules in
    IfOk-weaker unit.result _ _ (λ d (operates, calm). (
      operates_singles a.storage.now a.kept.now c.requires.0 a.psw c.in-Some.text (found a.psw a.kept.now _ c.in-Some.text c.instruction_address-address.ensures (c.land.ensures c.in-Some.text c.in-Some.is)) (omega (arith, c.if-at-text.false)) a.words.now c.requires.1.long
          a.guest a.clock a.timer a.control.now a.area d unit.new.control unit.new.storage _ registers refl refl (omega arith)
          kind.1 kind.2 (omega arith) operation kind.0
          long.result (long.ensures (state a.psw) refl) place.result place.ensures.0 operates,
      calm,
    )) unit.ensures.operates
