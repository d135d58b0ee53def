-- `denials::of_operand` meets its contract.
use Prim.Native.Nat.{ℕ}
use native.Mathlib.Omega.{arith}
use mathlib.Core.Path.{◌≡◌, refl, ap, subst}
use mathlib.Core.List.{List}
use Rattle.std.proofs.lemmas.Result.{IfOk-weaker}
use Rattle.machine.specs.declared.Cpu.{Cpu}
use Rattle.machine.specs.declared.Psw.{Psw}
use Rattle.machine.specs.Psw.{instruction_address}
use Rattle.machine.specs.Opcodes.{opcode_of}
use Rattle.machine.specs.Interruptions.{exception}
use Rattle.decode.proofs.Table.{length_at_most, alignment_some}
use Rattle.psws.specs.Psws.{state}
use Rattle.lap.specs.declared.Landing.{Landing}
use Rattle.lap.specs.Stepping.{Lands}
use Rattle.calls.specs.Calling.{Interrupts}
use Rattle.special.specs.Performing.{psw_in}
use Rattle.exceptions.specs.Excepting.{Having}
use Rattle.exceptions.proofs.Excepting.{address_small, base-small, in_storage_lem}
use Rattle.denials.specs.Denying.{Stopping}
use Rattle.denials.proofs.Denying.{operand_denies}
use Rattle.denials.proofs.of_operand.Goals as goal

pub land-requires : goal.land-requires
land-requires c =
    let psw = c.args.psw in
    omega (arith, c.instruction_address.ensures (state psw) refl, address_small (state psw))

-- where the text was found
found : (psw : Psw) (kept : List ℕ) (address : ℕ) (l : Landing) → ((c : Cpu) → c.psw ≡ psw → address ≡ instruction_address c)
    → Lands kept address l → Lands kept (instruction_address (state psw)) l
found psw kept address l is lands = subst (λ a. Lands kept a l) (is (state psw) refl) lands

pub overflow_add-place : goal.overflow_add-place
overflow_add-place c =
    let a = c.args in
    record { fits = omega (arith, base-small a.psw a.kept.now a.storage.now c.requires.0 c.in-Some.place (found a.psw a.kept.now _ c.in-Some.place c.instruction_address.ensures (c.land.ensures c.in-Some.place c.in-Some.is))) }

-- a text of three halfwords stands there
pub half_at-first-requires : goal.half_at-first-requires
half_at-first-requires c =
    let a = c.args in
    omega (arith, in_storage_lem a.psw a.kept.now a.storage.now c.requires.0 c.in-Some.place (found a.psw a.kept.now _ c.in-Some.place c.instruction_address.ensures (c.land.ensures c.in-Some.place c.in-Some.is)) c.if-place.false)

pub text_at-text-requires : goal.text_at-text-requires
unfolding opcode_of
text_at-text-requires c =
    let a = c.args in (
      in_storage_lem a.psw a.kept.now a.storage.now c.requires.0 c.in-Some.place (found a.psw a.kept.now _ c.in-Some.place c.instruction_address.ensures (c.land.ensures c.in-Some.place c.in-Some.is)) c.if-place.false,
      ap (λ o. o.length) c.decode-o.ensures,
      c.half_at-first.ensures.1,
    )

pub stops-requires : goal.stops-requires
stops-requires c = rw c.decode-o.ensures (alignment_some _ _)

pub excepted-requires : goal.excepted-requires
excepted-requires c = (c.requires.2, rw c.decode-o.ensures (length_at_most _ _), c.requires.3, c.requires.4)

pub returns-clause-denying : goal.returns-clause-denying
unfolding opcode_of
returns-clause-denying c =
    let w = c.args in
    let l = c.in-Some.place in
    let first = c.half_at-first.result in
    IfOk-weaker c.excepted.result _ _ (λ d (same, placed, interrupts, calmly). (
      operand_denies w.guest w.psw w.timer w.words.now w.area c.requires.1 w.f w.storage.now d c.excepted.new.storage same placed
          w.kept.now c.requires.0 l (found w.psw w.kept.now _ l c.instruction_address.ensures (c.land.ensures c.in-Some.place c.in-Some.is)) c.if-place.false first c.half_at-first.ensures.0
          (subst (λ n. Interrupts w.area w.psw (Having w.guest n) (λ x. exception x x.cpu w.f) w.storage.now (psw_in d w.psw) c.excepted.new.storage)
          (ap (λ o. o.length) c.decode-o.ensures) interrupts)
          w.store w.a
          (subst (λ t. Stopping (opcode_of w.psw.system370 first) w.guest w.psw (record { words = w.words.now }) t w.store w.a) c.text_at-text.ensures
          (subst (λ o. Stopping o w.guest w.psw (record { words = w.words.now }) c.text_at-text.result w.store w.a) c.decode-o.ensures
          (c.stops.ensures c.if-not-stops.false))),
      calmly,
    )) c.excepted.ensures.interrupts
