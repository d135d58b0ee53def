-- `exceptions::tested` meets its contract.
use Prim.Native.Nat.{ℕ, ◌<◌}
use native.Mathlib.Omega.{arith}
use mathlib.Core.Path.{◌≡◌, refl, ap, sym, subst, ◌∙◌}
use mathlib.Core.Bool.{true}
use mathlib.Core.List.{List}
use Rattle.std.proofs.lemmas.Result.{IfOk-weaker}
use Rattle.machine.specs.declared.Cpu.{Cpu}
use Rattle.machine.specs.declared.Psw.{Psw}
use Rattle.machine.specs.Psw.{instruction_address}
use Rattle.machine.specs.declared.Class.TheVariants.{Unassigned}
use Rattle.machine.specs.declared.Opcode.{Opcode}
use Rattle.machine.specs.Failures.{operation, exception_of}
use Rattle.machine.specs.Opcodes.{same_class, opcode_of}
use Rattle.machine.specs.Outcomes.{Progress}
use Rattle.machine.specs.Interruptions.{exception}
use Rattle.machine.specs.Units.{decoded}
use Rattle.decode.proofs.Table.{length_at_most, alignment_some}
use Rattle.dispatch.specs.Testing.{after_tests, exception_code}
use Rattle.psws.specs.Psws.{state}
use Rattle.lap.specs.declared.Landing.{Landing}
use Rattle.lap.specs.Stepping.{Lands}
use Rattle.calls.specs.Calling.{Interrupts}
use Rattle.special.specs.Performing.{psw_in}
use Rattle.exceptions.specs.Excepting.{Having}
use Rattle.exceptions.proofs.Excepting.{address_small, base-small, in_storage_lem, singles_so}
use Rattle.exceptions.proofs.tested.Goals as goal

pub land-requires : goal.land-requires
land-requires c =
    let psw = c.args.psw in
    omega (arith, c.instruction_address.ensures (state psw) refl, address_small (state psw))

-- where the text was found
found : (psw : Psw) (kept : List ℕ) (address : ℕ) (l : Landing) → ((c : Cpu) → c.psw ≡ psw → address ≡ instruction_address c)
    → Lands kept address l → Lands kept (instruction_address (state psw)) l
found psw kept address l is lands = subst (λ a. Lands kept a l) (is (state psw) refl) lands

pub overflow_add-place : goal.overflow_add-place
overflow_add-place c =
    record { fits = omega (arith, base-small c.args.psw c.args.kept.now c.args.storage.now c.requires.0 c.in-Some.place (found c.args.psw c.args.kept.now _ c.in-Some.place c.instruction_address.ensures (c.land.ensures c.in-Some.place c.in-Some.is))) }

pub half_at-first-requires : goal.half_at-first-requires
half_at-first-requires c = omega (arith, in_storage_lem c.args.psw c.args.kept.now c.args.storage.now c.requires.0 c.in-Some.place (found c.args.psw c.args.kept.now _ c.in-Some.place c.instruction_address.ensures (c.land.ensures c.in-Some.place c.in-Some.is)) c.if-place.false)

pub excepted-requires : goal.excepted-requires
excepted-requires c =
    let e = c.exception_of.ensures in
    (c.requires.2, rw c.decode-o.ensures (length_at_most _ _), omega (arith, ap (λ f. f.code) e), ap (λ f. f.host) e)

-- an opcode that no instruction has
no_instruction : (x : Progress) (o : Opcode) → same_class o.class Unassigned ≡ true → decoded x o ≡ exception x x.cpu (exception_of operation)
unfolding decoded
no_instruction x o none = rw none

pub returns-then-unassigned-clause-singles : goal.returns-then-unassigned-clause-singles
unfolding opcode_of
returns-then-unassigned-clause-singles c =
    let fail = c.exception_of in
    let first = c.half_at-first.result in
    let storage' = c.excepted.new.storage in
    IfOk-weaker c.excepted.result _ _ (λ d (same, placed, interrupts, calmly). (
      (λ clock control designation keys.
          singles_so c.args.psw c.args.kept.now c.args.storage.now c.requires.0 c.in-Some.place (found c.args.psw c.args.kept.now _ c.in-Some.place c.instruction_address.ensures (c.land.ensures c.in-Some.place c.in-Some.is)) c.if-place.false c.args.guest c.args.timer c.args.words.now c.args.area c.requires.1
          first fail.result c.half_at-first.ensures.0 d storage' same placed
          (subst (λ n. Interrupts c.args.area c.args.psw (Having c.args.guest n) (λ x. exception x x.cpu fail.result) c.args.storage.now (psw_in d c.args.psw) storage')
          (ap (λ o. o.length) c.decode-o.ensures) interrupts)
          clock control designation keys
          (λ x of_guest of_view of_psw of_control ofWords of_text.
          sym (ap (decoded x) c.decode-o.ensures) ∙ no_instruction x c.decode-o.result (sym c.unassigned.ensures ∙ c.if-unassigned.true)
          ∙ ap (λ f. exception x x.cpu f) (sym fail.ensures))),
      calmly,
    )) c.excepted.ensures.interrupts

pub text_at-text-requires : goal.text_at-text-requires
unfolding opcode_of
text_at-text-requires c =
    (in_storage_lem c.args.psw c.args.kept.now c.args.storage.now c.requires.0 c.in-Some.place (found c.args.psw c.args.kept.now _ c.in-Some.place c.instruction_address.ensures (c.land.ensures c.in-Some.place c.in-Some.is)) c.if-place.false, ap (λ o. o.length) c.decode-o.ensures, c.half_at-first.ensures.1)

pub tested-requires : goal.tested-requires
tested-requires c = rw c.decode-o.ensures (alignment_some _ _)

pub excepted-requires-in-Excepted : goal.excepted-requires-in-Excepted
excepted-requires-in-Excepted c =
    let e = c.exception_of-in-Excepted.ensures in
    let small = subst (λ r. exception_code r < 65536) c.in-Excepted.is c.tested.ensures.result_bound in
    (c.requires.2, rw c.decode-o.ensures (length_at_most _ _), omega (arith, small, ap (λ f. f.code) e), ap (λ f. f.host) e)

pub returns-in-Excepted-clause-singles : goal.returns-in-Excepted-clause-singles
unfolding opcode_of
returns-in-Excepted-clause-singles c =
    let fail = c.exception_of-in-Excepted in
    let first = c.half_at-first.result in
    let storage' = c.excepted-in-Excepted.new.storage in
    IfOk-weaker c.excepted-in-Excepted.result _ _ (λ d (same, placed, interrupts, calmly). (
      (λ clock control designation keys.
          singles_so c.args.psw c.args.kept.now c.args.storage.now c.requires.0 c.in-Some.place (found c.args.psw c.args.kept.now _ c.in-Some.place c.instruction_address.ensures (c.land.ensures c.in-Some.place c.in-Some.is)) c.if-place.false c.args.guest c.args.timer c.args.words.now c.args.area c.requires.1
          first fail.result c.half_at-first.ensures.0 d storage' same placed
          (subst (λ n. Interrupts c.args.area c.args.psw (Having c.args.guest n) (λ x. exception x x.cpu fail.result) c.args.storage.now (psw_in d c.args.psw) storage')
          (ap (λ o. o.length) c.decode-o.ensures) interrupts)
          clock control designation keys
          (λ x of_guest of_view of_psw of_control ofWords of_text.
          sym (ap (decoded x) c.decode-o.ensures) ∙ c.tested.ensures.o_value x of_guest of_psw ofWords (of_text ∙ sym c.text_at-text.ensures)
          ∙ ap (after_tests x c.decode-o.result) c.in-Excepted.is
          ∙ ap (λ f. exception x x.cpu f) (sym fail.ensures))),
      calmly,
    )) c.excepted-in-Excepted.ensures.interrupts
