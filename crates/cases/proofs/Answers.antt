-- The answer of a case file fits its packed form, so that the line of the packed answer is that of the answer.
-- Assumes nothing.
use Rattle.std.specs.Prelude.{Err, Ok}
use Prim.Native.Nat.{ℕ, ◌/◌, ◌%◌, ◌^◌, ◌<◌}
use native.Mathlib.Omega.{arith}
use mathlib.Core.Path.{◌≡◌, subst}
use mathlib.Core.Bool.{Bool, true, false, cond}
use mathlib.Core.List.{List}
use Rattle.machine.specs.declared.Refusal.TheVariants.{WrongLength, WrongVersion, WrongStorage, WrongKeys, WrongBudget, WrongTime, ReservedUsed, Malformed}
use Rattle.machine.specs.declared.End.{End}
use Rattle.machine.specs.declared.End.TheVariants.{Intercepted, HostFault, BudgetUsed}
use Rattle.machine.specs.declared.Numbers.{Numbers}
use Rattle.machine.specs.declared.Reason.{Reason}
use Rattle.machine.specs.declared.Reason.TheVariants.{Instruction, Program, ExternalRequest, External, IoRequest, Wait, Validity, Stop, Operation}
use Rattle.machine.specs.declared.Sought.{Sought}
use Rattle.machine.specs.declared.Stage.{Stage}
use Rattle.machine.specs.declared.Stage.TheVariants.{None, GuestSegment, GuestPage, HostSegment, HostPage}
use Rattle.machine.specs.Answers.{refusal_number, reason_code, end_number, stage_number, run_answer}
use Rattle.machine.specs.Sought.{nowhere}
use Rattle.machine.specs.Refusals.{wrong_length, wrong_version, wrong_storage, wrong_keys, wrong_budget, wrong_time, reserved_used, refuse, run_verdict, RunAnswer, Verdict}
use Rattle.machine.specs.Operations.{result_of, machine_of, run_of}
use Rattle.machine.proofs.Runs.{units_within, run_of_cases}
use Rattle.machine.proofs.Verdicts.{accepted_budget}
use Rattle.packing.specs.Packing.{packed, packed_end, packed_answer}
use Rattle.packing.proofs.Numbers.{refusal-small}
use Rattle.lines.specs.Line.{end_letter, line_of, kind_line, packed_line}
use Rattle.cases.specs.CaseFile.{well_formed, numbers_of, record_of, keys_of, storage_of, answer_of}
use Rattle.cases.proofs.Codes.{CodedEnd, coded_run}

-- an answer whose number and units fit the packed form
abbrev Small : RunAnswer → Type 0
Small (Err refusal) = Unit {0}
Small (Ok stopped) = (end_number stopped.end < 256) × (stopped.units < 2 ^ 32)

small_reason : (r : Reason) → reason_code r < 256
unfolding reason_code
small_reason (Instruction t) = omega arith
small_reason (Program code ilc address) = omega arith
small_reason ExternalRequest = omega arith
small_reason (External code) = omega arith
small_reason IoRequest = omega arith
small_reason Wait = omega arith
small_reason Validity = omega arith
small_reason Stop = omega arith
small_reason (Operation t) = omega arith

small-end : (e : End) → CodedEnd e → end_number e < 256
unfolding end_number
small-end (Intercepted r) coded = small_reason r
small-end (HostFault f) coded = coded
small-end BudgetUsed coded = omega arith

small-run : (n : Numbers) (r storage keys : List ℕ) → Small (run_of n r storage keys).answer
unfolding result_of
small-run n r storage keys =
    run_of_cases n r storage keys (λ result. Small result.answer)
    (λ refusal e. tt)
    (λ accepted bad. (small-end (Intercepted Validity) tt, omega arith))
    (λ accepted good. (
      small-end _ (coded_run n.budget n (machine_of n r storage keys)),
      omega (arith, units_within n.budget n (machine_of n r storage keys), accepted_budget n r storage keys accepted),
    ))

small-answer : (file : List ℕ) → Small (answer_of file)
unfolding answer_of
small-answer file = by_form (well_formed file)
  where
    by_form : (b : Bool) → Small (cond b (run_of (numbers_of file) (record_of file) (storage_of file) (keys_of file)).answer (Err Malformed))
    by_form true = small-run (numbers_of file) (record_of file) (storage_of file) (keys_of file)
    by_form false = tt

-- there are five stages
small_stage : (s : Stage) → stage_number s < 256
unfolding stage_number
small_stage None = omega arith
small_stage GuestSegment = omega arith
small_stage GuestPage = omega arith
small_stage HostSegment = omega arith
small_stage HostPage = omega arith

-- what was packed is found again
unpacked : (kind number : ℕ) (s : Sought) (units : ℕ) → kind < 256 → number < 256 → units < 2 ^ 32
    → (packed kind number s units / 2 ^ 56 ≡ kind) × (packed kind number s units / 2 ^ 48 % 256 ≡ number) × (packed kind number s units % 2 ^ 32 ≡ units)
unpacked kind number s units k n u = let few : stage_number s.stage < 256 = small_stage s.stage in (omega arith, omega arith, omega arith)

-- the stage is not in the line
line_of-packed : (kind number : ℕ) (s : Sought) (units : ℕ) → kind < 256 → number < 256 → units < 2 ^ 32
    → packed_line (packed kind number s units) ≡ kind_line kind number units
unfolding packed_line
line_of-packed kind number s units k n u = let found = unpacked kind number s units k n u in rw (found.0, found.1, found.2)

line_of-end : (e : End) (s : Sought) (units : ℕ) → end_number e < 256 → units < 2 ^ 32 → packed_line (packed_end e s units) ≡ line_of (run_answer e units)
unfolding packed_end kind_line line_of end_letter end_number
line_of-end (Intercepted r) s units n u = line_of-packed 1 (reason_code r) s units (omega arith) n u
line_of-end (HostFault f) s units n u = line_of-packed 2 f.code s units (omega arith) n u
line_of-end BudgetUsed s units n u = line_of-packed 3 0 s units (omega arith) n u

line_of-answer : (a : RunAnswer) (s : Sought) → Small a → packed_line (packed_answer a s) ≡ line_of a
unfolding packed_answer kind_line line_of
line_of-answer (Err refusal) s small = line_of-packed 0 (refusal_number refusal) nowhere 0 (omega arith) (refusal-small refusal) (omega arith)
line_of-answer (Ok stopped) s small = line_of-end stopped.end s stopped.units small.0 small.1

-- the line of a case file's packed answer is that of its answer, whichever table was bad
pub line_of_case : (file : List ℕ) (s : Sought) → packed_line (packed_answer (answer_of file) s) ≡ line_of (answer_of file)
line_of_case file s = line_of-answer (answer_of file) s (small-answer file)
