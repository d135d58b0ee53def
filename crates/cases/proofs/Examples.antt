-- The worked examples of a case file.
-- Assumes nothing.
use Rattle.std.specs.Prelude.{Err}
use Prim.Native.Nat.{ℕ, ◌+◌, ◌<◌}
use native.Mathlib.Omega.{arith}
use mathlib.Core.Path.{◌≡◌, refl, ap, subst, ◌∙◌}
use mathlib.Core.Bool.{Bool, true, false}
use mathlib.Core.List.{List}
use lib.ListN.{length}
use lib.Seq.{get_or-drop, get_or-take}
use Rattle.machine.specs.declared.Refusal.{Refusal}
use Rattle.machine.specs.declared.Refusal.TheVariants.{WrongLength, WrongVersion, Malformed}
use Rattle.machine.specs.declared.Numbers.{Numbers}
use Rattle.machine.specs.Answers.{reason_code, end_number}
use Rattle.machine.specs.Words.{byte_at, half_at}
use Rattle.machine.specs.Refusals.{wrong_length, wrong_version, run_verdict, no_refusal}
use Rattle.machine.specs.Operations.{run_as, run_of}
use Rattle.machine.specs.Theorems.{with_budget}
use Rattle.machine.specs.Answers.{refusal_number}
use Rattle.machine.proofs.Accepted.{budget_and_stop_differ}
use Rattle.lines.specs.Line.{decimal_in, end_letter, line_of}
use Rattle.cases.specs.CaseFile.{record_at, record_size, well_formed, numbers_of, record_of, keys_of, storage_of, answer_of}
use Rattle.cases.specs.Examples.{GoodFile, WorkedExamples, SizedExamples}
use Rattle.cases.proofs.CaseFiles.{long_size, short_size, size_least, good_said, good_length, record_length_lem}

answer_of-run : (file : List ℕ) → GoodFile file → answer_of file ≡ (run_of (numbers_of file) (record_of file) (storage_of file) (keys_of file)).answer
unfolding answer_of
answer_of-run file good = rw good.formed

no_budget_lem : (n : Numbers) → n.budget ≡ 0 → n ≡ with_budget n 0
no_budget_lem n none = λ i. record { designation = n.designation; clock = n.clock; time = n.time; budget = none i }

pub worked_examples : WorkedExamples
unfolding line_of end_letter end_number reason_code decimal_in
worked_examples = record {
  stopped = λ file good some stop.
      ap line_of (answer_of-run file good ∙ budget_and_stop_differ.stopped (numbers_of file) _ _ _ good.accepted good.entered some stop);
  no_budget = λ file good none.
      let zero-budget = no_budget_lem (numbers_of file) none in
      ap line_of
      (answer_of-run file good
      ∙ ap (λ n. (run_of n (record_of file) (storage_of file) (keys_of file)).answer) zero-budget
      ∙ budget_and_stop_differ.no_budget (numbers_of file) _ _ _
      (subst (λ n. run_verdict n (record_of file) (storage_of file) (keys_of file) ≡ no_refusal) zero-budget good.accepted)
      good.entered);
}

-- the record's first bytes are the file's from its place on
record_byte : (file : List ℕ) (i : ℕ) → i < record_size file → byte_at (record_of file) i ≡ byte_at file (record_at + i)
record_byte file i inside = rw (get_or-take, get_or-drop)

record_field : (file : List ℕ) → half_at (record_of file) 0 ≡ half_at file record_at
record_field file =
    omega (arith, record_byte file 0 (omega (arith, size_least file)), record_byte file 1 (omega (arith, size_least file)))

module _ (file : List ℕ) (formed : well_formed file ≡ true) where
  run-refused : (why : Refusal) → run_verdict (numbers_of file) (record_of file) (storage_of file) (keys_of file) ≡ Err why → answer_of file ≡ Err why
  unfolding answer_of run_of run_as
  run-refused why refused = rw (formed, refused)

  other_field_lem : half_at file record_at ≡ 199 → answer_of file ≡ Err WrongLength
  unfolding run_verdict wrong_length
  other_field_lem said =
      let long : length (record_of file) ≡ 200 = record_length_lem file formed ∙ short_size file (λ same. absurd (omega arith)) in
      run-refused WrongLength (rw (long, record_field file, said))

  old_version_lem : half_at file record_at ≡ 208 → byte_at file (record_at + 2) ≡ 1 → answer_of file ≡ Err WrongVersion
  unfolding run_verdict wrong_length wrong_version
  old_version_lem said version =
      let long : length (record_of file) ≡ 208 = record_length_lem file formed ∙ long_size file said in
      run-refused WrongVersion (rw (long, record_field file, said, record_byte file 2 (omega (arith, size_least file)), version))

-- a file that cannot be well formed
malformed : (file : List ℕ) → (well_formed file ≡ true → ⊥) → answer_of file ≡ Err Malformed
unfolding answer_of
malformed file never = rw (by_form (well_formed file) refl)
  where
    by_form : (b : Bool) → well_formed file ≡ b → b ≡ false
    by_form true good = absurd (never good)
    by_form false bad = refl

pub sized_examples : SizedExamples
unfolding line_of decimal_in refusal_number
sized_examples = record {
  longer = λ file said. (rw (long_size file said), rw (long_size file said));
  shorter = λ file other. (rw (short_size file other), rw (short_size file other));
  other_field = λ file formed said. ap line_of (other_field_lem file formed said);
  old_version = λ file formed said version. ap line_of (old_version_lem file formed said version);
  longer_rest = λ file formed said. omega (arith, good_said file formed, good_length file formed, long_size file said);
  shorter_rest = λ file formed other. omega (arith, good_said file formed, good_length file formed, short_size file other);
  eight_short = λ file n long said. ap line_of (malformed file λ formed. omega (arith, long, good_length file formed, long_size file said));
  no_field = λ file short. ap line_of (malformed file λ formed. omega (arith, short, good_length file formed, size_least file));
}
