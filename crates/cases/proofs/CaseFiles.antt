-- Laws of well-formed case files: how long one is, how long its record is, and how many frames it has.
-- Assumes nothing.
use Rattle.std.specs.Prelude.{Err}
use Prim.Native.Nat.{ℕ, ◌+◌, ◌*◌, ◌≤◌, ◌<◌}
use native.Mathlib.Omega.{arith}
use mathlib.Core.Path.{◌≡◌, refl, sym, ◌∙◌}
use mathlib.Core.Bool.{Bool, true, false, cond, ◌&&◌}
use mathlib.Core.List.{List}
use lib.Dec.{eqb, leb}
use lib.ListN.{length, length-take, length-drop, get_or-eq_default}
use borrow.Author.Tests.{eq-eqb, ne_eqb, eqb-true, leb-true, lt-leb}
use Rattle.std.specs.Prelude.{Option, Some, None, Err}
use Rattle.machine.specs.declared.Refusal.TheVariants.{Malformed}
use Rattle.machine.specs.Operations.{run_of}
use Rattle.machine.specs.Sizes.{frame_bytes}
use Rattle.machine.specs.Words.{byte_at, half_at}
use Rattle.machine.specs.Record.{record_length, long_length}
use Rattle.machine.proofs.Tests.{on_either_arm}
use Rattle.cases.specs.CaseFile.{version_at, record_at, record_size, count_at, keys_at, length_said, count_of, frames_at, case_version, most_case_frames, well_formed, numbers_of, record_of, keys_of, storage_of, case_of, answer_of, table_of}
use Rattle.cases.specs.declared.Case.{Case}

both : (a b : Bool) → a && b ≡ true → (a ≡ true) × (b ≡ true)
both true b e = (refl, e)
both false b e = (e, cc)

neither : (a b c : Bool) → b ≡ false → a && b && c ≡ false
neither true true c e = cc
neither true false c e = refl
neither false b c e = refl

-- the record's size is one of two

pub long_size : (file : List ℕ) → half_at file record_at ≡ long_length → record_size file ≡ long_length
unfolding record_size
long_size file long = rw (eq-eqb (half_at file record_at) long_length long)

pub short_size : (file : List ℕ) → (half_at file record_at ≡ long_length → ⊥) → record_size file ≡ record_length
unfolding record_size
short_size file other = rw (ne_eqb (half_at file record_at) long_length other)

pub size_least : (file : List ℕ) → record_length ≤ record_size file
unfolding record_size
size_least file = on_either_arm (λ n. record_length ≤ n) (eqb (half_at file record_at) long_length) (omega arith) (omega arith)

pub size_most : (file : List ℕ) → record_size file ≤ long_length
unfolding record_size
size_most file = on_either_arm (λ n. n ≤ long_length) (eqb (half_at file record_at) long_length) (omega arith) (omega arith)

-- a file with no byte for the count has no frames
pub short_malformed : (file : List ℕ) → length file < keys_at file → well_formed file ≡ false
unfolding well_formed
short_malformed file short =
    neither
    (eqb (length_said file) (length file) && eqb (length_said file) (frames_at file + count_of file * frame_bytes) && eqb (byte_at file version_at) case_version)
    (leb 1 (count_of file))
    (leb (count_of file) most_case_frames)
    (lt-leb 1 (count_of file) (omega (arith, get_or-eq_default file 0 {n = count_at file} (omega arith))))

module _ (file : List ℕ) (good : well_formed file ≡ true) where
  tests : (eqb (length_said file) (length file) ≡ true) × (eqb (length_said file) (frames_at file + count_of file * frame_bytes) ≡ true)
      × (leb 1 (count_of file) ≡ true) × (leb (count_of file) most_case_frames ≡ true)
  unfolding well_formed
  tests =
      let most = both _ (leb (count_of file) most_case_frames) good in
      let least = both _ (leb 1 (count_of file)) most.0 in
      let version = both _ (eqb (byte_at file version_at) case_version) least.0 in
      let implied = both (eqb (length_said file) (length file)) _ version.0 in
      (implied.0, implied.1, least.1, most.1)

  pub good_said : length_said file ≡ length file
  good_said = eqb-true (length_said file) (length file) tests.0

  pub good_length : length file ≡ frames_at file + count_of file * frame_bytes
  good_length = sym good_said ∙ eqb-true (length_said file) _ tests.1

  pub good_least : 1 ≤ count_of file
  good_least = leb-true 1 (count_of file) tests.2

  pub good_most : count_of file ≤ most_case_frames
  good_most = leb-true (count_of file) most_case_frames tests.3

  -- the record is as long as it should be
  pub record_length_lem : length (record_of file) ≡ record_size file
  record_length_lem = simp (length-take, length-drop) (omega (arith, good_length, good_least))

-- what a parser found of a well-formed file
pub good_case : (file : List ℕ) (c : Case) → case_of file ≡ Some c → (well_formed file ≡ true) × (c.numbers ≡ numbers_of file) × (c.count ≡ count_of file)
unfolding case_of
good_case file c found = by_form (well_formed file) refl
  where
    by_form : (b : Bool) → well_formed file ≡ b → (well_formed file ≡ true) × (c.numbers ≡ numbers_of file) × (c.count ≡ count_of file)
    by_form true e =
        let same : Some (record { numbers = numbers_of file; count = count_of file }) ≡ Some c = rw e at found in (e, cc, cc)
    by_form false e = let never : None ≡ Some c = rw e at found in let z : ◌≡◌ {A = ℕ} 0 1 = cc in absurd (omega arith)

pub few : (file : List ℕ) (c : Case) → case_of file ≡ Some c → c.count ≤ most_case_frames
few file c found = let good = good_case file c found in omega (arith, good.2, good_most file good.0)

-- the run of its parts gives its answer, and the table that was bad
pub run_of_parts : (file : List ℕ) (c : Case) → case_of file ≡ Some c → {r frames keys : List ℕ}
    → r ≡ record_of file → frames ≡ storage_of file → keys ≡ keys_of file
    → ((run_of c.numbers r frames keys).answer ≡ answer_of file) × ((run_of c.numbers r frames keys).table ≡ table_of file)
unfolding answer_of table_of
run_of_parts file c found {r} {frames} {keys} whole rest marks =
    let good = good_case file c found in
    rw good.0 (
      λ i. (run_of (good.1 i) (whole i) (rest i) (marks i)).answer,
      λ i. (run_of (good.1 i) (whole i) (rest i) (marks i)).table,
    )

pub malformed-answer : (file : List ℕ) → case_of file ≡ None → answer_of file ≡ Err Malformed
unfolding case_of answer_of
malformed-answer file found = by_form (well_formed file) refl
  where
    by_form : (b : Bool) → well_formed file ≡ b
        → cond (well_formed file) (run_of (numbers_of file) (record_of file) (storage_of file) (keys_of file)).answer (Err Malformed) ≡ Err Malformed
    by_form true e =
        let never : ◌≡◌ {A = Option Case} (Some (record { numbers = numbers_of file; count = count_of file })) None = rw e at found in
        let z : ◌≡◌ {A = ℕ} 0 1 = cc in absurd (omega arith)
    by_form false e = rw e
