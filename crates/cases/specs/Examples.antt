-- Document 01's two worked examples of a case file, for every such file, and files with other length fields (request 1/12). The proofs
-- are in proofs/.
use Rattle.std.specs.Prelude.{ℕ, ◌+◌, ◌*◌, ◌<◌, ◌≡◌, true, List, [], ◌∷◌, length, take, drop}
use Rattle.machine.specs.Words.{byte_at, half_at, word_at}
use Rattle.machine.specs.Record.{guest_of}
use Rattle.machine.specs.Refusals.{run_verdict, no_refusal}
use Rattle.machine.specs.Entry.{entry_good}
use Rattle.machine.specs.Units.{stop_requested}
use Rattle.lines.specs.Line.{line_of}
use Rattle.cases.specs.CaseFile.{record_at, count_of, well_formed, numbers_of, record_of, keys_of, storage_of, answer_of}

-- a file that no refusal names, with a good entry
pub record GoodFile (file : List ℕ) : Type 0 where
  pub formed : well_formed file ≡ true
  pub accepted : run_verdict (numbers_of file) (record_of file) (storage_of file) (keys_of file) ≡ no_refusal
  pub entered : entry_good (guest_of (record_of file)) ≡ true

-- with V bit 5 one and a budget it prints `I 40 0`; with budget 0, `B 0 0`
pub record WorkedExamples : Type 0 where
  pub stopped : (file : List ℕ) → GoodFile file → 0 < (numbers_of file).budget → stop_requested (guest_of (record_of file)) ≡ true
      → line_of (answer_of file) ≡ 73 ∷ 32 ∷ 52 ∷ 48 ∷ 32 ∷ 48 ∷ 10 ∷ []
  pub no_budget : (file : List ℕ) → GoodFile file → (numbers_of file).budget ≡ 0 → line_of (answer_of file) ≡ 66 ∷ 32 ∷ 48 ∷ 32 ∷ 48 ∷ 10 ∷ []

-- Where the record's length field is 208, it has 208 bytes, and the frame count is byte 231 of the file; else 200, and byte 223. So the
-- length of the rest is 228 + 4,097 n or 220 + 4,097 n. A well-formed file with a field of 199 prints `R 1`, and one with a field of
-- 208 and version 1 prints `R 2`. A field of 208 in a file that is as long as one with the shorter record prints `R 9`, and so does a file
-- with no room for the field.
pub record SizedExamples : Type 0 where
  pub longer : (file : List ℕ) → half_at file record_at ≡ 208 → (record_of file ≡ take 208 (drop 23 file)) × (count_of file ≡ byte_at file 231)
  pub shorter : (file : List ℕ) → (half_at file record_at ≡ 208 → ⊥) → (record_of file ≡ take 200 (drop 23 file)) × (count_of file ≡ byte_at file 223)
  pub other_field : (file : List ℕ) → well_formed file ≡ true → half_at file record_at ≡ 199 → line_of (answer_of file) ≡ 82 ∷ 32 ∷ 49 ∷ 10 ∷ []
  pub old_version : (file : List ℕ) → well_formed file ≡ true → half_at file record_at ≡ 208 → byte_at file (record_at + 2) ≡ 1
      → line_of (answer_of file) ≡ 82 ∷ 32 ∷ 50 ∷ 10 ∷ []
  pub longer_rest : (file : List ℕ) → well_formed file ≡ true → half_at file record_at ≡ 208 → word_at file 0 ≡ 228 + 4097 * count_of file
  pub shorter_rest : (file : List ℕ) → well_formed file ≡ true → (half_at file record_at ≡ 208 → ⊥) → word_at file 0 ≡ 220 + 4097 * count_of file
  pub eight_short : (file : List ℕ) (n : ℕ) → length file ≡ 224 + 4097 * n → half_at file record_at ≡ 208
      → line_of (answer_of file) ≡ 82 ∷ 32 ∷ 57 ∷ 10 ∷ []
  pub no_field : (file : List ℕ) → length file < record_at + 2 → line_of (answer_of file) ≡ 82 ∷ 32 ∷ 57 ∷ 10 ∷ []
