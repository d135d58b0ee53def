-- Case files: when one is well formed, where its parts stand, and the answer it asks for. Document 01, "Case file and worked examples".
-- Request 1/12: the record's own length field gives its size.
use Rattle.std.specs.Prelude.{ℕ, ◌+◌, ◌*◌, Bool, cond, ◌&&◌, List, Option, Some, None, eqb, leb, length, take, drop, Err}
use Rattle.machine.specs.declared.Refusal.TheVariants.{Malformed}
use Rattle.machine.specs.declared.Numbers.{Numbers}
use Rattle.machine.specs.declared.Sought.{Sought}
use Rattle.machine.specs.Sought.{nowhere}
use Rattle.machine.specs.Operations.{run_of}
use Rattle.machine.specs.Record.{record_length, long_length}
use Rattle.machine.specs.Sizes.{frame_bytes}
use Rattle.machine.specs.Words.{byte_at, half_at, word_at, double_at}
use Rattle.cases.specs.declared.Case.{Case}
use Rattle.machine.specs.Refusals.{RunAnswer}

-- where the parts stand

abbrev pub version_at : ℕ
version_at = 4

abbrev pub designation_at : ℕ
designation_at = 5

abbrev pub clock_at : ℕ
clock_at = 9

abbrev pub time_at : ℕ
time_at = 17

abbrev pub budget_at : ℕ
budget_at = 21

abbrev pub record_at : ℕ
record_at = 23

-- the record has 208 bytes where its length field says so, else 200
unfoldable pub record_size : List ℕ → ℕ
record_size file = cond (eqb (half_at file record_at) long_length) long_length record_length

-- after the record

abbrev pub count_at : List ℕ → ℕ
count_at file = record_at + record_size file

abbrev pub keys_at : List ℕ → ℕ
keys_at file = count_at file + 1

-- the length of the whole file, as its first four bytes say it: they are the length of the rest
abbrev pub length_said : List ℕ → ℕ
length_said file = 4 + word_at file 0

-- the frame count
abbrev pub count_of : List ℕ → ℕ
count_of file = byte_at file (count_at file)

-- after the keys, one byte for each frame
abbrev pub frames_at : List ℕ → ℕ
frames_at file = keys_at file + count_of file

abbrev pub case_version : ℕ
case_version = 1

abbrev pub most_case_frames : ℕ
most_case_frames = 8

-- not malformed: the length is that of the bytes present and that which the count implies, the version is 1, the count is 1 to 8
unfoldable pub well_formed : List ℕ → Bool
well_formed file =
    eqb (length_said file) (length file)
    && eqb (length_said file) (frames_at file + count_of file * frame_bytes)
    && eqb (byte_at file version_at) case_version
    && leb 1 (count_of file)
    && leb (count_of file) most_case_frames

-- the parts

unfoldable pub numbers_of : List ℕ → Numbers
numbers_of file = record {
  designation = word_at file designation_at;
  clock = double_at file clock_at;
  time = word_at file time_at;
  budget = half_at file budget_at;
}

abbrev pub record_of : List ℕ → List ℕ
record_of file = take (record_size file) (drop record_at file)

abbrev pub keys_of : List ℕ → List ℕ
keys_of file = take (count_of file) (drop (keys_at file) file)

abbrev pub storage_of : List ℕ → List ℕ
storage_of file = drop (frames_at file) file

-- what a parser finds
unfoldable pub case_of : List ℕ → Option Case
case_of file = cond (well_formed file) (Some (record { numbers = numbers_of file; count = count_of file })) None

-- the answer that a case file asks for: refusal 9, Malformed, comes before all
unfoldable pub answer_of : List ℕ → RunAnswer
answer_of file = cond (well_formed file) (run_of (numbers_of file) (record_of file) (storage_of file) (keys_of file)).answer (Err Malformed)

-- the table that was bad, which no line says
unfoldable pub table_of : List ℕ → Sought
table_of file = cond (well_formed file) (run_of (numbers_of file) (record_of file) (storage_of file) (keys_of file)).table nowhere
