-- Document 01, "The record", the table of refusals, request 1/12 on 1, 2 and 7, and request 5/12 on 6. Refusal 9 is the case file's.
use Rattle.std.specs.Prelude.{ℕ, zero, suc, ◌+◌, ◌*◌, ◌/◌, ◌%◌, Bool, false, cond, not, ◌&&◌, ◌||◌, List, eqb, leb, ltb, length, ⊤, Result, Ok, Err}
use Rattle.machine.specs.declared.Numbers.{Numbers}
use Rattle.machine.specs.declared.Refusal.{Refusal}
use Rattle.machine.specs.declared.Refusal.TheVariants.{WrongLength, WrongVersion, WrongStorage, WrongKeys, WrongBudget, WrongTime, ReservedUsed, WrongAccess}
use Rattle.machine.specs.declared.Stopped.{Stopped}
use Rattle.machine.specs.Sizes.{frame_bytes}
use Rattle.machine.specs.Words.{byte_at, half_at}
use Rattle.machine.specs.Record.{record_length, long_length, version_for, residue_of}
use Rattle.machine.specs.Interval.{period}

-- the answer of an operation: refused, or what it comes to
abbrev pub Answer : Type 0 → Type 0
Answer T = Result T Refusal

-- of run
abbrev pub RunAnswer : Type 0
RunAnswer = Answer Stopped

-- whether the input is refused
abbrev pub Verdict : Type 0
Verdict = Answer ⊤

abbrev pub no_refusal : Verdict
no_refusal = Ok tt

abbrev pub most_frames : ℕ
most_frames = 4096

abbrev pub most_units : ℕ
most_units = 65535

abbrev pub most_time : ℕ
most_time = 1048576

-- the whole frames of a storage
abbrev pub frames_of : List ℕ → ℕ
frames_of storage = length storage / frame_bytes

-- record and length field are both so long
abbrev pub length_is : ℕ → List ℕ → Bool
length_is long r = eqb (length r) long && eqb (half_at r 0) long

-- 1: record and its length field are not both 200 or both 208
unfoldable pub wrong_length : List ℕ → Bool
wrong_length r = not (length_is record_length r || length_is long_length r)

-- 2: version is not 1 of 200 bytes, or 2 of 208
unfoldable pub wrong_version : List ℕ → Bool
wrong_version r = not (eqb (byte_at r 2) (version_for (length r)))

-- 3: storage is empty, over 4,096 frames or not whole frames
unfoldable pub wrong_storage : List ℕ → Bool
wrong_storage storage = eqb (length storage) 0 || ltb (most_frames * frame_bytes) (length storage) || not (eqb (length storage % frame_bytes) 0)

-- 4: number of keys differs from number of frames
unfoldable pub wrong_keys : List ℕ → List ℕ → Bool
wrong_keys storage keys = not (eqb (length keys) (frames_of storage))

-- 5: budget too large
unfoldable pub wrong_budget : Numbers → Bool
wrong_budget n = ltb most_units n.budget

-- 6: time per unit 0 or too large
unfoldable pub wrong_time : Numbers → Bool
wrong_time n = eqb n.time 0 || ltb most_time n.time

-- one of the `n` bytes from `a` on is not zero
unfoldable pub used : List ℕ → ℕ → ℕ → Bool
used r a zero = false
used r a (suc n) = not (eqb (byte_at r a) 0) || used r (a + 1) n

-- in the longer record one of bytes 201-203 is not zero, or the residue is out of range
unfoldable pub wrong_interval : List ℕ → Bool
wrong_interval r = eqb (length r) long_length && (used r 201 3 || leb period (residue_of r))

-- 7: one of bytes 66-71 is not zero, or the interval timer's fields are wrong
unfoldable pub reserved_used : List ℕ → Bool
reserved_used r = used r 66 6 || wrong_interval r

-- 8: access kind is not 0 (operand fetch), 1 (store) or 2 (instruction fetch)
unfoldable pub wrong_access : ℕ → Bool
wrong_access kind = ltb 2 kind

-- a test with its refusal, before the tests that come later
abbrev pub refuse : Refusal → Bool → Verdict → Verdict
refuse refusal test later = cond test (Err refusal) later

-- Checked in this order, each where the operation has that input.

unfoldable pub check_verdict : List ℕ → Verdict
check_verdict r = refuse WrongLength (wrong_length r) (refuse WrongVersion (wrong_version r) (refuse ReservedUsed (reserved_used r) no_refusal))

unfoldable pub translate_verdict : List ℕ → List ℕ → List ℕ → ℕ → Verdict
translate_verdict r storage keys kind =
    refuse WrongLength (wrong_length r)
    (refuse WrongVersion (wrong_version r)
    (refuse WrongStorage (wrong_storage storage)
    (refuse WrongKeys (wrong_keys storage keys) (refuse ReservedUsed (reserved_used r) (refuse WrongAccess (wrong_access kind) no_refusal)))))

unfoldable pub run_verdict : Numbers → List ℕ → List ℕ → List ℕ → Verdict
run_verdict n r storage keys =
    refuse WrongLength (wrong_length r)
    (refuse WrongVersion (wrong_version r)
    (refuse WrongStorage (wrong_storage storage)
    (refuse WrongKeys (wrong_keys storage keys)
    (refuse WrongBudget (wrong_budget n) (refuse WrongTime (wrong_time n) (refuse ReservedUsed (reserved_used r) no_refusal))))))
