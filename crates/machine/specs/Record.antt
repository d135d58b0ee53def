-- Document 01, "The record, 200 bytes, big-endian". Request 1/12: a record of version 2 has 208 bytes.
use Rattle.std.specs.Prelude.{ℕ, ◌+◌, ◌^◌, ◌<◌, ◌≡◌, Bool, cond, List, ◌++◌, ◌⊎◌, eqb, length, get_or, set, take}
use Rattle.std.proofs.lemmas.List.Edits.{sets}
use Rattle.machine.specs.declared.Cpu.{Cpu}
use Rattle.machine.specs.declared.Guest.{Guest}
use Rattle.machine.specs.declared.Psw.{Psw}
use Rattle.machine.specs.Words.{bits, byte_at, half_at, word_at, double_at, words_at, word_bytes, double_bytes, words_bytes}

abbrev pub record_length : ℕ
record_length = 200

-- of a record of version 2
abbrev pub long_length : ℕ
long_length = 208

-- the lengths of the two records
abbrev pub GoodLength : List ℕ → Type 0
GoodLength r = (length r ≡ record_length) ⊎ (length r ≡ long_length)

-- the version that goes with a record's length
abbrev pub version_for : ℕ → ℕ
version_for long = cond (eqb long long_length) 2 1

-- where the fields stand that a run changes: the PSW, the CPU timer, the results, the control and the general registers, and in the
-- longer record the interval timer's request byte, whose bit 0 is T, and its residue

abbrev pub psw_at : ℕ
psw_at = 16

abbrev pub timer_at : ℕ
timer_at = 24

abbrev pub results_at : ℕ
results_at = 52

abbrev pub control_at : ℕ
control_at = 72

abbrev pub general_at : ℕ
general_at = 136

abbrev pub request_at : ℕ
request_at = 200

abbrev pub residue_at : ℕ
residue_at = 204

-- mode bits 4-5 are 01: a System/370 guest
abbrev pub system370_mode : ℕ → Bool
system370_mode mode = eqb (bits 8 4 5 mode) 1

abbrev pub is_system370 : List ℕ → Bool
is_system370 r = system370_mode (byte_at r 4)

-- the fields that no unit changes. Of the prefix, bits 0 and 20-31 are ignored.
unfoldable pub guest_of : List ℕ → Guest
guest_of r = record {
  version = byte_at r 2;
  interventions = byte_at r 3;
  mode = byte_at r 4;
  interceptions = byte_at r 5;
  lctl = half_at r 6;
  prefix = bits 32 1 19 (word_at r 8);
  origin = half_at r 12;
  extent = half_at r 14;
  comparator = double_at r 32;
  epoch = double_at r 40;
  svc = byte_at r 48;
  svc1 = byte_at r 49;
  svc2 = byte_at r 50;
  svc3 = byte_at r 51;
}

-- the PSW of a System/370 guest or of a 370-XA one
unfoldable pub psw_of : Bool → List ℕ → ℕ → Psw
psw_of system370 s a = record { left = word_at s a; right = word_at s (a + 4); system370 = system370 }

abbrev pub psw_bytes : Psw → List ℕ
psw_bytes p = word_bytes p.left ++ word_bytes p.right

-- the fields that units change, taken from the record
unfoldable pub cpu_of : List ℕ → Cpu
cpu_of r = record {
  psw = psw_of (is_system370 r) r psw_at;
  timer = double_at r timer_at;
  control = record { words = words_at r control_at 16 };
  general = record { words = words_at r general_at 16 };
}

-- the bytes of the sixteen registers
abbrev pub register_bytes : List ℕ → List ℕ
register_bytes ws = words_bytes (take 16 ws)

-- the record with these fields
unfoldable pub with_cpu : Cpu → List ℕ → List ℕ
with_cpu c r =
    sets
    (sets
    (sets (sets r psw_at (psw_bytes c.psw)) timer_at (double_bytes c.timer))
    control_at
    (register_bytes c.control.words))
    general_at
    (register_bytes c.general.words)

-- the record with these bytes, fourteen of them, as bytes 52-65
unfoldable pub with_results : List ℕ → List ℕ → List ℕ
with_results results r = sets r results_at results

-- the interval timer's request byte and residue, and the record with these
abbrev pub request_of : List ℕ → ℕ
request_of r = byte_at r request_at

abbrev pub residue_of : List ℕ → ℕ
residue_of r = word_at r residue_at

unfoldable pub with_request : ℕ → List ℕ → List ℕ
with_request request r = set r request_at request

unfoldable pub with_interval : ℕ → ℕ → List ℕ → List ℕ
with_interval request residue r = sets (with_request request r) residue_at (word_bytes residue)

-- sixteen words of 32 bits
pub record Sixteen (ws : List ℕ) : Type 0 where
  pub long : length ws ≡ 16
  pub small : (i : ℕ) → get_or ws i 0 < 2 ^ 32

-- each field within the width that the record has for it
pub record Bounded (c : Cpu) : Type 0 where
  pub left : c.psw.left < 2 ^ 32
  pub right : c.psw.right < 2 ^ 32
  pub timer : c.timer < 2 ^ 64
  pub control : Sixteen c.control.words
  pub general : Sixteen c.general.words
