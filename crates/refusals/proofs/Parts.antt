-- The parts of a verdict, put together in the order of the refusals.
-- Assumes nothing.
use Rattle.std.specs.Prelude.{Err, Ok}
use Prim.Native.Nat.{ℕ, ◌+◌}
use native.Mathlib.Omega.{arith}
use mathlib.Core.Path.{◌≡◌, refl}
use mathlib.Core.Bool.{Bool, true, false, not, ◌&&◌, ◌||◌}
use mathlib.Core.List.{List}
use lib.Dec.{eqb}
use lib.ListN.{length}
use borrow.Author.Tests.{eq-eqb, ne_eqb, eqb-true}
use Rattle.machine.specs.declared.Refusal.{Refusal}
use Rattle.machine.specs.declared.Refusal.TheVariants.{WrongLength, WrongVersion, ReservedUsed}
use Rattle.machine.specs.declared.Numbers.{Numbers}
use Rattle.machine.specs.Words.{byte_at, half_at, word_at}
use Rattle.machine.specs.Record.{record_length, long_length, GoodLength}
use Rattle.machine.specs.Refusals.{refuse, wrong_length, wrong_version, used, wrong_interval, reserved_used, wrong_access, check_verdict, translate_verdict, run_verdict, Verdict, no_refusal}
use Rattle.machine.proofs.Verdicts.{accepted_test, length_of_right, reserved_by_words}
use Rattle.limits.specs.Parts.{storage_verdict, numbers_verdict, access_verdict}
use Rattle.refusals.specs.Parts.{first_refusal, head_verdict, bytes_verdict, reserved_verdict, interval_verdict}

-- a test that comes first stays first
first_of_refuse : (refusal : Refusal) (test : Bool) (u v : Verdict) → first_refusal (refuse refusal test u) v ≡ refuse refusal test (first_refusal u v)
unfolding first_refusal
first_of_refuse refusal true u v = refl
first_of_refuse refusal false u v = refl

-- a record whose head is accepted has a right length
pub accepted_head : (r : List ℕ) → head_verdict r ≡ no_refusal → GoodLength r
unfolding head_verdict
accepted_head r accepted = length_of_right r (accepted_test _ (wrong_length r) _ accepted).0

-- refusals 1 and 2 of a record of 200 bytes, and of 208

pub short_good : (r : List ℕ) → length r ≡ record_length → half_at r 0 ≡ record_length → byte_at r 2 ≡ 1 → head_verdict r ≡ no_refusal
unfolding head_verdict wrong_length wrong_version
short_good r short said version = rw (short, said, version)

pub short_field : (r : List ℕ) → length r ≡ record_length → (half_at r 0 ≡ record_length → ⊥) → head_verdict r ≡ Err WrongLength
unfolding head_verdict wrong_length
short_field r short said = rw (short, ne_eqb (half_at r 0) record_length said)

pub short_version : (r : List ℕ) → length r ≡ record_length → half_at r 0 ≡ record_length → (byte_at r 2 ≡ 1 → ⊥) → head_verdict r ≡ Err WrongVersion
unfolding head_verdict wrong_length wrong_version
short_version r short said version = rw (short, said, ne_eqb (byte_at r 2) 1 version)

pub long-good : (r : List ℕ) → length r ≡ long_length → half_at r 0 ≡ long_length → byte_at r 2 ≡ 2 → head_verdict r ≡ no_refusal
unfolding head_verdict wrong_length wrong_version
long-good r long said version = rw (long, said, version)

pub long_version : (r : List ℕ) → length r ≡ long_length → half_at r 0 ≡ long_length → (byte_at r 2 ≡ 2 → ⊥) → head_verdict r ≡ Err WrongVersion
unfolding head_verdict wrong_length wrong_version
long_version r long said version = rw (long, said, ne_eqb (byte_at r 2) 2 version)

-- of another length, or with another length field than 208
pub neither_length : (r : List ℕ) → (length r ≡ record_length → ⊥) → (length r ≡ long_length → half_at r 0 ≡ long_length → ⊥) → head_verdict r ≡ Err WrongLength
unfolding head_verdict wrong_length
neither_length r short long = rw (ne_eqb (length r) record_length short) (by_long (eqb (length r) long_length) refl (eqb (half_at r 0) long_length) refl)
  where
    by_long : (a : Bool) → eqb (length r) long_length ≡ a → (b : Bool) → eqb (half_at r 0) long_length ≡ b
        → refuse WrongLength (not (a && b)) (refuse WrongVersion (wrong_version r) no_refusal) ≡ Err WrongLength
    by_long true e true f = absurd (long (eqb-true (length r) long_length e) (eqb-true (half_at r 0) long_length f))
    by_long true e false f = refl
    by_long false e b f = refl

-- refusal 7 by bytes 66-71, then by the interval timer's fields, which the longer record alone has

-- by the word and the halfword of these bytes
pub bytes_used : (r : List ℕ) → (word_at r 66 + half_at r 70 ≡ 0 → ⊥) → bytes_verdict r ≡ Err ReservedUsed
unfolding bytes_verdict
bytes_used r some = rw (reserved_by_words r, ne_eqb (word_at r 66 + half_at r 70) 0 some)

pub bytes_free : (r : List ℕ) → word_at r 66 + half_at r 70 ≡ 0 → bytes_verdict r ≡ no_refusal
unfolding bytes_verdict
bytes_free r none = rw (reserved_by_words r, eq-eqb (word_at r 66 + half_at r 70) 0 none)

pub reserved_parts : (r : List ℕ) → first_refusal (bytes_verdict r) (interval_verdict r) ≡ reserved_verdict r
unfolding first_refusal bytes_verdict interval_verdict reserved_verdict reserved_used
reserved_parts r = by_bytes (used r 66 6)
  where
    by_bytes : (b : Bool) → first_refusal (refuse ReservedUsed b no_refusal) (refuse ReservedUsed (wrong_interval r) no_refusal)
        ≡ refuse ReservedUsed (b || wrong_interval r) no_refusal
    by_bytes true = refl
    by_bytes false = refl

-- a record that is not the longer one has no such fields
pub interval_none : (r : List ℕ) → (length r ≡ long_length → ⊥) → interval_verdict r ≡ no_refusal
unfolding interval_verdict wrong_interval
interval_none r other = rw (ne_eqb (length r) long_length other)

-- the first of two verdicts accepts where both do
pub first_accepted : (u v : Verdict) → first_refusal u v ≡ no_refusal → u ≡ no_refusal
unfolding first_refusal
first_accepted (Ok tt) v accepted = refl
first_accepted (Err why) v accepted = accepted

-- the verdicts, made of their parts

pub check_parts : (r : List ℕ) → first_refusal (head_verdict r) (reserved_verdict r) ≡ check_verdict r
unfolding check_verdict first_refusal head_verdict reserved_verdict
check_parts r = simp first_of_refuse

pub translate_parts : (r storage keys : List ℕ) (kind : ℕ)
    → first_refusal (head_verdict r) (first_refusal (storage_verdict storage keys) (first_refusal (reserved_verdict r) (access_verdict kind))) ≡ translate_verdict r storage keys kind
unfolding translate_verdict first_refusal head_verdict storage_verdict reserved_verdict access_verdict
translate_parts r storage keys kind = simp first_of_refuse

pub desk_parts : (r storage keys : List ℕ)
    → first_refusal (head_verdict r) (first_refusal (storage_verdict storage keys) (reserved_verdict r)) ≡ translate_verdict r storage keys 0
unfolding translate_verdict first_refusal head_verdict storage_verdict reserved_verdict wrong_access
desk_parts r storage keys = simp first_of_refuse

pub run_parts : (n : Numbers) (r storage keys : List ℕ)
    → first_refusal (head_verdict r) (first_refusal (storage_verdict storage keys) (first_refusal (numbers_verdict n) (reserved_verdict r))) ≡ run_verdict n r storage keys
unfolding run_verdict first_refusal head_verdict storage_verdict numbers_verdict reserved_verdict
run_parts n r storage keys = simp first_of_refuse

-- of a record of 200 bytes
pub short_parts : (r storage keys : List ℕ) (kind : ℕ) → length r ≡ record_length
    → first_refusal (head_verdict r) (first_refusal (storage_verdict storage keys) (first_refusal (bytes_verdict r) (access_verdict kind))) ≡ translate_verdict r storage keys kind
unfolding first_refusal
short_parts r storage keys kind short =
    rw (← translate_parts r storage keys kind, ← reserved_parts r, interval_none r (λ long. absurd (omega (arith, short, long)))) (by_bytes (bytes_verdict r))
  where
    by_bytes : (v : Verdict)
        → first_refusal (head_verdict r) (first_refusal (storage_verdict storage keys) (first_refusal v (access_verdict kind)))
        ≡ first_refusal (head_verdict r) (first_refusal (storage_verdict storage keys) (first_refusal (first_refusal v no_refusal) (access_verdict kind)))
    by_bytes (Ok _) = refl
    by_bytes (Err why) = refl
