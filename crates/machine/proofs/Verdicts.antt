-- Laws of the run's verdict.
-- Assumes nothing.
use Prim.Native.Nat.{ℕ, zero, suc, ◌+◌, ◌≤◌, ◌<◌}
use native.Mathlib.Omega.{arith}
use mathlib.Core.Path.{◌≡◌, refl, sym, ◌∙◌}
use mathlib.Core.Bool.{Bool, true, false, not, ◌&&◌, ◌||◌, false≢true}
use mathlib.Core.List.{List}
use mathlib.Core.Logic.{◌⊎◌, inl, inr, ⊎_elim}
use lib.Dec.{eqb, leb, lit<, lit≤}
use lib.ListN.{length}
use borrow.Author.Tests.{eq-eqb, le-ltb, ltb-false, leb-false, eqb-true, eqb-false, not-false}
use Rattle.machine.specs.declared.Numbers.{Numbers}
use Rattle.machine.specs.declared.Refusal.{Refusal}
use Rattle.machine.specs.Words.{byte_at, half_at, word_at}
use Rattle.machine.specs.Record.{record_length, long_length, GoodLength, version_for, residue_of}
use Rattle.machine.specs.Interval.{period}
use Rattle.machine.specs.Refusals.{most_units, most_time, frames_of, wrong_length, wrong_version, wrong_storage, wrong_keys, wrong_budget, wrong_time, used, wrong_interval, reserved_used, refuse, run_verdict, Verdict, no_refusal}
use Rattle.machine.specs.Theorems.{with_budget}
use Rattle.machine.proofs.Laws.{SameBytes}

-- of accepted input every test failed
pub accepted_test : (refusal : Refusal) (test : Bool) (later : Verdict) → refuse refusal test later ≡ no_refusal → (test ≡ false) × (later ≡ no_refusal)
accepted_test refusal true later e = (cc, cc)
accepted_test refusal false later e = (refl, e)

-- of two tests neither holds
neither : (a b : Bool) → (a || b) ≡ false → (a ≡ false) × (b ≡ false)
neither true b e = absurd (false≢true (sym e))
neither false b e = (refl, e)

-- what the tests of lengths say where they fail

pub length_of_right : (r : List ℕ) → wrong_length r ≡ false → GoodLength r
unfolding wrong_length
length_of_right r right = either (eqb (length r) record_length) refl (eqb (length r) long_length) refl right
  where
    either : (a : Bool) → eqb (length r) record_length ≡ a → (b : Bool) → eqb (length r) long_length ≡ b
        → not ((a && eqb (half_at r 0) record_length) || (b && eqb (half_at r 0) long_length)) ≡ false → GoodLength r
    either true e b f h = inl (eqb-true (length r) record_length e)
    either false e true f h = inr (eqb-true (length r) long_length f)
    either false e false f h = absurd (false≢true (sym h))

pub keys_of_right : (storage keys : List ℕ) → wrong_keys storage keys ≡ false → length keys ≡ frames_of storage
unfolding wrong_keys
keys_of_right storage keys right = eqb-true (length keys) (frames_of storage) (not-false _ right)

-- a time of 0 is wrong
no_time : (n : Numbers) → n.time ≡ 0 → wrong_time n ≡ true
unfolding wrong_time
no_time n e = rw e

module _ (n : Numbers) (r storage keys : List ℕ) (accepted : run_verdict n r storage keys ≡ no_refusal) where
  pub accepted-length : GoodLength r
  unfolding run_verdict
  accepted-length = length_of_right r (accepted_test _ (wrong_length r) _ accepted).0

  pub accepted_budget : n.budget ≤ most_units
  unfolding run_verdict wrong_budget
  accepted_budget =
      let second = (accepted_test _ (wrong_length r) _ accepted).1 in
      let third = (accepted_test _ (wrong_version r) _ second).1 in
      let fourth = (accepted_test _ (wrong_storage storage) _ third).1 in
      let fifth = (accepted_test _ (wrong_keys storage keys) _ fourth).1 in
      ltb-false most_units n.budget (accepted_test _ (wrong_budget n) _ fifth).0

  -- the tests behind that of the budget
  later_tests : (wrong_time n ≡ false) × (reserved_used r ≡ false)
  unfolding run_verdict
  later_tests =
      let second = (accepted_test _ (wrong_length r) _ accepted).1 in
      let third = (accepted_test _ (wrong_version r) _ second).1 in
      let fourth = (accepted_test _ (wrong_storage storage) _ third).1 in
      let fifth = (accepted_test _ (wrong_keys storage keys) _ fourth).1 in
      let sixth = (accepted_test _ (wrong_budget n) _ fifth).1 in
      let seventh = (accepted_test _ (wrong_time n) _ sixth).1 in
      ((accepted_test _ (wrong_time n) _ sixth).0, (accepted_test _ (reserved_used r) _ seventh).0)

  pub accepted_version : byte_at r 2 ≡ version_for (length r)
  unfolding run_verdict wrong_version
  accepted_version =
      let second = (accepted_test _ (wrong_length r) _ accepted).1 in
      eqb-true (byte_at r 2) (version_for (length r)) (not-false _ (accepted_test _ (wrong_version r) _ second).0)

  pub accepted_time : n.time ≤ most_time
  unfolding wrong_time
  accepted_time = ltb-false most_time n.time (neither (eqb n.time 0) _ later_tests.0).1

  pub accepted-some_time : 0 < n.time
  accepted-some_time = by_time n.time refl
    where
      by_time : (t : ℕ) → n.time ≡ t → 0 < t
      by_time zero e = absurd (false≢true (sym later_tests.0 ∙ no_time n e))
      by_time (suc t) e = omega arith

  pub accepted-residue : length r ≡ long_length → residue_of r < period
  unfolding reserved_used wrong_interval
  accepted-residue long =
      leb-false period (residue_of r)
      (neither (used r 201 3) _ (rw (eq-eqb (length r) long_length long) at (neither (used r 66 6) _ later_tests.1).1)).1

-- bytes that are all zero, or not

pub used_of_same : (r t : List ℕ) (a n : ℕ) → SameBytes r t a (a + n) → used r a n ≡ used t a n
unfolding used
used_of_same r t a zero same = refl
used_of_same r t a (suc n) same = rw (same a (omega arith) (omega arith), used_of_same r t (a + 1) n (λ i l h. same i (omega arith) (omega arith)))

pub unused : (r : List ℕ) (a n : ℕ) → ((i : ℕ) → a ≤ i → i < a + n → byte_at r i ≡ 0) → used r a n ≡ false
unfolding used
unused r a zero none = refl
unused r a (suc n) none = rw (eq-eqb (byte_at r a) 0 (none a (omega arith) (omega arith)), unused r (a + 1) n (λ i l h. none i (omega arith) (omega arith)))

pub used_or_zero : (r : List ℕ) (a n : ℕ) → (used r a n ≡ true) ⊎ ((i : ℕ) → a ≤ i → i < a + n → byte_at r i ≡ 0)
unfolding used
used_or_zero r a zero = inr (λ i l h. absurd (omega arith))
used_or_zero r a (suc n) = by_byte (eqb (byte_at r a) 0) refl (used_or_zero r (a + 1) n)
  where
    here_or_later : byte_at r a ≡ 0 → ((i : ℕ) → a + 1 ≤ i → i < a + 1 + n → byte_at r i ≡ 0)
        → (i : ℕ) (b : Bool) → eqb i a ≡ b → a ≤ i → i < a + suc n → byte_at r i ≡ 0
    here_or_later here later i true e l h = rw (eqb-true i a e) here
    here_or_later here later i false e l h = later i (omega (arith, eqb-false i a e)) (omega arith)

    by_byte : (b : Bool) → eqb (byte_at r a) 0 ≡ b → (used r (a + 1) n ≡ true) ⊎ ((i : ℕ) → a + 1 ≤ i → i < a + 1 + n → byte_at r i ≡ 0)
        → ((not b || used r (a + 1) n) ≡ true) ⊎ ((i : ℕ) → a ≤ i → i < a + suc n → byte_at r i ≡ 0)
    by_byte false e later = inl refl
    by_byte true e (inl more) = inl more
    by_byte true e (inr none) = inr λ i. here_or_later (eqb-true (byte_at r a) 0 e) none i (eqb i a) refl

-- bytes 66-71 by a word and a halfword
pub reserved_by_words : (r : List ℕ) → used r 66 6 ≡ not (eqb (word_at r 66 + half_at r 70) 0)
unfolding used word_at
reserved_by_words r = by_sum (eqb (word_at r 66 + half_at r 70) 0) refl
  where
    by_sum : (b : Bool) → eqb (word_at r 66 + half_at r 70) 0 ≡ b → used r 66 6 ≡ not b
    by_sum true e =
        let none : word_at r 66 + half_at r 70 ≡ 0 = eqb-true _ 0 e in
        rw (eq-eqb (byte_at r 66) 0 (omega arith), eq-eqb (byte_at r 67) 0 (omega arith), eq-eqb (byte_at r 68) 0 (omega arith), eq-eqb (byte_at r 69) 0 (omega arith), eq-eqb (byte_at r 70) 0 (omega arith), eq-eqb (byte_at r 71) 0 (omega arith))
    by_sum false e =
        ⊎_elim (λ some. some)
        (λ none. absurd (eqb-false (word_at r 66 + half_at r 70) 0 e (omega (arith, none 66 (lit≤ tt) (lit< tt), none 67 (lit≤ tt) (lit< tt), none 68 (lit≤ tt) (lit< tt), none 69 (lit≤ tt) (lit< tt), none 70 (lit≤ tt) (lit< tt), none 71 (lit≤ tt) (lit< tt)))))
        (used_or_zero r 66 6)

-- the interval timer's fields of two records are in range alike: bytes 201-203 are the same, and both residues are in range or neither is
pub record SameInterval (r t : List ℕ) : Type 0 where
  pub reserved : SameBytes r t 201 204
  pub residues : length t ≡ long_length → leb period (residue_of r) ≡ leb period (residue_of t)

interval_of_same : (r t : List ℕ) → length r ≡ length t → SameInterval r t → wrong_interval r ≡ wrong_interval t
unfolding wrong_interval
interval_of_same r t long same = rw (long, used_of_same r t 201 3 same.reserved) (by_length (eqb (length t) long_length) refl)
  where
    by_length : (b : Bool) → eqb (length t) long_length ≡ b
        → (b && (used t 201 3 || leb period (residue_of r))) ≡ (b && (used t 201 3 || leb period (residue_of t)))
    by_length true e = rw (same.residues (eqb-true (length t) long_length e))
    by_length false e = refl

-- the verdict goes by lengths, by the bytes of the record that no rule names, by the residue's range, by the time, and by the budget's
-- limit
pub verdict_of_same : (n k : Numbers) (r t s s' x x' : List ℕ) → length r ≡ length t → SameBytes r t 0 3 → SameBytes r t 66 72
    → SameInterval r t
    → length s ≡ length s' → length x ≡ length x' → n.time ≡ k.time → n.budget ≤ most_units → k.budget ≤ most_units
    → run_verdict n r s x ≡ run_verdict k t s' x'
unfolding run_verdict wrong_length wrong_version wrong_storage wrong_keys wrong_budget wrong_time reserved_used
verdict_of_same n k r t s s' x x' long low reserved interval whole each_key time small small' =
    rw (
      le-ltb most_units n.budget small,
      le-ltb most_units k.budget small',
      interval_of_same r t long interval,
      long,
      whole,
      each_key,
      time,
      low 0 (omega arith) (omega arith),
      low 1 (omega arith) (omega arith),
      low 2 (omega arith) (omega arith),
      used_of_same r t 66 6 reserved,
    )

-- the verdict does not depend on a budget within the limit
pub verdict_of_budget : (n : Numbers) (a b : ℕ) (r storage keys : List ℕ) → a ≤ most_units → b ≤ most_units
    → run_verdict (with_budget n a) r storage keys ≡ run_verdict (with_budget n b) r storage keys
verdict_of_budget n a b r storage keys small small' =
    verdict_of_same (with_budget n a) (with_budget n b) r r storage storage keys keys refl (λ i l h. refl) (λ i l h. refl)
    (record { reserved = λ i l h. refl; residues = λ long. refl }) refl refl refl small small'
