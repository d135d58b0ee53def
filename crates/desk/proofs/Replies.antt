-- Two storages of one length that have the same entries of an extent: a call of the desk answers alike, and writes alike.
use Rattle.std.specs.Prelude.{Err, Ok}
use Prim.Native.Nat.{ℕ, ◌+◌, ◌-◌, ◌≤◌, ◌<◌}
use native.Mathlib.Omega.{arith}
use mathlib.Core.Path.{◌≡◌, refl, sym, ap, ◌∙◌}
use mathlib.Core.Bool.{Bool, true, false, cond, ◌||◌, or-true}
use mathlib.Core.List.{List}
use borrow.Author.Tests.{leb-false, not-false}
use lib.Dec.{leb}
use lib.ListN.{length}
use lib.Seq.{sets}
use Rattle.machine.specs.Words.{byte_at, word_bytes}
use Rattle.machine.specs.Record.{guest_of}
use Rattle.machine.specs.Refusals.{wrong_storage, wrong_keys, Answer, Verdict}
use Rattle.machine.specs.Entry.{entry_good}
use Rattle.machine.specs.Frames.{page_place, page_of}
use Rattle.machine.proofs.Laws.{get_d_sets_beside, get_d_sets-inside}
use Rattle.machine.proofs.Verdicts.{accepted_test}
use Rattle.desk.specs.declared.Change.{Change}
use Rattle.desk.specs.declared.Change.TheVariants.{Add, Remove, Protect}
use Rattle.desk.specs.declared.Called.{Called}
use Rattle.desk.specs.declared.Called.TheVariants as called
use Rattle.desk.specs.Reach.{page_reached}
use Rattle.desk.specs.Extent.{first_page, page_count, serves_second_page, serves_as_segment}
use Rattle.desk.specs.Desk.{entry_after, storage_after, out_of_reach, state_verdict, entangled, change_verdict, desk_verdict, Result, unchanged, change_as, change_of, desk_as, desk_of, list_for, list_as, list_of}
use Rattle.desk.specs.Unbacked.{lowest, wrong_range, unbacked_for, unbacked_as, unbacked_of}
use Rattle.desk.proofs.Tables.{true_or_false, SameEntriesOf, SameTables, same_tables, page_in-reach}
use Rattle.desk.proofs.Extents.{same_valid_pages, same_listing, same_entry-in_frame, same_second_page, same_as_segment}
use Rattle.desk.proofs.Changes.{neither, length-after}
use Rattle.desk.proofs.Written.{segment_written, reach_written, place_written}
use Rattle.desk.proofs.Describing.{beside_or_in}
use Rattle.desk.proofs.Surveys.{same_pages, range_of_right}

-- of two disjunctions the second tests are the same, and where those fail, the first are
same_or : (a b x : Bool) {y : Bool} → x ≡ y → (x ≡ false → a ≡ b) → (a || x) ≡ (b || y)
same_or a b true e f = rw (← e) (or-true a ∙ sym (or-true b))
same_or a b false e f = rw (← e, f refl)

-- one word, written into both at one place
written_alike : (s t : List ℕ) (at w i : ℕ) → length s ≡ length t → at + 4 ≤ length s → byte_at s i ≡ byte_at t i
    → byte_at (sets s at (word_bytes w)) i ≡ byte_at (sets t at (word_bytes w)) i
written_alike s t at w i lengths fits e =
    beside_or_in at i
    (λ beside. get_d_sets_beside s at (word_bytes w) i 0 beside ∙ e ∙ sym (get_d_sets_beside t at (word_bytes w) i 0 beside))
    (λ low high.
    let here : i ≡ at + (i - at) = omega arith in
    rw here
    (get_d_sets-inside s at (word_bytes w) (i - at) 0 (omega arith) fits ∙ sym (get_d_sets-inside t at (word_bytes w) (i - at) 0 (omega arith) (omega arith))))

-- what stands behind a test, alike where it comes to it
same_where_true : {A : Type 0} (b : Bool) (u v w : A) → (b ≡ true → u ≡ v) → cond b u w ≡ cond b v w
same_where_true true u v w e = e refl
same_where_true false u v w e = refl

same_where_false : {A : Type 0} (b : Bool) (u v w : A) → (b ≡ false → u ≡ v) → cond b w u ≡ cond b w v
same_where_false true u v w e = refl
same_where_false false u v w e = e refl

module _ (first pages d : ℕ) (s t : List ℕ) (lengths : length s ≡ length t) (same : (p : ℕ) → p < pages → SameEntriesOf d s t (first + p)) where
  tables : (p : ℕ) → p < pages → SameTables d s t (first + p)
  tables p below = same_tables d s t (first + p) (same p below)

  module _ (c : Change) (p : ℕ) (below : p < pages) (reached : page_reached d s (first + p) ≡ true) where
    -- after the change of the page
    abbrev s' : List ℕ
    s' = storage_after c d s (first + p)

    abbrev t' : List ℕ
    t' = storage_after c d t (first + p)

    bytes_after : (i : ℕ) → byte_at s i ≡ byte_at t i → byte_at s' i ≡ byte_at t' i
    unfolding storage_after
    bytes_after i e =
        rw (← (tables p below).entry reached, ← (tables p below).place reached)
        (written_alike s t (page_place d s (first + p)) (entry_after c (page_of d s (first + p))) i lengths (page_in-reach d s (first + p) reached).in_storage e)

    entries-after : serves_second_page first pages d s p ≡ false → serves_as_segment first pages d s p ≡ false → (q : ℕ) → q < pages
        → SameEntriesOf d s' t' (first + q)
    entries-after alone no_segment q inside = record {
      lengths = length-after c d s (first + p) ∙ lengths ∙ sym (length-after c d t (first + p));
      segment = λ near i low high.
          bytes_after i ((same q inside).segment (segment_written c first pages d s p below reached alone no_segment q ∙ near) i low high);
      own = λ near.
          let before = reach_written c first pages d s p below reached alone no_segment q inside ∙ near in
          rw (← place_written c first pages d s p below reached alone no_segment q inside before)
          λ i low high. bytes_after i ((same q inside).own before i low high);
    }

    same_entangled : entangled c first pages d s p ≡ entangled c first pages d t p
    unfolding entangled
    same_entangled =
        same_or _ _ (serves_second_page first pages d s p || serves_as_segment first pages d s p)
        (λ i. same_second_page first pages d s t lengths tables p below reached i || same_as_segment first pages d s t lengths tables p below reached i)
        (λ fails.
        let (alone, no_segment) = neither (serves_second_page first pages d s p) _ fails in
        let after = entries-after alone no_segment in
        same_entry-in_frame first pages d s' t' (after p below).lengths λ q inside. same_tables d s' t' (first + q) (after q inside))

  state_by_length : (c : Change) (valid : Bool) (later : Verdict) → state_verdict c s valid later ≡ state_verdict c t valid later
  unfolding state_verdict
  state_by_length (Add frame) valid later = rw lengths
  state_by_length Remove valid later = refl
  state_by_length Protect valid later = refl

  same_change_verdict : (c : Change) (p : ℕ) → change_verdict c first pages d s p ≡ change_verdict c first pages d t p
  unfolding change_verdict out_of_reach
  same_change_verdict c p =
      true_or_false _ (leb pages p) (λ past. rw past)
      (λ before.
      let below : p < pages = leb-false pages p before in
      true_or_false _ (page_reached d s (first + p))
      (λ reached.
      rw (before, ← (tables p below).reach, reached, ← (tables p below).valid, same_entangled c p below reached)
      (state_by_length c _ _))
      (λ far. rw (before, ← (tables p below).reach, far)))

-- what a call answers of two storages, the number that it hands back, and the bytes that it leaves alike
pub record SameOutcome (s t : List ℕ) (x y : Result) : Type 0 where
  pub answer : x.answer ≡ y.answer
  pub number : x.number ≡ y.number
  pub bytes : (i : ℕ) → byte_at s i ≡ byte_at t i → byte_at x.storage i ≡ byte_at y.storage i

unchanged-alike : (s t : List ℕ) (answer : Answer Called) (number : ℕ) → SameOutcome s t (unchanged answer s number) (unchanged answer t number)
unchanged-alike s t answer number = record { answer = refl; number = refl; bytes = λ i e. e }

on_one_test : {A : Type 0} (P : A → A → Type 0) (b : Bool) {u u' v v' : A} → P u u' → P v v' → P (cond b u v) (cond b u' v')
on_one_test P true p q = p
on_one_test P false p q = q

-- the verdict on the input goes by the lengths
pub same_lengths_verdict : (r s k t l : List ℕ) → (length s ≡ length t) × (length k ≡ length l) → desk_verdict r s k ≡ desk_verdict r t l
unfolding desk_verdict wrong_storage wrong_keys
same_lengths_verdict r s k t l lengths = simp (lengths.0, lengths.1)

module _ (r : List ℕ) (d : ℕ) (s k t l : List ℕ) (lengths : (length s ≡ length t) × (length k ≡ length l))
    (same : (p : ℕ) → p < page_count (guest_of r) → SameEntriesOf d s t (first_page (guest_of r) + p)) where
  same_desk_verdict : desk_verdict r s k ≡ desk_verdict r t l
  same_desk_verdict = same_lengths_verdict r s k t l lengths

  same_change : (c : Change) (p number : ℕ) → SameOutcome s t (change_of c (guest_of r) d s p number) (change_of c (guest_of r) d t p number)
  unfolding change_of change_as out_of_reach change_verdict
  same_change c p number = rw (← same_change_verdict _ _ d s t lengths.0 same c p) (by_verdict _ refl)
    where
      by_verdict : (v : Verdict) → change_verdict c (first_page (guest_of r)) (page_count (guest_of r)) d s p ≡ v
          → SameOutcome s t (change_as c d s (first_page (guest_of r) + p) number v) (change_as c d t (first_page (guest_of r) + p) number v)
      by_verdict (Err refusal) e = unchanged-alike s t (Err refusal) number
      by_verdict (Ok _) e =
          let (inside, reached) = neither (leb (page_count (guest_of r)) p) _ (accepted_test _ (out_of_reach (first_page (guest_of r)) (page_count (guest_of r)) d s p) _ e).0 in
          record { answer = refl; number = refl; bytes = bytes_after _ _ d s t lengths.0 same c p (leb-false _ p inside) (not-false _ reached) }

  pub same_desk : (c : Change) (p number : ℕ) → SameOutcome s t (desk_of c r d s k p number) (desk_of c r d t l p number)
  unfolding desk_of desk_as
  same_desk c p number = rw (← same_desk_verdict) (by_verdict (desk_verdict r s k))
    where
      by_verdict : (v : Verdict) → SameOutcome s t (desk_as c r d s p number v) (desk_as c r d t p number v)
      by_verdict (Err refusal) = unchanged-alike s t (Err refusal) number
      by_verdict (Ok _) =
          on_one_test (SameOutcome s t) (entry_good (guest_of r)) (same_change c p number) (unchanged-alike s t (Ok called.Validity) number)

  same_list_for : (ws : List ℕ) → list_for (guest_of r) d s ws ≡ list_for (guest_of r) d t ws
  unfolding list_for
  same_list_for ws =
      let said = tables _ _ d s t lengths.0 same in
      rw (same_valid_pages _ _ d s t lengths.0 said, same_listing _ _ d s t lengths.0 said)

  pub same_list : (ws : List ℕ) → list_of r d s k ws ≡ list_of r d t l ws
  unfolding list_of list_as
  same_list ws = rw (← same_desk_verdict) (by_verdict (desk_verdict r s k))
    where
      by_verdict : (v : Verdict) → list_as r d s ws v ≡ list_as r d t ws v
      by_verdict (Err refusal) = refl
      by_verdict (Ok _) = rw same_list_for

-- the question for the first unbacked page, of a guest whose tables are alike where entry lets it through
module _ (r : List ℕ) (d : ℕ) (s k t l : List ℕ) (lengths : (length s ≡ length t) × (length k ≡ length l)) (from to : ℕ) where
  pub same_question : (entry_good (guest_of r) ≡ true → (p : ℕ) → p < page_count (guest_of r) → SameEntriesOf d s t (first_page (guest_of r) + p))
      → unbacked_of r d s k from to ≡ unbacked_of r d t l from to
  unfolding unbacked_of unbacked_as unbacked_for
  same_question same = rw (← same_lengths_verdict r s k t l lengths) (by_verdict (desk_verdict r s k))
    where
      surveyed : entry_good (guest_of r) ≡ true → unbacked_for (guest_of r) d s from to ≡ unbacked_for (guest_of r) d t from to
      surveyed good =
          same_where_false (wrong_range (page_count (guest_of r)) from to) _ _ _ λ right.
          let (order, inside) = range_of_right (page_count (guest_of r)) from to right in
          ap lowest
          (same_pages (first_page (guest_of r)) d s t from to order
          (λ q low high. (same_tables d s t (first_page (guest_of r) + q) (same good q (omega arith))).valid))

      by_verdict : (v : Verdict) → unbacked_as r d s from to v ≡ unbacked_as r d t from to v
      by_verdict (Err number) = refl
      by_verdict (Ok _) = same_where_true (entry_good (guest_of r)) _ _ _ surveyed
