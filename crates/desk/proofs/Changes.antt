-- A call of the desk taken apart: it leaves storage and number as they came, or every test let it through, and then it has written one
-- host page entry.
use Rattle.std.specs.Prelude.{Err, Ok}
use Prim.Native.Nat.{ℕ, ◌+◌, ◌*◌, ◌≤◌, ◌<◌}
use native.Mathlib.Omega.{arith}
use mathlib.Core.Path.{◌≡◌, refl}
use mathlib.Core.Bool.{Bool, true, false, not, ◌||◌}
use mathlib.Core.List.{List}
use mathlib.Core.Logic.{◌⊎◌, inl, inr}
use borrow.Author.Tests.{leb-false, ltb-false, not-false}
use lib.Dec.{eqb, leb, ltb}
use lib.ListN.{length}
use lib.Seq.{length-sets}
use Rattle.machine.specs.declared.Refusal.{Refusal}
use Rattle.machine.specs.Words.{byte_at, word_bytes}
use Rattle.machine.specs.Record.{guest_of}
use Rattle.machine.specs.Sizes.{frame_bytes}
use Rattle.machine.specs.Refusals.{frames_of, most_frames, wrong_length, wrong_version, wrong_storage, Answer, Verdict, no_refusal}
use Rattle.machine.specs.Entry.{entry_good}
use Rattle.machine.specs.Frames.{page_place, page_of}
use Rattle.machine.proofs.Laws.{get_d_sets_beside}
use Rattle.machine.proofs.Tests.{by_either_test}
use Rattle.machine.proofs.Verdicts.{accepted_test}
use Rattle.desk.specs.declared.Change.{Change}
use Rattle.desk.specs.declared.Change.TheVariants.{Add, Remove, Protect}
use Rattle.desk.specs.declared.Called.{Called}
use Rattle.desk.specs.declared.Called.TheVariants as called
use Rattle.desk.specs.Reach.{page_reached, page_valid}
use Rattle.desk.specs.Extent.{first_page, page_count, entry_in_frame, serves_second_page, serves_as_segment}
use Rattle.desk.specs.Desk.{Result, unchanged, entry_after, storage_after, number_after, out_of_reach, state_verdict, entangled, change_verdict, desk_verdict, change_as, change_of, desk_as, desk_of}
use Rattle.desk.specs.Theorems.{CallsChangeOneEntry}
use Rattle.desk.proofs.Tables.{never_both}

-- neither test is true
pub neither : (a b : Bool) → (a || b) ≡ false → (a ≡ false) × (b ≡ false)
neither true b e = (e, never_both refl e)
neither false b e = (refl, e)

-- the state in which a page is added, removed or protected
abbrev pub StateFits : Change → List ℕ → Bool → Type 0
StateFits (Add frame) s valid = (valid ≡ false) × (frame < frames_of s)
StateFits Remove s valid = valid ≡ true
StateFits Protect s valid = valid ≡ true

pub state_fits : (c : Change) (s : List ℕ) (valid : Bool) (later : Verdict) → state_verdict c s valid later ≡ no_refusal
    → StateFits c s valid × (later ≡ no_refusal)
unfolding state_verdict
state_fits (Add frame) s valid later e =
    let (notYet, f) = accepted_test _ valid _ e in
    let (present, rest) = accepted_test _ (leb (frames_of s) frame) later f in
    ((notYet, leb-false _ _ present), rest)
state_fits Remove s valid later e =
    let (already, rest) = accepted_test _ (not valid) later e in
    (not-false valid already, rest)
state_fits Protect s valid later e =
    let (already, rest) = accepted_test _ (not valid) later e in
    (not-false valid already, rest)

-- a storage that is not refused has at most 4,096 frames
pub few_frames : (r s k : List ℕ) → desk_verdict r s k ≡ no_refusal → frames_of s ≤ most_frames
unfolding desk_verdict wrong_storage
few_frames r s k e =
    let second = (accepted_test _ (wrong_length r) _ e).1 in
    let third = (accepted_test _ (wrong_version r) _ second).1 in
    let right = (neither (eqb (length s) 0 || ltb (most_frames * frame_bytes) (length s)) _ (accepted_test _ (wrong_storage s) _ third).0).0 in
    let small : length s ≤ most_frames * frame_bytes = ltb-false _ _ (neither (eqb (length s) 0) _ right).1 in
    omega arith

-- the change of a page's entry leaves the length, and every byte beside the entry

pub length-after : (c : Change) (d : ℕ) (s : List ℕ) (page : ℕ) → length (storage_after c d s page) ≡ length s
unfolding storage_after
length-after c d s page = length-sets s (page_place d s page) (word_bytes (entry_after c (page_of d s page)))

pub byte_after : (c : Change) (d : ℕ) (s : List ℕ) (page i : ℕ) → (i < page_place d s page) ⊎ (page_place d s page + 4 ≤ i)
    → byte_at (storage_after c d s page) i ≡ byte_at s i
unfolding storage_after
byte_after c d s page i beside = get_d_sets_beside s (page_place d s page) (word_bytes (entry_after c (page_of d s page))) i 0 beside

refused_not_done : (refusal : Refusal) → ◌≡◌ {A = Answer Called} (Err refusal) (Ok called.Done) → ⊥
refused_not_done refusal e = let z : ◌≡◌ {A = ℕ} 0 1 = cc in omega arith

validity_not_done : ◌≡◌ {A = Answer Called} (Ok called.Validity) (Ok called.Done) → ⊥
validity_not_done e = let z : ◌≡◌ {A = ℕ} 0 1 = cc in omega arith

pub done_or_not : (answer : Answer Called) → (answer ≡ (Ok called.Done)) ⊎ (answer ≡ (Ok called.Done) → ⊥)
done_or_not (Err refusal) = inr (refused_not_done refusal)
done_or_not (Ok called.Validity) = inr validity_not_done
done_or_not (Ok called.Done) = inl refl

-- the host page of page `q` of the guest that a record describes
abbrev pub host_of : List ℕ → ℕ → ℕ
host_of r q = first_page (guest_of r) + q

module _ (c : Change) (r : List ℕ) (d : ℕ) (s k : List ℕ) (p number : ℕ) where
  -- what was known before the entry was written
  pub record LetThrough : Type 0 where
    pub right : desk_verdict r s k ≡ no_refusal
    pub good : entry_good (guest_of r) ≡ true
    pub accepted : change_verdict c (first_page (guest_of r)) (page_count (guest_of r)) d s p ≡ no_refusal

  -- what holds where nothing changes, and where the entry is written, holds of the call
  pub by_call : (P : Result → Type 0) → ((answer : Answer Called) → (answer ≡ (Ok called.Done) → ⊥) → P (unchanged answer s number))
      → (LetThrough → P (record { answer = (Ok called.Done); storage = storage_after c d s (host_of r p); number = number_after c number }))
      → P (desk_of c r d s k p number)
  unfolding desk_of desk_as change_of change_as
  by_call P left done = by_verdict (desk_verdict r s k) refl
    where
      by_change : desk_verdict r s k ≡ no_refusal → entry_good (guest_of r) ≡ true
          → (v : Verdict) → change_verdict c (first_page (guest_of r)) (page_count (guest_of r)) d s p ≡ v → P (change_as c d s (host_of r p) number v)
      by_change right good (Err refusal) e = left (Err refusal) (refused_not_done refusal)
      by_change right good (Ok _) e = done (record { right = right; good = good; accepted = e })

      by_verdict : (v : Verdict) → desk_verdict r s k ≡ v → P (desk_as c r d s p number v)
      by_verdict (Err refusal) e = left (Err refusal) (refused_not_done refusal)
      by_verdict (Ok _) e =
          by_either_test P (entry_good (guest_of r)) (λ good. by_change e good _ refl)
          (λ _. left (Ok called.Validity) validity_not_done)

  -- all that is known of a call that is done
  pub record Happened : Type 0 where
    pub right : desk_verdict r s k ≡ no_refusal
    pub good : entry_good (guest_of r) ≡ true
    pub inside : p < page_count (guest_of r)
    pub reached : page_reached d s (host_of r p) ≡ true
    pub fits : StateFits c s (page_valid d s (host_of r p))
    pub outside : entry_in_frame (first_page (guest_of r)) (page_count (guest_of r)) d (storage_after c d s (host_of r p)) ≡ false
    pub alone : serves_second_page (first_page (guest_of r)) (page_count (guest_of r)) d s p ≡ false
    pub no_segment : serves_as_segment (first_page (guest_of r)) (page_count (guest_of r)) d s p ≡ false
    pub stored : (desk_of c r d s k p number).storage ≡ storage_after c d s (host_of r p)
    pub counted : (desk_of c r d s k p number).number ≡ number_after c number

  -- the tests of the page, each of them
  happened : LetThrough → (desk_of c r d s k p number).storage ≡ storage_after c d s (host_of r p) → (desk_of c r d s k p number).number ≡ number_after c number
      → Happened
  unfolding change_verdict out_of_reach entangled
  happened through stored counted =
      let (near, second) = accepted_test _ (out_of_reach (first_page (guest_of r)) (page_count (guest_of r)) d s p) _ through.accepted in
      let (inside, reached) = neither (leb (page_count (guest_of r)) p) _ near in
      let (fits, third) = state_fits c s (page_valid d s (host_of r p)) _ second in
      let (outside, rest) = neither _ _ (accepted_test _ (entangled c (first_page (guest_of r)) (page_count (guest_of r)) d s p) _ third).0 in
      let (alone, no_segment) = neither _ _ rest in
      record {
        right = through.right;
        good = through.good;
        inside = leb-false _ _ inside;
        reached = not-false _ reached;
        fits = fits;
        outside = outside;
        alone = alone;
        no_segment = no_segment;
        stored = stored;
        counted = counted;
      }

  pub done_of : (desk_of c r d s k p number).answer ≡ (Ok called.Done) → Happened
  done_of done =
      by_call
      (λ x. x.answer ≡ (Ok called.Done) → (desk_of c r d s k p number).storage ≡ x.storage → (desk_of c r d s k p number).number ≡ x.number → Happened)
      (λ _ other e. absurd (other e)) (λ through _. happened through) done refl refl

  pub not_done : ((desk_of c r d s k p number).answer ≡ (Ok called.Done) → ⊥)
      → ((desk_of c r d s k p number).storage ≡ s) × ((desk_of c r d s k p number).number ≡ number)
  not_done =
      by_call (λ x. (x.answer ≡ (Ok called.Done) → ⊥) → (x.storage ≡ s) × (x.number ≡ number)) (λ _ _ _. (refl, refl))
      (λ _ other. absurd (other refl))

pub calls_change_one_entry : CallsChangeOneEntry
calls_change_one_entry c r d s k p number = record {
  long = by_call c r d s k p number (λ x. length x.storage ≡ length s) (λ _ _. refl) (λ _. length-after c d s (host_of r p));
  rest = λ i beside. by_call c r d s k p number (λ x. byte_at x.storage i ≡ byte_at s i) (λ _ _. refl) (λ _. byte_after c d s (host_of r p) i beside);
  refused = not_done c r d s k p number;
}
