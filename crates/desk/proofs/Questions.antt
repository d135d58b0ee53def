-- The proofs of specs/Questions.
use Rattle.std.specs.Prelude.{Err, Ok}
use Prim.Native.Nat.{ℕ, ◌≤◌, ◌<◌}
use native.Mathlib.Omega.{arith}
use mathlib.Core.Path.{◌≡◌, refl, sym, ◌∙◌}
use mathlib.Core.Bool.{Bool, true, false}
use mathlib.Core.List.{List}
use mathlib.Core.Logic.{⊎_elim}
use borrow.Author.Tests.{ltb-true, ltb-false, eqb-true, eqb-false}
use lib.Dec.{eqb, ltb}
use lib.ListN.{get_or}
use Rattle.machine.specs.declared.Refusal.TheVariants.{WrongRange}
use Rattle.machine.specs.declared.Refusal.{Refusal}
use Rattle.machine.specs.Record.{guest_of}
use Rattle.machine.specs.Entry.{entry_good}
use Rattle.machine.specs.Walk.{frame_of}
use Rattle.machine.specs.Frames.{page_of}
use Rattle.machine.proofs.Tests.{by_either_test}
use Rattle.desk.specs.declared.Change.TheVariants.{Add}
use Rattle.desk.specs.declared.Called.TheVariants.{Done}
use Rattle.desk.specs.declared.Listed.TheVariants.{Pages}
use Rattle.desk.specs.declared.Found.{Found}
use Rattle.desk.specs.declared.Found.TheVariants.{Validity, None, Page}
use Rattle.desk.specs.Reach.{page_valid}
use Rattle.desk.specs.Extent.{first_page, page_count, not_valid}
use Rattle.desk.specs.Desk.{desk_verdict, desk_of, list_of}
use Rattle.desk.specs.Unbacked.{unbacked_in, lowest, wrong_range, unbacked_for, unbacked_as, unbacked_of}
use Rattle.desk.specs.Questions.{GoodQuestion, AnswersAreTheLowest, AnswersAgreeWithListings, After, AddingMovesUp, IsolationOfQuestions}
use Rattle.desk.proofs.Tables.{never_both, true_or_false, page_is_valid, page-valid}
use Rattle.desk.proofs.Changes.{host_of, done_of, calls_change_one_entry}
use Rattle.desk.proofs.Pages.{calls_do_what_they_say}
use Rattle.desk.proofs.Good.{not_true_is_false, input_accepted}
use Rattle.desk.proofs.Listings.{listings_show_the_pages}
use Rattle.desk.proofs.Describing.{in_extent, segment-describes, page-describes}
use Rattle.desk.proofs.Surveys.{AllPass, FirstFails, by_pages, survey_none, survey_page, range_of_right, right_range}
use Rattle.desk.proofs.Replies.{same_lengths_verdict, same_question}
use Rattle.machine.specs.Refusals.{Answer, Verdict, no_refusal}

refused_not_none : (why : Refusal) → ◌≡◌ {A = Answer Found} (Err why) (Ok None) → ⊥
refused_not_none why e = let z : ◌≡◌ {A = ℕ} 0 1 = cc in omega arith

refused_not_page : (why : Refusal) (p : ℕ) → ◌≡◌ {A = Answer Found} (Err why) (Ok (Page p)) → ⊥
refused_not_page why p e = let z : ◌≡◌ {A = ℕ} 0 1 = cc in omega arith

validity_not_none : ◌≡◌ {A = Answer Found} (Ok Validity) (Ok None) → ⊥
validity_not_none e = let z : ◌≡◌ {A = ℕ} 0 1 = cc in omega arith

validity_not_page : (p : ℕ) → ◌≡◌ {A = Answer Found} (Ok Validity) (Ok (Page p)) → ⊥
validity_not_page p e = let z : ◌≡◌ {A = ℕ} 0 1 = cc in omega arith

none_not_page : (p : ℕ) → ◌≡◌ {A = Answer Found} (Ok None) (Ok (Page p)) → ⊥
none_not_page p e = let z : ◌≡◌ {A = ℕ} 0 1 = cc in omega arith

page_not_none : (p : ℕ) → ◌≡◌ {A = Answer Found} (Ok (Page p)) (Ok None) → ⊥
page_not_none p e = none_not_page p (sym e)

one_page : (p q : ℕ) → ◌≡◌ {A = Answer Found} (Ok (Page p)) (Ok (Page q)) → p ≡ q
one_page p q e = cc

module _ (r : List ℕ) (d : ℕ) (s k : List ℕ) (from to : ℕ) where
  -- the pages asked about
  abbrev valid : ℕ → Bool
  valid q = page_valid d s (host_of r q)

  -- what was known before the survey
  record LetThrough : Type 0 where
    good : entry_good (guest_of r) ≡ true
    order : from ≤ to
    inside : to ≤ page_count (guest_of r)

  -- what holds of a refusal and of code 32, and of each answer of the survey, holds of the question's
  by_question : (P : Answer Found → Type 0) → ((why : Refusal) → P (Err why)) → P (Ok Validity) → (LetThrough → AllPass valid from to → P (Ok None))
      → (LetThrough → (p : ℕ) → FirstFails valid from to p → P (Ok (Page p))) → P (unbacked_of r d s k from to)
  unfolding unbacked_of unbacked_as unbacked_for
  by_question P refused validity none some = by_verdict (desk_verdict r s k)
    where
      surveyed : entry_good (guest_of r) ≡ true → wrong_range (page_count (guest_of r)) from to ≡ false
          → P (lowest (unbacked_in (first_page (guest_of r)) d s from to))
      surveyed good right =
          let (order, inside) = range_of_right (page_count (guest_of r)) from to right in
          let through : LetThrough = record { good = good; order = order; inside = inside } in
          by_pages (first_page (guest_of r)) d s from to order P (none through) (some through)

      by_verdict : (v : Verdict) → P (unbacked_as r d s from to v)
      by_verdict (Err number) = refused number
      by_verdict (Ok _) =
          by_either_test P (entry_good (guest_of r))
          (λ good. by_either_test P (wrong_range (page_count (guest_of r)) from to) (λ _. refused WrongRange) (surveyed good))
          (λ _. validity)

  none_given : unbacked_of r d s k from to ≡ (Ok None) → LetThrough × AllPass valid from to
  none_given =
      by_question (λ x. x ≡ (Ok None) → LetThrough × AllPass valid from to) (λ number e. absurd (refused_not_none number e))
      (λ e. absurd (validity_not_none e)) (λ through all _. (through, all)) (λ _ p _ e. absurd (page_not_none p e))

  page-given : (p : ℕ) → unbacked_of r d s k from to ≡ Ok (Page p) → LetThrough × FirstFails valid from to p
  page-given p =
      by_question (λ x. x ≡ Ok (Page p) → LetThrough × FirstFails valid from to p) (λ number e. absurd (refused_not_page number p e))
      (λ e. absurd (validity_not_page p e)) (λ _ _ e. absurd (none_not_page p e)) (λ through q h e. (through, rw (one_page q p e) at h))

  -- the answer to a question that is let through
  answered : desk_verdict r s k ≡ no_refusal → LetThrough
      → unbacked_of r d s k from to ≡ lowest (unbacked_in (first_page (guest_of r)) d s from to)
  unfolding unbacked_of unbacked_as unbacked_for
  answered right through = rw (right, through.good, right_range (page_count (guest_of r)) from to through.order through.inside)

  let_through : GoodQuestion r s k from to → LetThrough
  let_through good = record { good = good.entry; order = good.order; inside = good.inside }

pub answers_are_the_lowest : AnswersAreTheLowest
answers_are_the_lowest = record {
  none = λ r d s k from to e q low high. page_is_valid d s (host_of r q) ((none_given r d s k from to e).1 q low high);
  page = λ r d s k from to p e.
      let h = (page-given r d s k from to p e).1 in
      record {
        low = h.low;
        high = h.high;
        unbacked = λ v. never_both (page-valid d s (host_of r p) v) h.fails;
        lower = λ q low high. page_is_valid d s (host_of r q) (h.passed q low high);
      };
  if_none = λ r d s k from to good all.
      let through = let_through r d s k from to good in
      answered r d s k from to (input_accepted r s k good.input) through
      ∙ survey_none (first_page (guest_of r)) d s from to good.order (λ q low high. page-valid d s (host_of r q) (all q low high));
  if_page = λ r d s k from to p good h.
      let through = let_through r d s k from to good in
      answered r d s k from to (input_accepted r s k good.input) through
      ∙ survey_page (first_page (guest_of r)) d s from to good.order p (record {
        low = h.low;
        high = h.high;
        fails = not_true_is_false _ (λ v. h.unbacked (page_is_valid d s (host_of r p) v));
        passed = λ q low high. page-valid d s (host_of r q) (h.lower q low high);
      });
  inside = λ r d s k from to given.
      let through = ⊎_elim (λ e. (none_given r d s k from to e).0) (λ (p, e). (page-given r d s k from to p e).0) given in
      (through.good, (through.order, through.inside));
}

-- a frame of 19 bits is not shown as none
frame_shown : (e : ℕ) → frame_of e ≡ not_valid → ⊥
frame_shown e is = omega arith

pub answers-agree_with_listings : AnswersAgreeWithListings
answers-agree_with_listings = record {
  none = λ r d s k ws from to valid done e q low high is.
      let (through, all) = none_given r d s k from to e in
      backed r d s k ws valid done q (omega (arith, through.inside)) (all q low high) is;
  page = λ r d s k ws from to valid p done e.
      let (through, h) = page-given r d s k from to p e in
      let below : p < page_count (guest_of r) = omega (arith, through.inside, h.high) in (
        (listings_show_the_pages.done r d s k ws valid done).not_shown p below h.fails,
        λ q low high is. backed r d s k ws valid done q (omega arith) (h.passed q low high) is,
      );
}
  where
    backed : (r : List ℕ) (d : ℕ) (s k ws : List ℕ) (valid : ℕ) → (list_of r d s k ws).answer ≡ Ok (Pages valid) → (q : ℕ) → q < page_count (guest_of r)
        → page_valid d s (host_of r q) ≡ true → get_or (list_of r d s k ws).words q 0 ≡ not_valid → ⊥
    backed r d s k ws valid done q below v is =
        frame_shown (page_of d s (host_of r q)) (sym ((listings_show_the_pages.done r d s k ws valid done).shown q below v) ∙ is)

-- once the page is added
module _ (frame : ℕ) (r : List ℕ) (d : ℕ) (s k : List ℕ) (from to p number : ℕ) (found : unbacked_of r d s k from to ≡ Ok (Page p))
    (done : (desk_of (Add frame) r d s k p number).answer ≡ (Ok Done)) where
  abbrev after : List ℕ
  after = (desk_of (Add frame) r d s k p number).storage

  lower_stays : (q : ℕ) → q < p → page_valid d s (host_of r q) ≡ true → page_valid d after (host_of r q) ≡ true
  lower_stays q below v =
      let inside = calls_do_what_they_say.inside (Add frame) r d s k p number done in
      (calls_do_what_they_say.others (Add frame) r d s k p number done).valid q (omega arith) (λ e. omega arith) ∙ v

  moved : (q : ℕ) → FirstFails (λ x. page_valid d after (host_of r x)) from to q → p < q
  moved q h =
      let (through, was) = page-given r d s k from to p found in
      true_or_false _ (ltb p q) (ltb-true p q)
      (λ e. true_or_false _ (eqb q p)
      (λ f. never_both (calls_do_what_they_say.adding frame r d s k p number done).1.0 (rw (eqb-true q p f) at h.fails))
      (λ f.
      let above : q ≤ p = ltb-false p q e in
      let other : q ≡ p → ⊥ = eqb-false q p f in
      never_both (lower_stays q (omega arith) (was.passed q h.low (omega arith))) h.fails))

  asked_again : unbacked_of r d after k from to ≡ lowest (unbacked_in (first_page (guest_of r)) d after from to)
  asked_again =
      let h = done_of (Add frame) r d s k p number done in
      let through = (page-given r d s k from to p found).0 in
      let long = (calls_change_one_entry (Add frame) r d s k p number).long in
      answered r d after k from to (same_lengths_verdict r after k s k (long, refl) ∙ h.right)
      (record { good = through.good; order = through.order; inside = through.inside })

  moves_up : After p (unbacked_of r d after k from to)
  unfolding After
  moves_up =
      rw asked_again
      (by_pages (first_page (guest_of r)) d after from to (page-given r d s k from to p found).0.order (After p) (λ _. tt) moved)

pub adding_moves_up : AddingMovesUp
adding_moves_up = moves_up

pub isolation_of_questions : IsolationOfQuestions
isolation_of_questions r d s₁ k₁ s₂ k₂ from to lengths entries =
    same_question r d s₁ k₁ s₂ k₂ lengths from to
    λ good p below.
    let inside = in_extent (guest_of r) p below in
    record {
      lengths = lengths.0;
      segment = λ reached i low high. entries _ i (segment-describes (guest_of r) d s₁ (host_of r p) inside reached good) low high;
      own = λ reached i low high. entries _ i (page-describes (guest_of r) d s₁ (host_of r p) inside reached good) low high;
    }
