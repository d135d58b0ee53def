-- A listing that is done shows the extent's pages; every other answer leaves the workspace.
use Rattle.std.specs.Prelude.{Err, Ok}
use Prim.Native.Nat.{ℕ, zero, suc, ◌≤◌, ◌<◌}
use native.Mathlib.Omega.{arith}
use mathlib.Core.Path.{◌≡◌, refl, ◌∙◌}
use mathlib.Core.List.{List}
use borrow.Author.Tests.{ltb-false, eqb-true, eqb-false}
use lib.Dec.{eqb, ltb}
use lib.ListN.{length, get_or, length-set}
use lib.Seq.{get_or-set_same, get_or-set_other}
use Rattle.machine.specs.declared.Refusal.{Refusal}
use Rattle.machine.specs.declared.Refusal.TheVariants.{ShortWorkspace}
use Rattle.machine.specs.Record.{guest_of}
use Rattle.machine.specs.Entry.{entry_good}
use Rattle.machine.proofs.Tests.{by_either_test}
use Rattle.desk.specs.declared.Listed.{Listed}
use Rattle.desk.specs.declared.Listed.TheVariants as listed
use Rattle.desk.specs.Extent.{first_page, page_count, words_below, frame_listed, valid_pages, listing}
use Rattle.desk.specs.Desk.{Listing, desk_verdict, list_for, list_as, list_of}
use Rattle.desk.specs.Theorems.{ShowsThePages, ListingsShowThePages}
use Rattle.desk.proofs.Tables.{true_or_false}
use Rattle.machine.specs.Refusals.{Answer, Verdict}

-- words by their places in place of the first `n`

length_words : (n : ℕ) (word : ℕ → ℕ) (ws : List ℕ) → length (words_below n word ws) ≡ length ws
unfolding words_below
length_words zero word ws = refl
length_words (suc n) word ws = length-set (words_below n word ws) n (word n) ∙ length_words n word ws

word_below : (n : ℕ) (word : ℕ → ℕ) (ws : List ℕ) (k : ℕ) → n ≤ length ws → k < n → get_or (words_below n word ws) k 0 ≡ word k
unfolding words_below
word_below zero word ws k long h = absurd (omega arith)
word_below (suc n) word ws k long h =
    true_or_false _ (eqb k n)
    (λ e. rw (eqb-true k n e) (get_or-set_same (words_below n word ws) n (word n) 0 (omega (arith, length_words n word ws))))
    (λ e.
    let other : k ≡ n → ⊥ = eqb-false k n e in
    get_or-set_other (words_below n word ws) n k (word n) 0 other ∙ word_below n word ws k (omega arith) (omega arith))

word_past : (n : ℕ) (word : ℕ → ℕ) (ws : List ℕ) (k : ℕ) → n ≤ k → get_or (words_below n word ws) k 0 ≡ get_or ws k 0
unfolding words_below
word_past zero word ws k h = refl
word_past (suc n) word ws k h = get_or-set_other (words_below n word ws) n k (word n) 0 (omega arith) ∙ word_past n word ws k (omega arith)

module _ (r : List ℕ) (d : ℕ) (s k ws : List ℕ) where
  -- what holds where the workspace is left, and where the pages are shown, holds of the listing
  by_listing : (P : Listing → Type 0)
      → ((answer : Answer Listed) → ((valid : ℕ) → answer ≡ Ok (listed.Pages valid) → ⊥) → P (record { answer = answer; words = ws }))
      → (page_count (guest_of r) ≤ length ws → P (record {
        answer = Ok (listed.Pages (valid_pages (first_page (guest_of r)) (page_count (guest_of r)) d s));
        words = listing (first_page (guest_of r)) (page_count (guest_of r)) d s ws;
      }))
      → P (list_of r d s k ws)
  unfolding list_of list_as list_for
  by_listing P left done = by_verdict (desk_verdict r s k)
    where
      refused : (why : Refusal) (valid : ℕ) → ◌≡◌ {A = Answer Listed} (Err why) (Ok (listed.Pages valid)) → ⊥
      refused why valid e = let z : ◌≡◌ {A = ℕ} 0 1 = cc in omega arith

      validity : (valid : ℕ) → ◌≡◌ {A = Answer Listed} (Ok listed.Validity) (Ok (listed.Pages valid)) → ⊥
      validity valid e = let z : ◌≡◌ {A = ℕ} 0 1 = cc in omega arith

      by_verdict : (v : Verdict) → P (list_as r d s ws v)
      by_verdict (Err refusal) = left (Err refusal) (refused refusal)
      by_verdict (Ok _) =
          by_either_test P (entry_good (guest_of r))
          (λ _. by_either_test P (ltb (length ws) (page_count (guest_of r))) (λ _. left (Err ShortWorkspace) (refused ShortWorkspace)) (λ enough. done (ltb-false _ _ enough)))
          (λ _. left (Ok listed.Validity) validity)

  -- all that is known of a listing with this number and these words
  abbrev Shown : ℕ → List ℕ → Type 0
  Shown valid words =
      (page_count (guest_of r) ≤ length ws)
      × ((valid ≡ valid_pages (first_page (guest_of r)) (page_count (guest_of r)) d s)
      × (words ≡ listing (first_page (guest_of r)) (page_count (guest_of r)) d s ws))

  shows : (valid : ℕ) → (list_of r d s k ws).answer ≡ Ok (listed.Pages valid) → Shown valid (list_of r d s k ws).words
  shows valid =
      by_listing (λ x. x.answer ≡ Ok (listed.Pages valid) → Shown valid x.words) (λ _ other e. absurd (other valid e))
      (λ enough e. (enough, (cc, refl)))

  shows_the_pages : (valid : ℕ) → (list_of r d s k ws).answer ≡ Ok (listed.Pages valid) → ShowsThePages r d s k ws valid
  unfolding listing frame_listed
  shows_the_pages valid e =
      let (enough, (number, words)) = shows valid e in
      record {
        enough = enough;
        number = number;
        long = rw words (length_words (page_count (guest_of r)) _ ws);
        shown = λ p below v. rw words (word_below (page_count (guest_of r)) _ ws p enough below ∙ rw v);
        not_shown = λ p below v. rw words (word_below (page_count (guest_of r)) _ ws p enough below ∙ rw v);
        rest = λ i past. rw words (word_past (page_count (guest_of r)) _ ws i past);
      }

pub listings_show_the_pages : ListingsShowThePages
listings_show_the_pages = record {
  done = shows_the_pages;
  refused = λ r d s k ws. by_listing r d s k ws (λ x. ((valid : ℕ) → x.answer ≡ Ok (listed.Pages valid) → ⊥) → x.words ≡ ws) (λ _ _ _. refl) (λ _ other. absurd (other _ refl));
}
