-- Laws of Extent: tests over the numbers below a bound, and that what is said of an extent goes by what the tables say of its pages.
use Prim.Native.Nat.{ℕ, zero, suc, ◌+◌, ◌/◌, ◌<◌}
use native.Mathlib.Omega.{arith}
use mathlib.Core.Path.{◌≡◌, refl, sym, ap, ◌∙◌}
use mathlib.Core.Bool.{Bool, true, false, not, ◌&&◌, ◌||◌}
use mathlib.Core.List.{List}
use borrow.Author.Tests.{eqb-true, eqb-false}
use lib.Dec.{eqb, ltb}
use lib.ListN.{length}
use Rattle.machine.specs.Sizes.{frame_bytes}
use Rattle.machine.specs.Refusals.{frames_of}
use Rattle.machine.specs.Walk.{frame_of}
use Rattle.machine.specs.Frames.{segment_place, page_place}
use Rattle.desk.specs.Reach.{page_reached}
use Rattle.desk.specs.Extent.{some_below, count_below, words_below, valid_pages, listing, guest_frame, entry_in_frame, serves_second_page, serves_as_segment}
use Rattle.desk.proofs.Tables.{never_both, true_or_false, SameTables, reached_of_valid}

-- a test that is true, on either side
pub or_left : {a : Bool} (b : Bool) → a ≡ true → (a || b) ≡ true
or_left b e = rw e

pub or_right : (a : Bool) {b : Bool} → b ≡ true → (a || b) ≡ true
or_right true e = refl
or_right false e = e

pub either : {P : Type 0} (a : Bool) {b : Bool} → (a || b) ≡ true → (a ≡ true → P) → (b ≡ true → P) → P
either true e f g = f refl
either false e f g = g e

-- what is found below a bound, and what is not

pub some_below_lem : (n : ℕ) (test : ℕ → Bool) → some_below n test ≡ true → (k : ℕ) × ((k < n) × (test k ≡ true))
unfolding some_below
some_below_lem zero test e = never_both e refl
some_below_lem (suc n) test e =
    either (some_below n test) e
    (λ f. let (k, found) = some_below_lem n test f in (k, (omega (arith, found.0), found.1)))
    (λ f. (n, (omega arith, f)))

pub below_some : (n : ℕ) (test : ℕ → Bool) (k : ℕ) → k < n → test k ≡ true → some_below n test ≡ true
unfolding some_below
below_some zero test k h e = absurd (omega arith)
below_some (suc n) test k h e =
    true_or_false _ (eqb k n)
    (λ f. or_right (some_below n test) (ap test (sym (eqb-true k n f)) ∙ e))
    (λ f. let other : k ≡ n → ⊥ = eqb-false k n f in or_left (test n) (below_some n test k (omega arith) e))

pub none_below : (n : ℕ) (test : ℕ → Bool) (k : ℕ) → some_below n test ≡ false → k < n → test k ≡ false
none_below n test k e h = by_test (test k) refl
  where
    by_test : (b : Bool) → test k ≡ b → b ≡ false
    by_test true f = never_both (below_some n test k h f) e
    by_test false f = refl

-- the same below the bound

pub same_some : (n : ℕ) (t u : ℕ → Bool) → ((k : ℕ) → k < n → t k ≡ u k) → some_below n t ≡ some_below n u
unfolding some_below
same_some zero t u same = refl
same_some (suc n) t u same = rw (same_some n t u (λ k h. same k (omega arith)), same n (omega arith))

pub same_count : (n : ℕ) (t u : ℕ → Bool) → ((k : ℕ) → k < n → t k ≡ u k) → count_below n t ≡ count_below n u
unfolding count_below
same_count zero t u same = refl
same_count (suc n) t u same = rw (same_count n t u (λ k h. same k (omega arith)), same n (omega arith))

pub same_words : (n : ℕ) (f g : ℕ → ℕ) (ws : List ℕ) → ((k : ℕ) → k < n → f k ≡ g k) → words_below n f ws ≡ words_below n g ws
unfolding words_below
same_words zero f g ws same = refl
same_words (suc n) f g ws same = rw (same_words n f g ws (λ k h. same k (omega arith)), same n (omega arith))

-- two tests joined by a test that holds
pub same_and : (a a' : Bool) {b b' : Bool} → a ≡ a' → (a ≡ true → b ≡ b') → (a && b) ≡ (a' && b')
same_and true a' e f = rw (← e, f refl)
same_and false a' e f = rw (← e)

-- storages of one length whose tables say the same of every page of the extent
module _ (first pages d : ℕ) (s t : List ℕ) (lengths : length s ≡ length t) (same : (p : ℕ) → p < pages → SameTables d s t (first + p)) where
  pub same_valid_pages : valid_pages first pages d s ≡ valid_pages first pages d t
  unfolding valid_pages
  same_valid_pages = same_count pages _ _ λ p h. (same p h).valid

  pub same_listing : (ws : List ℕ) → listing first pages d s ws ≡ listing first pages d t ws
  unfolding listing
  same_listing ws = same_words pages _ _ ws λ p h. (same p h).shown

  pub same_guest_frame : (f : ℕ) → guest_frame first pages d s f ≡ guest_frame first pages d t f
  unfolding guest_frame
  same_guest_frame f =
      rw (← lengths)
      (ap (λ x. ltb f (frames_of s) && x)
      (same_some pages _ _ λ p h.
      same_and _ _ (same p h).valid λ v. ap (λ e. eqb (frame_of e) f) ((same p h).entry (reached_of_valid d s (first + p) v))))

  pub same_entry-in_frame : entry_in_frame first pages d s ≡ entry_in_frame first pages d t
  unfolding entry_in_frame
  same_entry-in_frame = same_some pages _ _ λ p h.
      λ i. same_and _ _ (same p h).segment (λ _. same_guest_frame (segment_place d (first + p) / frame_bytes)) i
      || same_and _ _ (same p h).reach (λ r. same_guest_frame (page_place d s (first + p) / frame_bytes) ∙ ap (λ a. guest_frame first pages d t (a / frame_bytes)) ((same p h).place r)) i

  -- of a page whose entry is in reach
  pub same_second_page : (p : ℕ) → p < pages → page_reached d s (first + p) ≡ true → serves_second_page first pages d s p ≡ serves_second_page first pages d t p
  unfolding serves_second_page
  same_second_page p h reached = same_some pages _ _ λ q below.
      ap (λ x. not (eqb q p) && x)
      (same_and _ _ (same q below).reach λ r. rw ((same q below).place r, (same p h).place reached))

  pub same_as_segment : (p : ℕ) → p < pages → page_reached d s (first + p) ≡ true → serves_as_segment first pages d s p ≡ serves_as_segment first pages d t p
  unfolding serves_as_segment
  same_as_segment p h reached = same_some pages _ _ λ q below. same_and _ _ (same q below).segment λ r. rw ((same p h).place reached)
