-- The tests of Reach and Extent are the terms of document 01.
use Prim.Native.Nat.{ℕ, ◌+◌, ◌-◌, ◌/◌}
use native.Mathlib.Omega.{arith}
use mathlib.Core.Path.{◌≡◌, refl, ap, ◌∙◌}
use mathlib.Core.Bool.{Bool, true, ◌&&◌, ◌||◌}
use mathlib.Core.List.{List}
use mathlib.Core.Logic.{◌⊎◌, inl, inr, ⊎_elim}
use borrow.Author.Tests.{ltb-true, lt-ltb, eqb-true, eq-eqb}
use lib.Dec.{eqb, ltb}
use Rattle.machine.specs.declared.Guest.{Guest}
use Rattle.machine.specs.Sizes.{frame_bytes}
use Rattle.machine.specs.Refusals.{frames_of}
use Rattle.machine.specs.Entry.{entry_good}
use Rattle.machine.specs.Walk.{frame_of}
use Rattle.machine.specs.Frames.{InExtent, segment_place, page_place, page_of, SegmentInReach, PageInReach, Describes, GuestFrame}
use Rattle.desk.specs.Reach.{segment_reached, page_reached, page_valid}
use Rattle.desk.specs.Extent.{first_page, page_count, some_below, guest_frame, entry_in_frame}
use Rattle.desk.specs.Theorems.{TestsAreTheTerms}
use Rattle.desk.proofs.Tables.{both, and_true, segment_in_reach, segment-reached, page_in-reach, page-reached, page_is_valid, page-valid}
use Rattle.desk.proofs.Extents.{or_left, or_right, either, some_below_lem, below_some}

-- some page of the extent passes a test, counted from the extent's start or as a host page
module _ (g : Guest) (test : ℕ → Bool) where
  pub page_of-some : some_below (page_count g) (λ q. test (first_page g + q)) ≡ true → (page : ℕ) × (InExtent g page × (test page ≡ true))
  page_of-some e =
      let (q, found) = some_below_lem (page_count g) (λ q. test (first_page g + q)) e in
      (first_page g + q, (record { low = omega arith; high = omega (arith, found.0) }, found.1))

  pub some_of_page : (page : ℕ) → InExtent g page → test page ≡ true → some_below (page_count g) (λ q. test (first_page g + q)) ≡ true
  some_of_page page inside e =
      let there : first_page g + (page - first_page g) ≡ page = omega arith in
      below_some (page_count g) (λ q. test (first_page g + q)) (page - first_page g) (omega arith) (ap test there ∙ e)

-- an entry that describes the extent, in a guest frame
abbrev pub EntryInFrame : Guest → ℕ → List ℕ → Type 0
EntryInFrame g d s = (at : ℕ) × ((f : ℕ) × (Describes g d s at × (GuestFrame g d s f × (at / frame_bytes ≡ f))))

module _ (g : Guest) (d : ℕ) (s : List ℕ) where
  -- guest frames

  pub guest-frame_of_test : (f : ℕ) → entry_good g ≡ true → guest_frame (first_page g) (page_count g) d s f ≡ true → GuestFrame g d s f
  unfolding guest_frame
  guest-frame_of_test f good e =
      let (present, some) = both (ltb f (frames_of s)) _ e in
      let (page, found) = page_of-some g (λ page. page_valid d s page && eqb (frame_of (page_of d s page)) f) some in
      let (valid, named) = both (page_valid d s page) _ found.1 in
      record {
        good = good;
        page = page;
        inside = found.0;
        valid = page_is_valid d s page valid;
        named = eqb-true _ f named;
        present = ltb-true f _ present;
      }

  pub test_of_guest_frame : (f : ℕ) → GuestFrame g d s f → guest_frame (first_page g) (page_count g) d s f ≡ true
  unfolding guest_frame
  test_of_guest_frame f frame =
      and_true (lt-ltb f (frames_of s) frame.present)
      (some_of_page g (λ page. page_valid d s page && eqb (frame_of (page_of d s page)) f) frame.page frame.inside
      (and_true (page-valid d s frame.page frame.valid) (eq-eqb _ f frame.named)))

  -- an address lies in a guest frame
  abbrev in_guest_frame : ℕ → Bool
  in_guest_frame at = guest_frame (first_page g) (page_count g) d s (at / frame_bytes)

  -- the segment entry of a host page does, or its page entry

  abbrev segment_lies : ℕ → Bool
  segment_lies page = segment_reached d s page && in_guest_frame (segment_place d page)

  abbrev page_lies : ℕ → Bool
  page_lies page = page_reached d s page && in_guest_frame (page_place d s page)

  pub entry-in_frame_of_test : entry_good g ≡ true → entry_in_frame (first_page g) (page_count g) d s ≡ true → EntryInFrame g d s
  unfolding entry_in_frame
  entry-in_frame_of_test good e = let (page, found) = page_of-some g (λ page. segment_lies page || page_lies page) e in by_entry page found.0 found.1
    where
      found_at : (at page : ℕ) → InExtent g page → in_guest_frame at ≡ true
          → ((at ≡ segment_place d page) × SegmentInReach d s page) ⊎ ((at ≡ page_place d s page) × PageInReach d s page)
          → EntryInFrame g d s
      found_at at page inside frame which = (
        at,
        (at / frame_bytes, (record { good = good; page = page; inside = inside; which = which }, (guest-frame_of_test (at / frame_bytes) good frame, refl))),
      )

      by_entry : (page : ℕ) → InExtent g page → (segment_lies page || page_lies page) ≡ true
          → EntryInFrame g d s
      by_entry page inside test =
          either (segment_lies page) test
          (λ h. let (reached, frame) = both (segment_reached d s page) _ h in found_at _ page inside frame (inl (refl, segment_in_reach d s page reached)))
          (λ h. let (reached, frame) = both (page_reached d s page) _ h in found_at _ page inside frame (inr (refl, page_in-reach d s page reached)))

  pub test_of_entry-in_frame : (at f : ℕ) → Describes g d s at → GuestFrame g d s f → at / frame_bytes ≡ f → entry_in_frame (first_page g) (page_count g) d s ≡ true
  unfolding entry_in_frame
  test_of_entry-in_frame at f entry frame e =
      some_of_page g (λ page. segment_lies page || page_lies page) entry.page entry.inside
      (⊎_elim
      (λ segment. or_left _ (and_true (segment-reached d s entry.page segment.1) (lies _ segment.0)))
      (λ own. or_right (segment_lies entry.page) (and_true (page-reached d s entry.page own.1) (lies _ own.0)))
      entry.which)
    where
      lies : (place : ℕ) → at ≡ place → in_guest_frame place ≡ true
      lies place same = rw (← same, e) (test_of_guest_frame f frame)

pub tests_are_the_terms : TestsAreTheTerms
tests_are_the_terms = record {
  segment = λ d s page. (segment_in_reach d s page, segment-reached d s page);
  entry = λ d s page. (page_in-reach d s page, page-reached d s page);
  valid = λ d s page. (page_is_valid d s page, page-valid d s page);
  frame = λ g d s f good. (guest-frame_of_test g d s f good, test_of_guest_frame g d s f);
  in_frame = λ g d s good. (
    entry-in_frame_of_test g d s good,
    λ found. test_of_entry-in_frame g d s found.0 found.1.0 found.1.1.0 found.1.1.1.0 found.1.1.1.1,
  );
}
