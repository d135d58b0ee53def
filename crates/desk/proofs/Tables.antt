-- Laws of the tests of Reach: what they say, and that they go by the entries' bytes alone.
use Prim.Native.Nat.{ℕ, ◌+◌}
use native.Mathlib.Omega.{arith}
use mathlib.Core.Path.{◌≡◌, refl, sym, ap, ◌∙◌}
use mathlib.Core.Bool.{Bool, true, false, not, ◌&&◌}
use mathlib.Core.List.{List}
use borrow.Author.Tests.{leb-true, le-leb}
use lib.ListN.{length}
use Rattle.machine.specs.Words.{word_at}
use Rattle.machine.specs.Frames.{segment_place, segment_of, page_place, page_of, SegmentInReach, PageInReach, ValidPage}
use Rattle.machine.proofs.Laws.{SameBytes, word_of_bytes}
use Rattle.desk.specs.Reach.{segment_reached, page_reached, page_valid}
use Rattle.desk.specs.Extent.{frame_listed}

-- Booleans

pub both : (a b : Bool) → (a && b) ≡ true → (a ≡ true) × (b ≡ true)
both true b e = (refl, e)
both false b e = (e, absurd_of e)
  where
    absurd_of : {A : Type 0} → false ≡ true → A
    absurd_of e = let z : ◌≡◌ {A = ℕ} 0 1 = cc in absurd (omega arith)

pub and_true : {a b : Bool} → a ≡ true → b ≡ true → (a && b) ≡ true
and_true e f = rw (e, f)

pub was_false : (a : Bool) → not a ≡ true → a ≡ false
was_false true e = sym e
was_false false e = refl

pub not_of : {a : Bool} → a ≡ false → not a ≡ true
not_of e = rw e

pub never_both : {A : Type 0} {a : Bool} → a ≡ true → a ≡ false → A
never_both t f = let z : ◌≡◌ {A = ℕ} 0 1 = cc in absurd (omega arith)

-- a test is true or false
pub true_or_false : (P : Type 0) (a : Bool) → (a ≡ true → P) → (a ≡ false → P) → P
true_or_false P true t f = t refl
true_or_false P false t f = f refl

-- tests that imply each other are one
pub same_bool : (a b : Bool) → (a ≡ true → b ≡ true) → (b ≡ true → a ≡ true) → a ≡ b
same_bool true b t f = sym (t refl)
same_bool false true t f = f refl
same_bool false false t f = refl

module _ (d : ℕ) (s : List ℕ) (page : ℕ) where
  pub segment_in_reach : segment_reached d s page ≡ true → SegmentInReach d s page
  unfolding segment_reached
  segment_in_reach e =
      let (near, fits) = both _ _ e in
      record { in_table = was_false _ near; in_storage = leb-true _ _ fits }

  pub segment-reached : SegmentInReach d s page → segment_reached d s page ≡ true
  unfolding segment_reached
  segment-reached h = and_true (not_of h.in_table) (le-leb _ _ h.in_storage)

  pub page_in-reach : page_reached d s page ≡ true → PageInReach d s page
  unfolding page_reached
  page_in-reach e =
      let (segment, a) = both _ _ e in
      let (valid, b) = both _ _ a in
      let (formed, c) = both _ _ b in
      let (near, fits) = both _ _ c in
      record {
        segment = segment_in_reach segment;
        valid = was_false _ valid;
        formed = was_false _ formed;
        in_table = was_false _ near;
        in_storage = leb-true _ _ fits;
      }

  pub page-reached : PageInReach d s page → page_reached d s page ≡ true
  unfolding page_reached
  page-reached h =
      and_true (segment-reached h.segment)
      (and_true (not_of h.valid) (and_true (not_of h.formed) (and_true (not_of h.in_table) (le-leb _ _ h.in_storage))))

  pub page_is_valid : page_valid d s page ≡ true → ValidPage d s page
  unfolding page_valid
  page_is_valid e =
      let (reach, a) = both _ _ e in
      let (valid, formed) = both _ _ a in
      record { reach = page_in-reach reach; valid = was_false _ valid; formed = was_false _ formed }

  pub page-valid : ValidPage d s page → page_valid d s page ≡ true
  unfolding page_valid
  page-valid h = and_true (page-reached h.reach) (and_true (not_of h.valid) (not_of h.formed))

  -- a valid page's entry is in reach, as is its segment entry
  pub reached_of_valid : page_valid d s page ≡ true → page_reached d s page ≡ true
  unfolding page_valid
  reached_of_valid e = (both _ _ e).0

  pub segment_of-reached : page_reached d s page ≡ true → segment_reached d s page ≡ true
  unfolding page_reached
  segment_of-reached e = (both _ _ e).0

-- two storages of one length have the same entries of a host page, as far as they are in reach
pub record SameEntriesOf (d : ℕ) (s t : List ℕ) (page : ℕ) : Type 0 where
  pub lengths : length s ≡ length t
  pub segment : segment_reached d s page ≡ true → SameBytes s t (segment_place d page) (segment_place d page + 4)
  pub own : page_reached d s page ≡ true → SameBytes s t (page_place d s page) (page_place d s page + 4)

-- they say the same of the page
pub record SameTables (d : ℕ) (s t : List ℕ) (page : ℕ) : Type 0 where
  pub segment : segment_reached d s page ≡ segment_reached d t page
  pub reach : page_reached d s page ≡ page_reached d t page
  pub place : page_reached d s page ≡ true → page_place d s page ≡ page_place d t page
  pub entry : page_reached d s page ≡ true → page_of d s page ≡ page_of d t page
  pub valid : page_valid d s page ≡ page_valid d t page
  pub shown : frame_listed d s page ≡ frame_listed d t page

module _ (d : ℕ) (s t : List ℕ) (page : ℕ) (same : SameEntriesOf d s t page) where
  same_segment-reach : segment_reached d s page ≡ segment_reached d t page
  unfolding segment_reached
  same_segment-reach = rw same.lengths

  same_segment : segment_reached d s page ≡ true → segment_of d s page ≡ segment_of d t page
  same_segment e = word_of_bytes s t (segment_place d page) (same.segment e)

  same_reach : page_reached d s page ≡ page_reached d t page
  unfolding page_reached
  same_reach = by_segment (segment_reached d s page) refl
    where
      by_segment : (b : Bool) → segment_reached d s page ≡ b → page_reached d s page ≡ page_reached d t page
      by_segment true e = rw (← same_segment-reach, e, same_segment e, same.lengths)
      by_segment false e = rw (← same_segment-reach, e)

  same_place : page_reached d s page ≡ true → page_place d s page ≡ page_place d t page
  same_place e = rw (same_segment (segment_of-reached d s page e))

  same_page-entry : page_reached d s page ≡ true → page_of d s page ≡ page_of d t page
  same_page-entry e = word_of_bytes s t (page_place d s page) (same.own e) ∙ ap (word_at t) (same_place e)

  same_valid : page_valid d s page ≡ page_valid d t page
  unfolding page_valid
  same_valid = by_reach (page_reached d s page) refl
    where
      by_reach : (b : Bool) → page_reached d s page ≡ b → page_valid d s page ≡ page_valid d t page
      by_reach true e = rw (← same_reach, e, same_page-entry e)
      by_reach false e = rw (← same_reach, e)

  same_shown : frame_listed d s page ≡ frame_listed d t page
  unfolding frame_listed
  same_shown = by_valid (page_valid d s page) refl
    where
      by_valid : (b : Bool) → page_valid d s page ≡ b → frame_listed d s page ≡ frame_listed d t page
      by_valid true e = rw (← same_valid, e, same_page-entry (reached_of_valid d s page e))
      by_valid false e = rw (← same_valid, e)

  pub same_tables : SameTables d s t page
  same_tables = record {
    segment = same_segment-reach;
    reach = same_reach;
    place = same_place;
    entry = same_page-entry;
    valid = same_valid;
    shown = same_shown;
  }
