-- Laws of Tabling: what a segment entry says of every page of its segment.
use Prim.Native.Nat.{ℕ, ◌+◌, ◌*◌, ◌/◌, ◌%◌, ◌≤◌, ◌<◌, ◌-◌, min}
use native.Mathlib.Omega.{arith}
use mathlib.Core.Path.{◌≡◌, refl, sym, ap, ◌∙◌}
use mathlib.Core.Bool.{true, false, not, ◌&&◌}
use mathlib.Core.List.{List}
use mathlib.Core.Logic.{◌⊎◌, inl, inr}
use borrow.Author.Tests.{ltb-true, ltb-false, leb-true, lt-ltb, le-ltb, le-leb, lt-leb}
use lib.Dec.{leb, ltb}
use Rattle.std.proofs.lemmas.Bool.{and_right}
use Rattle.std.proofs.lemmas.Bool.Decides.{nat_tests}
use lib.ListN.{length}
use Rattle.std.specs.Bool.{then_some}
use Rattle.machine.specs.Words.{word_at}
use Rattle.machine.specs.Sizes.{page_bytes, segment_pages}
use Rattle.machine.specs.Walk.{segment_index, page_index, segment_entry_at, past_segment_table, segment_invalid, segment_malformed, past_page_table}
use Rattle.machine.specs.Frames.{segment_of, page_place}
use Rattle.desk.specs.Reach.{segment_reached, page_reached}
use Rattle.desk.proofs.Tables.{both, and_true, same_bool, true_or_false}
use Rattle.tables.specs.Tabling.{SegmentThere, SegmentMissed, SegmentAt, TableAt, PageAt}

-- the indexes of a host page

pub index_of_page : (page : ℕ) → segment_index (page * page_bytes) ≡ page / segment_pages
index_of_page page = omega arith

pub place_of_page : (page : ℕ) → page_index (page * page_bytes) ≡ page % segment_pages
place_of_page page = omega arith

-- the limit of a table, by its tests
pub limit_is : (i limit count base long : ℕ) → (i < limit → (i < count) × (base + i * 4 + 4 ≤ long)) → (i < count → base + i * 4 + 4 ≤ long → i < limit)
    → ltb i limit ≡ (ltb i count && leb (base + i * 4 + 4) long)
limit_is i limit count base long out into =
    same_bool _ _
    (λ e. let h = out (ltb-true _ _ e) in and_true (lt-ltb _ _ h.0) (le-leb _ _ h.1))
    (λ e. let h = both _ _ e in lt-ltb _ _ (into (ltb-true _ _ h.0) (leb-true _ _ h.1)))

module _ (d : ℕ) (s : List ℕ) where
  -- the segment entry of an index, by its tests
  pub segment_there : (index : ℕ)
      → SegmentAt d s index (then_some (not (past_segment_table d index) && leb (segment_entry_at d index + 4) (length s)) (segment_entry_at d index))
  unfolding segment_reached
  segment_there index =
      true_or_false _ (not (past_segment_table d index) && leb (segment_entry_at d index + 4) (length s))
      (λ e. rw e (record {
        reached = λ page own. rw (index_of_page page, own) e;
        place = λ page own. rw (index_of_page page, own);
        fits = leb-true _ _ (both (not (past_segment_table d index)) _ e).1;
      }))
      (λ e. rw e (record { missed = λ page own. rw (index_of_page page, own) e }))

-- the pages from one up to another of one segment, by its entry
module _ (d : ℕ) (s : List ℕ) (from to at : ℕ) (there : SegmentThere d s (from / segment_pages) at) (some : from < to)
    (one : to ≤ from / segment_pages * segment_pages + segment_pages) (word base : ℕ) (word-is : word ≡ word_at s at)
    (base-is : base ≡ word / 64 % 33554432 * 64) where
  own : (k : ℕ) → from + k < to → (from + k) / segment_pages ≡ from / segment_pages
  own k h = omega arith

  index : (k : ℕ) → from + k < to → (from + k) % segment_pages ≡ from % segment_pages + k
  index k h = omega arith

  segment_is : (k : ℕ) → from + k < to → segment_of d s (from + k) ≡ word
  segment_is k h = ap (word_at s) (there.place (from + k) (own k h)) ∙ sym word-is

  place_by_word : (k : ℕ) → from + k < to → page_place d s (from + k) ≡ base + (from % segment_pages + k) * 4
  place_by_word k h = rw (segment_is k h, place_of_page (from + k), index k h, base-is)

  reached_by_word : (k : ℕ) → from + k < to → page_reached d s (from + k)
      ≡ (not (segment_invalid word)
      && (not (segment_malformed word)
      && (not (past_page_table word (from % segment_pages + k)) && leb (base + (from % segment_pages + k) * 4 + 4) (length s))))
  unfolding page_reached
  reached_by_word k h = rw (there.reached (from + k) (own k h), segment_is k h, place_of_page (from + k), index k h, base-is)

  -- no page entry is in reach by a segment entry that is invalid or malformed, or that names a table past the storage
  no_page : (segment_invalid word ≡ true) ⊎ ((segment_malformed word ≡ true) ⊎ (length s < base)) → (k : ℕ) → from + k < to → page_reached d s (from + k) ≡ false
  no_page (inl e) k h = rw (reached_by_word k h, e)
  no_page (inr (inl e)) k h = rw (reached_by_word k h, e) (and_right (not (segment_invalid word)) false refl)
  no_page (inr (inr past)) k h =
      rw (reached_by_word k h, lt-leb (base + (from % segment_pages + k) * 4 + 4) (length s) (omega arith)) (grind (arith, nat_tests))

  pub no_table : (segment_invalid word ≡ true) ⊎ ((segment_malformed word ≡ true) ⊎ (length s < base)) → TableAt d s from to 0 0
  no_table why = record {
    count = 0;
    whole = refl;
    few = omega arith;
    fits = omega arith;
    reach = λ k h. no_page why k h ∙ sym (le-ltb k 0 (omega arith));
    place = λ k h. absurd (omega arith);
  }

  -- by the others as many are as the table's length says, as far as they lie in the storage
  pub table-named : segment_invalid word ≡ false → segment_malformed word ≡ false → base ≤ length s → (limit first end : ℕ)
      → limit ≡ min ((word % 16 + 1) * 16) ((length s - base) / 4) → first ≡ min (from % segment_pages) limit
      → end ≡ min (from % segment_pages + (to - from)) limit → TableAt d s from to (base + first * 4) (base + end * 4)
  table-named valid formed near limit first end limit-is first-is end-is = record {
    count = end - first;
    whole = omega arith;
    few = omega arith;
    fits = omega arith;
    reach = λ k h. rw (reached_by_word k h, valid, formed) (grind (arith, nat_tests));
    place = λ k h. place_by_word k (omega arith) ∙ omega arith;
  }

-- the table of a whole segment says of every page of it whether its entry is in reach, and where it stands
pub of_segment : (d : ℕ) (s : List ℕ) (index start end : ℕ) (t : TableAt d s (index * segment_pages) (index * segment_pages + segment_pages) start end)
    → (page : ℕ) → page / segment_pages ≡ index
    → (page_reached d s page ≡ ltb (page % segment_pages) t.count)
    × (page % segment_pages < t.count → page_place d s page ≡ start + page % segment_pages * 4)
of_segment d s index start end t page own =
    let is : index * segment_pages + page % segment_pages ≡ page = omega arith in
    (rw is at (t.reach (page % segment_pages) (omega arith)), λ low. rw is at (t.place (page % segment_pages) low))

-- no page entry of a segment is in reach whose own entry is not
pub none_of_missed : (d : ℕ) (s : List ℕ) (index : ℕ) → SegmentMissed d s index → (page : ℕ) → page / segment_pages ≡ index → page_reached d s page ≡ false
unfolding page_reached
none_of_missed d s index missed page own = rw (missed.missed page own)

-- the entry of one page, in reach or not
pub page_at : (d : ℕ) (s : List ℕ) (page start end : ℕ) → TableAt d s page (page + 1) start end → PageAt d s page (then_some (ltb start end) start)
page_at d s page start end t =
    let own : page + 0 ≡ page = omega arith in
    let reach : page_reached d s page ≡ ltb 0 t.count = rw own at (t.reach 0 (omega arith)) in
    true_or_false _ (ltb start end)
    (λ e.
    let some : 0 < t.count = omega (arith, ltb-true start end e, t.whole) in
    rw e (record {
      reached = reach ∙ lt-ltb 0 t.count some;
      place = rw own at (t.place 0 some) ∙ omega arith;
      fits = omega (arith, t.whole, t.fits);
    }))
    (λ e. rw e (reach ∙ le-ltb 0 t.count (omega (arith, ltb-false start end e, t.whole))))
