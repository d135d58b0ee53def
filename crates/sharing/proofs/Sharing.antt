-- Laws of Sharing: an entry's place among those of the pages of one segment.
use Prim.Native.Nat.{ℕ, ◌+◌, ◌-◌, ◌*◌, ◌/◌, ◌%◌, ◌≤◌, ◌<◌}
use native.Mathlib.Omega.{arith}
use mathlib.Core.Path.{◌≡◌, refl, sym, ap, ◌∙◌}
use mathlib.Core.Bool.{Bool, true, not, ◌&&◌, ◌||◌}
use mathlib.Core.List.{List}
use mathlib.Core.Logic.{inl, inr, ⊎_elim}
use borrow.Author.Tests.{ltb-true, leb-true, lt-ltb, le-leb, eqb-true, eqb-false, eq-eqb, ne_eqb}
use lib.Dec.{eqb, leb, ltb}
use Rattle.std.specs.Ordering.{nat_cmp, is_le, is_lt}
use Rattle.std.proofs.lemmas.Bool.{or_cases, or_parts}
use Rattle.std.proofs.lemmas.Bool.Decides.{nat_tests}
use Rattle.machine.specs.Sizes.{segment_pages}
use Rattle.machine.specs.Walk.{page_entry_at}
use Rattle.machine.specs.Frames.{segment_of, page_place}
use Rattle.desk.specs.Reach.{page_reached}
use Rattle.desk.proofs.Tables.{both, and_true, was_false, not_of, never_both, segment_of-reached}
use Rattle.tables.specs.Tabling.{SegmentThere, SegmentMissed, TableAt}
use Rattle.tables.proofs.Tabling.{index_of_page, place_of_page}
use Rattle.survey.specs.Marking.{SomePage, Tells}
use Rattle.sharing.specs.Sharing.{SharedBy}

-- the pages of a segment have each their own place
one_place : (d : ℕ) (s : List ℕ) (p q : ℕ) → p / segment_pages ≡ q / segment_pages → page_place d s p ≡ page_place d s q → p ≡ q
one_place d s p q same places =
    let segments : segment_of d s p ≡ segment_of d s q = rw (index_of_page p, index_of_page q, same) refl in
    let e : page_entry_at (segment_of d s q) (p % segment_pages) ≡ page_entry_at (segment_of d s q) (q % segment_pages) =
    rw (segments, place_of_page p, place_of_page q) at places in
    omega arith

-- an entry's place among those of the pages of a span
module _ (d : ℕ) (s : List ℕ) (from to own place : ℕ) (some : from < to) (one : to ≤ from / segment_pages * segment_pages + segment_pages) where
  in_segment : {x : ℕ} (h : SomePage (SharedBy d s own) from to x) → h.page / segment_pages ≡ from / segment_pages
  in_segment h = omega (arith, h.low, h.high)

  pub none_shared : SegmentMissed d s (from / segment_pages) → SomePage (SharedBy d s own) from to place → ⊥
  none_shared segment h =
      let missed = segment.missed h.page (in_segment h) in
      ⊎_elim (λ w. never_both (segment_of-reached d s h.page w.1.0) missed) (λ w. never_both w.0 missed) h.is

  module _ (at : ℕ) (segment : SegmentThere d s (from / segment_pages) at) where
    pub shared_as_segment : at ≡ place → SomePage (SharedBy d s own) from to place
    shared_as_segment e = record { page = from; low = omega arith; high = some; is = inr (segment.reached from refl, segment.place from refl ∙ e) }

    -- where it is not the segment entry, it is a page's
    shared_by_page : (at ≡ place → ⊥) → (h : SomePage (SharedBy d s own) from to place)
        → (h.page ≡ own → ⊥) × ((page_reached d s h.page ≡ true) × (page_place d s h.page ≡ place))
    shared_by_page other h = ⊎_elim (λ w. w) (λ w. absurd (other (sym (segment.place h.page (in_segment h)) ∙ w.1))) h.is

    -- within its own segment an entry is no other page's
    pub alone_in_segment : own / segment_pages ≡ from / segment_pages → page_place d s own ≡ place → (at ≡ place → ⊥)
        → SomePage (SharedBy d s own) from to place → ⊥
    alone_in_segment same is other h =
        let w = shared_by_page other h in w.0 (one_place d s h.page own (in_segment h ∙ sym same) (w.1.1 ∙ sym is))

    module _ (start end : ℕ) (table : TableAt d s from to start end) where
      pub shared_by_table : (own / segment_pages ≡ from / segment_pages → ⊥) → start ≤ place → place < end → (place - start) % 4 ≡ 0
          → SomePage (SharedBy d s own) from to place
      shared_by_table elsewhere low high whole =
          let k = (place - start) / 4 in
          let there : start + k * 4 ≡ place = omega arith in
          let inside : k < table.count = omega (arith, table.whole) in
          let there-own : (from + k) / segment_pages ≡ from / segment_pages = omega (arith, table.few) in
          record {
            page = from + k;
            low = omega arith;
            high = omega (arith, table.few);
            is = inl (
              λ e. elsewhere (ap (λ x. x / segment_pages) (sym e) ∙ there-own),
              (table.reach k (omega (arith, table.few)) ∙ lt-ltb k table.count inside, table.place k inside ∙ there),
            );
          }

      pub table_tells : (at ≡ place → ⊥) → SomePage (SharedBy d s own) from to place → (start ≤ place) × ((place < end) × ((place - start) % 4 ≡ 0))
      table_tells other h =
          let w = shared_by_page other h in
          let k = h.page - from in
          let page : from + k ≡ h.page = omega (arith, h.low) in
          let own-span : from + k < to = omega (arith, page, h.high) in
          let inside : k < table.count = ltb-true k table.count (sym (table.reach k own-span) ∙ rw page w.1.0) in
          let there : place ≡ start + k * 4 = sym w.1.1 ∙ rw page at (table.place k inside) in
          (omega arith, (omega (arith, table.whole), omega arith))

      -- so these tests tell
      pub tells_by_tests : page_place d s own ≡ place → Tells (SomePage (SharedBy d s own) from to place)
          (eqb at place || ((not (eqb (own / segment_pages) (from / segment_pages)) && (leb start place && ltb place end)) && eqb ((place - start) % 4) 0))
      tells_by_tests is = record {
        so = λ e. ⊎_elim (λ same. shared_as_segment (eqb-true at place same))
            (λ h.
            let (there, whole) = both (not (eqb (own / segment_pages) (from / segment_pages)) && (leb start place && ltb place end)) _ h in
            let (other, within) = both (not (eqb (own / segment_pages) (from / segment_pages))) _ there in
            let (low, high) = both (leb start place) _ within in
            shared_by_table (eqb-false _ _ (was_false _ other)) (leb-true start place low) (ltb-true place end high) (eqb-true _ 0 whole))
            (or_cases (eqb at place) _ e);
        never = λ e h.
            let (no_segment, no_page) = or_parts (eqb at place) _ e in
            let other = eqb-false at place no_segment in
            let (low, (high, whole)) = table_tells other h in
            let elsewhere = ne_eqb (own / segment_pages) (from / segment_pages) (λ same. alone_in_segment same is other h) in
            never_both (and_true (and_true (not_of elsewhere) (and_true (le-leb start place low) (lt-ltb place end high))) (eq-eqb _ 0 whole)) no_page;
      }

-- whether a place is in a range, as a range says it; asked only of another segment than one's own
module _ (own index start end place : ℕ) (value : Bool) where
  pub in_another : (own ≡ index → ⊥) → value ≡ (is_le (nat_cmp start place) && is_lt (nat_cmp place end))
      → value ≡ (not (eqb own index) && (leb start place && ltb place end))
  in_another other asked = let e = ne_eqb own index other in rw (asked, e) (grind (arith, nat_tests))

  pub in_own : own ≡ index → value ≡ not (eqb own index) → value ≡ (not (eqb own index) && (leb start place && ltb place end))
  in_own same asked = let e = eq-eqb own index same in rw (asked, e)
