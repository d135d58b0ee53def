-- How a walk ends: every walk ends as its way says, and what the walk read on each way.
-- Assumes nothing.
use Rattle.std.specs.Prelude.{Err, Ok}
use Prim.Native.Nat.{ℕ, ◌*◌, ◌/◌}
use native.Mathlib.Omega.{arith}
use mathlib.Core.Path.{◌≡◌, refl}
use mathlib.Core.Bool.{Bool, true, false, cond}
use Rattle.machine.specs.declared.Failure.{Failure}
use Rattle.machine.specs.Sizes.{page_bytes}
use Rattle.machine.specs.Walk.{segment_index, page_index, segment_entry_at, past_segment_table, segment_invalid, segment_malformed, page_entry_at, past_page_table, page_invalid, page_malformed, walk, walk_segment, walk_page, TableEntry, Walk, at_frame}
use Rattle.machine.specs.Sought.{Way, way_of_page, way_of_segment, way, found_by}
use Rattle.machine.specs.WhichTable.{SegmentWord, PageSought, Went, past_segments, lacks_segment, bad_segment, past_pages, lacks_page, bad_page, good_page}
use Rattle.machine.proofs.Tests.{on_either_arm, by_either_test}

module _ (read : ℕ → TableEntry) (fail : ℕ → Failure) where
  found_of_test : (b : Bool) (u v : Way) → found_by fail (cond b u v) ≡ cond b (found_by fail u) (found_by fail v)
  found_of_test true u v = refl
  found_of_test false u v = refl

  found-page : (at : ℕ) (x : TableEntry) → found_by fail (way_of_page at x) ≡ walk_page fail x
  unfolding way_of_page walk_page found_by
  found-page at (Err f) = refl
  found-page at (Ok e) = simp found_of_test

  found-segment : (at index : ℕ) (x : TableEntry) → found_by fail (way_of_segment read at index x) ≡ walk_segment read fail index x
  unfolding way_of_segment walk_segment found_by
  found-segment at index (Err f) = refl
  found-segment at index (Ok e) = simp (found_of_test, found-page)

  pub walk_by_way : (d a : ℕ) → walk read fail d a ≡ found_by fail (way read d a)
  unfolding way walk found_by
  walk_by_way d a = simp (found_of_test, found-segment)

-- the way is that of the page's first byte
pub way_by_page : (read : ℕ → TableEntry) (d a : ℕ) → way read d a ≡ way read d (a / page_bytes * page_bytes)
unfolding way
way_by_page read d a =
    let e : segment_index a ≡ segment_index (a / page_bytes * page_bytes) = omega arith in
    let f : page_index a ≡ page_index (a / page_bytes * page_bytes) = omega arith in
    rw (e, f)

module _ (read : ℕ → TableEntry) (d a : ℕ) where
  pub went : Went read d a (way read d a)
  unfolding way way_of_segment way_of_page
  went = by_either_test (Went read d a) _ past_segments (λ near. by_segment near (read (segment_entry_at d (segment_index a))) refl)
    where
      by_page : (e : ℕ) → PageSought read d a e → (x : TableEntry) → read (page_entry_at e (page_index a)) ≡ x → Went read d a (way_of_page (page_entry_at e (page_index a)) x)
      by_page e to (Err f) is = lacks_page to is
      by_page e to (Ok p) is =
          on_either_arm (Went read d a) (page_invalid p) (bad_page to is) (on_either_arm (Went read d a) (page_malformed p) (bad_page to is) (good_page to is))

      by_segment : past_segment_table d (segment_index a) ≡ false → (x : TableEntry) → read (segment_entry_at d (segment_index a)) ≡ x
          → Went read d a (way_of_segment read (segment_entry_at d (segment_index a)) (page_index a) x)
      by_segment near (Err f) is = lacks_segment is
      by_segment near (Ok e) is =
          let segment : SegmentWord read d a e = record { in_table = near; is = is } in
          by_either_test (Went read d a) (segment_invalid e) (λ _. bad_segment segment)
          λ valid. by_either_test (Went read d a) (segment_malformed e) (λ _. bad_segment segment)
          λ formed. by_either_test (Went read d a) (past_page_table e (page_index a)) (past_pages segment)
          λ in_table. by_page e (record { segment = segment; valid = valid; formed = formed; in_table = in_table }) _ refl

-- a walk that ends at a page, or fails so
pub data GoodWalk (Q : Failure → Type 0) : Walk → Type 0 where
  finds : {frame : ℕ} {protected : Bool} → GoodWalk Q (at_frame frame protected)
  fails : {f : Failure} → Q f → GoodWalk Q (Err f)

-- what holds of every failure that the walk makes of a code, and of every entry that cannot be read
pub walk-good : (Q : Failure → Type 0) (read : ℕ → TableEntry) (fail : ℕ → Failure) (d a : ℕ) → ((code : ℕ) → Q (fail code))
    → ((at : ℕ) (f : Failure) → read at ≡ Err f → Q f) → GoodWalk Q (walk read fail d a)
unfolding found_by
walk-good Q read fail d a by_code lacks = rw walk_by_way (by_way (went read d a))
  where
    by_way : {w : Way} → Went read d a w → GoodWalk Q (found_by fail w)
    by_way (past_segments past) = fails (by_code _)
    by_way (lacks_segment is) = fails (lacks _ _ is)
    by_way (bad_segment segment) = fails (by_code _)
    by_way (past_pages segment past) = fails (by_code _)
    by_way (lacks_page to is) = fails (lacks _ _ is)
    by_way (bad_page to is) = fails (by_code _)
    by_way (good_page to is) = finds
