-- Laws of Marking: marks that are added, one after the other; what is so of some page from one up to another; what an answer tells.
use Prim.Native.Nat.{ℕ, zero, suc, ◌+◌, ◌-◌, ◌*◌, ◌/◌, ◌≤◌, ◌<◌}
use native.Mathlib.Numerals.{add-one}
use native.Mathlib.Omega.{arith}
use mathlib.Core.Path.{◌≡◌, refl, sym, ap, ◌∙◌, subst}
use mathlib.Core.Bool.{Bool, true, false, cond, ◌&&◌, ◌||◌}
use mathlib.Core.List.{List, ◌++◌}
use mathlib.Core.Logic.{◌⊎◌, inl, inr, ⊎_elim}
use borrow.Author.Tests.{ltb-true, ltb-false, lt-ltb, eqb-true, eqb-false}
use lib.Dec.{eqb, ltb}
use lib.ListN.{length, get_or, set, take, drop, length-set}
use lib.Seq.{get_or-set_same, get_or-set_other}
use Rattle.std.proofs.lemmas.Bool.{or_cases, or_parts}
use Rattle.std.proofs.lemmas.List.{set_past, length-append, length-drop, length-take-le, get_or_append_left, get_or-append_right, get_or-drop, get_or-take}
use Rattle.machine.specs.Sizes.{frame_bytes, segment_pages}
use Rattle.machine.specs.Refusals.{frames_of}
use Rattle.machine.specs.Walk.{frame_of}
use Rattle.machine.specs.Frames.{page_place}
use Rattle.desk.specs.Reach.{page_valid}
use Rattle.desk.proofs.Tables.{both, never_both, true_or_false, segment_of-reached}
use Rattle.tables.specs.Tabling.{SegmentThere, SegmentMissed, TableAt, EntriesOf, entry_at, word_valid, word_names}
use Rattle.tables.proofs.Entries.{valid_by_table}
use Rattle.survey.specs.Marking.{Marked, noted, Added, EntryIn, Names, SomePage, Tells, EntryMarked}

-- marks on frames

-- nothing is added
pub added_none : (P : ℕ → Type 0) (marks : List Bool) → ((f : ℕ) → P f → ⊥) → Added P marks marks
added_none P marks none = record { long = refl; new = λ f h. inl h; kept = λ f h. h; all = λ f h. absurd (none f h) }

-- a mark on one frame
pub added_one : (marks : List Bool) (x : ℕ) → x < length marks → Added (λ f. x ≡ f) marks (set marks x true)
added_one marks x fits = record {
  long = length-set marks x true;
  new = λ f h. by_place f (eqb x f) refl h;
  kept = λ f h. true_or_false _ (eqb x f) (λ e. at_place f (eqb-true x f e)) (λ e. get_or-set_other marks x f true false (λ h. eqb-false x f e (sym h)) ∙ h);
  all = at_place;
}
  where
    at_place : (f : ℕ) → x ≡ f → Marked (set marks x true) f
    at_place f e = subst (λ y. get_or (set marks x true) y false ≡ true) e (get_or-set_same marks x true false fits)

    by_place : (f : ℕ) (b : Bool) → eqb x f ≡ b → Marked (set marks x true) f → Marked marks f ⊎ (x ≡ f)
    by_place f true e h = inr (eqb-true x f e)
    by_place f false e h = inl (sym (get_or-set_other marks x f true false (λ q. eqb-false x f e (sym q))) ∙ h)

-- marks added to marks that were added
pub added_along : (P Q R : ℕ → Type 0) (a b c : List Bool) → Added P a b → Added Q b c → ((f : ℕ) → P f → R f) → ((f : ℕ) → Q f → R f)
    → ((f : ℕ) → R f → P f ⊎ Q f) → Added R a c
added_along P Q R a b c first second left right either = record {
  long = second.long ∙ first.long;
  new = λ f h. ⊎_elim (λ m. ⊎_elim (λ k. inl k) (λ p. inr (left f p)) (first.new f m)) (λ q. inr (right f q)) (second.new f h);
  kept = λ f h. second.kept f (first.kept f h);
  all = λ f r. ⊎_elim (λ p. second.kept f (first.all f p)) (λ q. second.all f q) (either f r);
}

-- the same marks by another name
pub added_same : (P Q : ℕ → Type 0) (a b : List Bool) → Added P a b → ((f : ℕ) → P f → Q f) → ((f : ℕ) → Q f → P f) → Added Q a b
added_same P Q a b added to back = record {
  long = added.long;
  new = λ f h. ⊎_elim (λ k. inl k) (λ p. inr (to f p)) (added.new f h);
  kept = added.kept;
  all = λ f q. added.all f (back f q);
}

-- marks added to the first `n`, and the others behind them as they were
pub added_front : (P : ℕ → Type 0) (n : ℕ) (marks later : List Bool) → n ≤ length marks → ((f : ℕ) → P f → f < n) → Added P (take n marks) later
    → Added P marks (later ++ drop n marks)
added_front P n marks later room low added = record {
  long = length-append later (drop n marks) ∙ simp length-drop (omega (arith, long));
  new = λ f h. by_place f (λ e. ⊎_elim (λ k. inl (sym (front f e) ∙ k)) (λ p. inr p) (added.new f (sym (later_front f e) ∙ h))) (λ e. inl (sym (behind f e) ∙ h));
  kept = λ f h. by_place f (λ e. later_front f e ∙ added.kept f (front f e ∙ h)) (λ e. behind f e ∙ h);
  all = λ f p. later_front f (low f p) ∙ added.all f p;
}
  where
    long : length later ≡ n
    long = added.long ∙ length-take-le n marks room

    later_front : (f : ℕ) → f < n → get_or (later ++ drop n marks) f false ≡ get_or later f false
    later_front f e = get_or_append_left later (drop n marks) false f (omega (arith, long))

    front : (f : ℕ) → f < n → get_or (take n marks) f false ≡ get_or marks f false
    front f e = get_or-take n marks f false e

    behind : (f : ℕ) → n ≤ f → get_or (later ++ drop n marks) f false ≡ get_or marks f false
    behind f e =
        let place : n + (f - n) ≡ f = omega arith in
        get_or-append_right later (drop n marks) n f false long e ∙ get_or-drop n marks (f - n) false ∙ ap (λ i. get_or marks i false) place

    by_place : {G : Type 0} (f : ℕ) → (f < n → G) → (n ≤ f → G) → G
    by_place f first second = true_or_false _ (ltb f n) (λ e. first (ltb-true f n e)) (λ e. second (ltb-false f n e))

-- one of the first `n` entries says a valid page with a frame of `frames`
pub record Noted (n frames : ℕ) (entries : List (List ℕ)) (f : ℕ) : Type 0 where
  pub number : ℕ
  pub low : number < n
  pub passes : word_valid (entry_at entries number) ≡ true
  pub is : frame_of (entry_at entries number) ≡ f
  pub fits : f < frames

pub noted_none : (frames : ℕ) (entries : List (List ℕ)) (marks : List Bool) → Added (Noted 0 frames entries) marks marks
noted_none frames entries marks = added_none _ marks λ f h. omega (arith, h.low)

-- one entry more
module _ (n frames : ℕ) (entries : List (List ℕ)) (a b : List Bool) (room : frames ≤ length b) (earlier : Added (Noted n frames entries) a b) where
  abbrev entry : ℕ
  entry = entry_at entries n

  before : (f : ℕ) → Noted n frames entries f → Noted (n + 1) frames entries f
  before f h = record { number = h.number; low = omega (arith, h.low); passes = h.passes; is = h.is; fits = h.fits }

  -- that names no frame to mark
  nothing_more : (word_valid entry ≡ true → frames ≤ frame_of entry) → Added (Noted (n + 1) frames entries) a b
  nothing_more none = added_same _ _ a b earlier before λ f h.
      let other : h.number ≡ n → ⊥ = λ e.
      let valid = ap (λ k. word_valid (entry_at entries k)) (sym e) ∙ h.passes in
      let is : frame_of entry ≡ f = ap (λ k. frame_of (entry_at entries k)) (sym e) ∙ h.is in
      omega (arith, none valid, h.fits) in
      record { number = h.number; low = omega (arith, h.low, other); passes = h.passes; is = h.is; fits = h.fits }

  one_frame_more : word_valid entry ≡ true → frame_of entry < frames → Added (Noted (n + 1) frames entries) a (set b (frame_of entry) true)
  one_frame_more valid low =
      added_along _ _ _ a b _ earlier (added_one b (frame_of entry) (omega arith)) before
      (λ f e. record { number = n; low = omega arith; passes = valid; is = e; fits = omega arith })
      (λ f h. true_or_false _ (eqb h.number n)
      (λ e. inr (ap (λ k. frame_of (entry_at entries k)) (sym (eqb-true h.number n e)) ∙ h.is))
      (λ e. let other : h.number ≡ n → ⊥ = eqb-false h.number n e in inl (record { number = h.number; low = omega (arith, h.low, other); passes = h.passes; is = h.is; fits = h.fits })))

  pub frames_more : Added (Noted (n + 1) frames entries) a (cond (word_names frames entry) (set b (frame_of entry) true) b)
  unfolding word_names
  frames_more = true_or_false _ (word_valid entry)
      (λ valid. true_or_false _ (ltb (frame_of entry) frames)
      (λ e. rw (valid, e) (one_frame_more valid (ltb-true _ _ e)))
      (λ e. rw (valid, e) (nothing_more λ _. ltb-false _ _ e)))
      (λ valid. rw valid (nothing_more λ h. never_both h valid))

-- so where there are as many marks as frames
pub noted_more : (n frames : ℕ) (entries : List (List ℕ)) (a b : List Bool) → length b ≡ frames → Added (Noted n frames entries) a b
    → Added (Noted (n + 1) frames entries) a (cond (word_valid (entry_at entries n)) (set b (frame_of (entry_at entries n)) true) b)
noted_more n frames entries a b long earlier =
    let entry = entry_at entries n in
    let room : frames ≤ length b = omega arith in
    true_or_false _ (word_valid entry)
    (λ valid. true_or_false _ (ltb (frame_of entry) frames)
    (λ e. rw valid (one_frame_more n frames entries a b room earlier valid (ltb-true _ _ e)))
    (λ e.
    let past : frames ≤ frame_of entry = ltb-false _ _ e in
    rw (valid, set_past b (frame_of entry) true (omega arith)) (nothing_more n frames entries a b room earlier λ _. past)))
    (λ valid. rw valid (nothing_more n frames entries a b room earlier λ h. never_both h valid))

-- the marks with one more for each of the first `n` entries that names a frame of `frames`
pub added-noted : (n frames : ℕ) (entries : List (List ℕ)) (marks : List Bool) → frames ≤ length marks
    → Added (Noted n frames entries) marks (noted n (λ k. word_names frames (entry_at entries k)) (λ k. frame_of (entry_at entries k)) marks)
unfolding noted
added-noted zero frames entries marks room = noted_none frames entries marks
added-noted (suc n) frames entries marks room =
    let earlier = added-noted n frames entries marks room in
    rw add-one at (frames_more n frames entries marks _ (omega (arith, earlier.long)) earlier)

-- what is so of some page

pub some_left : (P : ℕ → ℕ → Type 0) (from mid to x : ℕ) → mid ≤ to → SomePage P from mid x → SomePage P from to x
some_left P from mid to x h some = record { page = some.page; low = some.low; high = omega (arith, some.high); is = some.is }

pub some_right : (P : ℕ → ℕ → Type 0) (from mid to x : ℕ) → from ≤ mid → SomePage P mid to x → SomePage P from to x
some_right P from mid to x h some = record { page = some.page; low = omega (arith, some.low); high = some.high; is = some.is }

pub some_either : (P : ℕ → ℕ → Type 0) (from mid to x : ℕ) → SomePage P from to x → SomePage P from mid x ⊎ SomePage P mid to x
some_either P from mid to x some =
    true_or_false _ (ltb some.page mid)
    (λ e. inl (record { page = some.page; low = some.low; high = ltb-true _ _ e; is = some.is }))
    (λ e. inr (record { page = some.page; low = ltb-false _ _ e; high = some.high; is = some.is }))

pub some-nowhere : (P : ℕ → ℕ → Type 0) (from x : ℕ) → SomePage P from from x → ⊥
some-nowhere P from x some = omega (arith, some.low, some.high)

-- marks of the pages from one up to another, and on
pub added_pages : (P : ℕ → ℕ → Type 0) (from mid to : ℕ) (a b c : List Bool) → from ≤ mid → mid ≤ to → Added (SomePage P from mid) a b
    → Added (SomePage P mid to) b c → Added (SomePage P from to) a c
added_pages P from mid to a b c low high first second =
    added_along _ _ _ a b c first second (λ f. some_left P from mid to f high) (λ f. some_right P from mid to f low) (λ f. some_either P from mid to f)

-- the pages of a span, by their entries
module _ (d : ℕ) (s : List ℕ) (from to : ℕ) (entries : List (List ℕ)) (told : EntriesOf d s from to entries) where
  -- every page is at some distance from the first
  distance : (q : ℕ) → from ≤ q → q < to → (k : ℕ) × ((from + k < to) × (from + k ≡ q))
  distance q low high = (q - from, (omega arith, omega arith))

  pub marks_of_names : (earlier later : List Bool) → Added (Noted (length entries) (frames_of s) entries) earlier later
      → Added (SomePage (Names d s) from to) earlier later
  marks_of_names earlier later added =
      added_same _ _ earlier later added
      (λ f h.
      let own : from + h.number < to = omega (arith, h.low, told.few) in
      record {
        page = from + h.number;
        low = omega arith;
        high = own;
        is = (
          valid_by_table d s from to entries told h.number own ∙ rw (lt-ltb h.number (length entries) h.low) h.passes,
          (ap frame_of (told.is h.number h.low) ∙ h.is, h.fits),
        );
      })
      (λ f h.
      let (k, found) = distance h.page h.low h.high in
      let valid : page_valid d s (from + k) ≡ true = rw found.1 h.is.0 in
      let tests = both (ltb k (length entries)) _ (sym (valid_by_table d s from to entries told k found.0) ∙ valid) in
      let low : k < length entries = ltb-true k (length entries) tests.0 in
      record {
        number = k;
        low = low;
        passes = tests.1;
        is = ap frame_of (sym (told.is k low)) ∙ rw found.1 h.is.1.0;
        fits = h.is.1.1;
      })

  -- so for the marks with one more for each entry that names a frame of the storage
  pub marks_noted : (marks : List Bool) → frames_of s ≤ length marks
      → Added (SomePage (Names d s) from to) marks
      (noted (length entries) (λ k. word_names (frames_of s) (entry_at entries k)) (λ k. frame_of (entry_at entries k)) marks)
  marks_noted marks room = marks_of_names marks _ (added-noted (length entries) (frames_of s) entries marks room)

-- one of `count` entries from a place on lies in a marked frame
pub record IndexMarked (start count : ℕ) (marks : List Bool) : Type 0 where
  pub number : ℕ
  pub low : number < count
  pub marked : Marked marks ((start + number * 4) / frame_bytes)

-- the first and the last of so many entries lie where all of them lie

pub first_or_last : (start count : ℕ) (marks : List Bool) → 0 < count → count ≤ segment_pages → IndexMarked start count marks
    → Marked marks (start / frame_bytes) ⊎ Marked marks ((start + (count - 1) * 4) / frame_bytes)
first_or_last start count marks full few h =
    let at = (start + h.number * 4) / frame_bytes in
    true_or_false _ (eqb at (start / frame_bytes))
    (λ e. inl (subst (Marked marks) (eqb-true at _ e) h.marked))
    (λ e.
    let other : at ≡ start / frame_bytes → ⊥ = eqb-false at _ e in
    let last : at ≡ (start + (count - 1) * 4) / frame_bytes = omega (arith, h.low, other) in
    inr (subst (Marked marks) last h.marked))

pub first_marked : (start count : ℕ) (marks : List Bool) → 0 < count → Marked marks (start / frame_bytes) → IndexMarked start count marks
first_marked start count marks full h =
    let same : start / frame_bytes ≡ (start + 0 * 4) / frame_bytes = omega arith in
    record { number = 0; low = full; marked = subst (Marked marks) same h }

pub last_marked : (start count : ℕ) (marks : List Bool) → 0 < count → Marked marks ((start + (count - 1) * 4) / frame_bytes) → IndexMarked start count marks
last_marked start count marks full h = record { number = count - 1; low = omega arith; marked = h }

-- a segment entry in a marked frame
pub marked-segment : (d : ℕ) (s : List ℕ) (from to at : ℕ) (marks : List Bool) → from < to → SegmentThere d s (from / segment_pages) at
    → Marked marks (at / frame_bytes) → EntryMarked d s from to marks
marked-segment d s from to at marks some segment h = record {
  frame = at / frame_bytes;
  entry = record { page = from; low = omega arith; high = some; is = inl (segment.reached from refl, ap (λ x. x / frame_bytes) (segment.place from refl)) };
  marked = h;
}

-- no entry of a segment whose own entry is out of reach
pub none_marked : (d : ℕ) (s : List ℕ) (from to : ℕ) (marks : List Bool) → to ≤ from / segment_pages * segment_pages + segment_pages
    → SegmentMissed d s (from / segment_pages) → EntryMarked d s from to marks → ⊥
none_marked d s from to marks one segment h =
    let missed = segment.missed h.entry.page (omega (arith, h.entry.low, h.entry.high)) in
    ⊎_elim (λ w. never_both w.0 missed) (λ w. never_both (segment_of-reached d s h.entry.page w.0) missed) h.entry.is

-- the entries of a span, where its segment entry and its page entries stand
module _ (d : ℕ) (s : List ℕ) (from to at start end : ℕ) (some : from < to) (one : to ≤ from / segment_pages * segment_pages + segment_pages)
    (segment : SegmentThere d s (from / segment_pages) at) (table : TableAt d s from to start end) (marks : List Bool) where
  pub marked-table : IndexMarked start table.count marks → EntryMarked d s from to marks
  marked-table h = record {
    frame = (start + h.number * 4) / frame_bytes;
    entry = record {
      page = from + h.number;
      low = omega arith;
      high = omega (arith, h.low, table.few);
      is = inr (table.reach h.number (omega (arith, h.low, table.few)) ∙ lt-ltb h.number table.count h.low, ap (λ x. x / frame_bytes) (table.place h.number h.low));
    };
    marked = h.marked;
  }

  pub marked_first : start < end → Marked marks (start / frame_bytes) → EntryMarked d s from to marks
  marked_first full h = marked-table (first_marked start table.count marks (omega (arith, table.whole)) h)

  pub marked_last : start < end → Marked marks ((end - 4) / frame_bytes) → EntryMarked d s from to marks
  marked_last full h =
      let same : (end - 4) / frame_bytes ≡ (start + (table.count - 1) * 4) / frame_bytes = omega (arith, table.whole) in
      marked-table (last_marked start table.count marks (omega (arith, table.whole)) (subst (Marked marks) same h))

  pub marked-entry : EntryMarked d s from to marks
      → Marked marks (at / frame_bytes) ⊎ ((start < end) × (Marked marks (start / frame_bytes) ⊎ Marked marks ((end - 4) / frame_bytes)))
  marked-entry h =
      let own : h.entry.page / segment_pages ≡ from / segment_pages = omega (arith, h.entry.low, h.entry.high) in
      ⊎_elim
      (λ w. inl (subst (Marked marks) (sym w.1 ∙ ap (λ x. x / frame_bytes) (segment.place h.entry.page own)) h.marked))
      (λ w.
      let k = h.entry.page - from in
      let is : from + k ≡ h.entry.page = omega (arith, h.entry.low) in
      let inside : from + k < to = omega (arith, is, h.entry.high) in
      let low : k < table.count = ltb-true k table.count (sym (table.reach k inside) ∙ rw is w.0) in
      let place : page_place d s h.entry.page ≡ start + k * 4 = rw is at (table.place k low) in
      let found : IndexMarked start table.count marks =
      record { number = k; low = low; marked = subst (Marked marks) (sym w.1 ∙ ap (λ x. x / frame_bytes) place) h.marked } in
      let last : (start + (table.count - 1) * 4) / frame_bytes ≡ (end - 4) / frame_bytes = omega (arith, low, table.whole) in
      inr (
        omega (arith, low, table.whole),
        ⊎_elim (λ m. inl m) (λ m. inr (subst (Marked marks) last m)) (first_or_last start table.count marks (omega (arith, low)) (omega (arith, table.few)) found),
      ))
      h.entry.is

  -- so these tests tell
  pub tells_by_tests : Tells (EntryMarked d s from to marks)
      (get_or marks (at / frame_bytes) false || (ltb start end && (get_or marks (start / frame_bytes) false || get_or marks ((end - 4) / frame_bytes) false)))
  tells_by_tests = record {
    so = λ e. ⊎_elim (marked-segment d s from to at marks some segment)
        (λ h.
        let (full, either) = both (ltb start end) _ h in
        ⊎_elim (marked_first (ltb-true start end full)) (marked_last (ltb-true start end full)) (or_cases (get_or marks (start / frame_bytes) false) _ either))
        (or_cases (get_or marks (at / frame_bytes) false) _ e);
    never = λ e h.
        let (own, pages) = or_parts (get_or marks (at / frame_bytes) false) _ e in
        ⊎_elim (λ m. never_both m own)
        (λ (full, either).
        let (first, last) = or_parts (get_or marks (start / frame_bytes) false) _ (rw (lt-ltb start end full) at pages) in
        ⊎_elim (λ m. never_both m first) (λ m. never_both m last) either)
        (marked-entry h);
  }

-- from one page up to another, and on

pub marked_left : (d : ℕ) (s : List ℕ) (from mid to : ℕ) (marks : List Bool) → mid ≤ to → EntryMarked d s from mid marks → EntryMarked d s from to marks
marked_left d s from mid to marks h m = record { frame = m.frame; entry = some_left (EntryIn d s) from mid to m.frame h m.entry; marked = m.marked }

pub marked_right : (d : ℕ) (s : List ℕ) (from mid to : ℕ) (marks : List Bool) → from ≤ mid → EntryMarked d s mid to marks → EntryMarked d s from to marks
marked_right d s from mid to marks h m = record { frame = m.frame; entry = some_right (EntryIn d s) from mid to m.frame h m.entry; marked = m.marked }

pub marked_either : (d : ℕ) (s : List ℕ) (from mid to : ℕ) (marks : List Bool) → EntryMarked d s from to marks
    → EntryMarked d s from mid marks ⊎ EntryMarked d s mid to marks
marked_either d s from mid to marks m =
    ⊎_elim (λ e. inl (record { frame = m.frame; entry = e; marked = m.marked })) (λ e. inr (record { frame = m.frame; entry = e; marked = m.marked }))
    (some_either (EntryIn d s) from mid to m.frame m.entry)

pub marked-nowhere : (d : ℕ) (s : List ℕ) (from : ℕ) (marks : List Bool) → EntryMarked d s from from marks → ⊥
marked-nowhere d s from marks m = some-nowhere (EntryIn d s) from m.frame m.entry

-- an answer
pub tells_yes : {P : Type 0} → P → Tells P true
tells_yes h = record { so = λ _. h; never = λ e. never_both refl e }

pub tells_no : {P : Type 0} → (P → ⊥) → Tells P false
tells_no h = record { so = λ e. never_both e refl; never = λ _. h }

-- the same answer by other tests
pub tells_as : {P : Type 0} {a b : Bool} → a ≡ b → Tells P a → Tells P b
tells_as {P} e t = subst (Tells P) e t
