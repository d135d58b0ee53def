-- An operand by page is what the definition reaches byte by byte.
-- Assumes nothing.
use Rattle.std.specs.Prelude.{Err, Ok}
use Prim.Native.Nat.{ℕ, ◌+◌, ◌-◌, ◌/◌, ◌%◌, ◌≤◌, ◌<◌}
use native.Mathlib.Nat.{sub_self}
use native.Mathlib.Omega.{arith}
use mathlib.Core.Path.{◌≡◌, refl, ap, sym, ◌∙◌, subst}
use mathlib.Core.Bool.{Bool, true, false, cond}
use mathlib.Core.List.{List, ◌++◌, append-nil}
use borrow.Author.Tests.{leb-true, leb-false, le-leb, lt-leb}
use lib.Dec.{leb}
use lib.ListN.{length, take, drop, length-append, length-drop, take-append-drop, drop_of_length-le}
use lib.Seq.{sets, take_all, length-take-le}
use Rattle.machine.specs.declared.Cpu.{Cpu}
use Rattle.machine.specs.declared.Failure.{Failure}
use Rattle.machine.specs.declared.Guest.{Guest}
use Rattle.machine.specs.Psw.{wrap}
use Rattle.machine.specs.Host.{Host, Located, places, in_frame, backing, view, stored, mark_key, marked}
use Rattle.machine.specs.Addresses.{Access, reached, denied, access, all, stopped, accesses, span}
use Rattle.machine.specs.Interruptions.{with_bytes, bytes_of}
use Rattle.laws.proofs.PageBytes.{bytes_from, span-append, wrap_by_mode, span_of_wrap, joined, accesses-append, stored-append, marked_append, with_bytes-append, places-append, bytes_of-append, length-bytes_from, bytes_of-bytes_from, stored-in_page, marked-in_page}
use Rattle.laws.proofs.Pages.{accesses-denied, backing-in_page, backing-in_storage, reached_is_backed, accesses-in_page}
use Rattle.address.specs.Touching.{placed, touched_by, touch_of, Place}
use Rattle.marks.specs.Marks.{mark_frame}
use Rattle.operands.specs.Operands.{in_one_page, in_two_pages, to_page_end, operand_of, Opened, Operand, in_pieces}
use Rattle.machine.specs.Walk.{at_frame}

module _ (g : Guest) (h : Host) where
  -- the n bytes that were reached stand at p, in one frame
  record Run (n : ℕ) (ls : List Located) (p : ℕ) : Type 0 where
    count : length ls ≡ n
    fits : p + n ≤ length h.storage
    fetched : bytes_of ls ≡ take n (drop p h.storage)
    stores : (bytes t : List ℕ) → length bytes ≡ n → stored (backing g h) (with_bytes ls bytes) t ≡ sets t p bytes
    marks : (mark : ℕ → ℕ) → ((k : ℕ) → mark (mark k) ≡ mark k) → (keys : List ℕ)
        → marked (backing g h) mark (places ls) keys ≡ mark_frame mark (p / 4096) keys

  run-in_page : (a n : ℕ) {frame : ℕ} {protected : Bool} → backing g h a ≡ at_frame frame protected → 0 < n → a % 4096 + n ≤ 4096
      → Run n (bytes_from h.storage a (in_frame frame a) n) (in_frame frame a)
  unfolding mark_key
  run-in_page a n {frame} {protected} backed some inside =
      record {
        count = length-bytes_from h.storage a p n;
        fits = fits;
        fetched = bytes_of-bytes_from h.storage a p n fits;
        stores = λ bytes t e. stored-in_page (backing g h) h.storage a p n bytes t e inside page;
        marks = λ mark twice keys. marked-in_page mark twice (backing g h) h.storage a p n keys some page ∙ ap (λ f. mark_frame mark f keys) number;
      }
    where
      p : ℕ
      p = in_frame frame a

      fits : p + n ≤ length h.storage
      fits = omega (arith, backing-in_storage g h a backed)

      page : (i : ℕ) → a ≤ i → i < a + n → backing g h i ≡ at_frame frame protected
      page i low high = backing-in_page g h a i backed (omega arith)

      number : frame ≡ p / 4096
      number = omega arith

  opened_by_one : (n p : ℕ) {ls : List Located} → Run n ls p → Opened g h n ls p n 0
  opened_by_one n p {ls} run =
      record {
        count = run.count;
        few = omega arith;
        first = run.fits;
        second = omega arith;
        fetched = rw (sub_self, append-nil) run.fetched;
        stores = λ bytes t e.
            let most : length bytes ≤ n = omega arith in
            rw (take_all, drop_of_length-le bytes most) (run.stores bytes t e);
        marks = λ mark twice keys. rw (le-leb n n (omega arith)) (run.marks mark twice keys);
      }

  opened_by_two : (n m p q : ℕ) {ls ms : List Located} → m < n → Run m ls p → Run (n - m) ms q → Opened g h n (ls ++ ms) p m q
  opened_by_two n m p q {ls} {ms} more run later =
      record {
        count = rw length-append (omega arith);
        few = omega arith;
        first = run.fits;
        second = later.fits;
        fetched = rw (bytes_of-append ls ms, run.fetched, later.fetched);
        stores = λ bytes t e.
            let front : length (take m bytes) ≡ m = length-take-le m bytes (omega arith) in
            let back : length (drop m bytes) ≡ n - m = rw length-drop (omega arith) in
            let halves = ap (with_bytes (ls ++ ms)) (sym (take-append-drop m bytes)) ∙ with_bytes-append ls ms (take m bytes) (drop m bytes) (omega arith) in
            rw (halves, stored-append, run.stores (take m bytes) t front) (later.stores (drop m bytes) (sets t p (take m bytes)) back);
        marks = λ mark twice keys.
            rw (places-append ls ms, marked_append, run.marks mark twice keys, later.marks mark twice, lt-leb n m more);
      }

  module _ (c : Cpu) (store : Bool) where
    abbrev one : ℕ → Access
    one = access g (view g h) c store

    -- what is reached of n bytes from a on, all in one page, by where the first stands
    abbrev Part : ℕ → ℕ → Place → Type 0
    Part a n (Err f) = accesses one (span c a n) ≡ stopped f
    Part a n (Ok p) = (ls : List Located) × (accesses one (span c a n) ≡ all ls) × Run n ls p

    part : (a n : ℕ) → wrap c a ≡ a → 0 < n → a % 4096 + n ≤ 4096 → Part a n (touch_of g h c store a)
    unfolding touched_by placed
    part a n wrapped some fits = by_access (one a) refl
      where
        by_access : (x : Access) → one a ≡ x → Part a n (touched_by g h x)
        by_access (denied f) found = accesses-denied one c a n found wrapped some
        by_access (reached l) found =
            let (frame, protected, backed, byte, offset) = reached_is_backed g h c store a found in
            rw backed (
              bytes_from h.storage l.absolute (in_frame frame l.absolute) n,
              accesses-in_page g h c store a n found backed wrapped fits,
              run-in_page l.absolute n backed some (omega arith),
            )

    -- an operand on two pages, as its parts are reached
    in_parts : (a m n : ℕ) → m ≤ n
        → accesses one (span c a n) ≡ joined (accesses one (span c a m)) (accesses one (span c (wrap c (a + m)) (n - m)))
    in_parts a m n few =
        let parts : n ≡ m + (n - m) = omega arith in
        ap (λ n. accesses one (span c a n)) parts
        ∙ rw (span-append c a m (n - m), span_of_wrap c (a + m) (n - m)) (accesses-append one (span c a m) (span c (a + m) (n - m)))

    module _ (a n : ℕ) where
      -- what is reached of the operand, by where it stands
      abbrev Whole : Operand → Type 0
      Whole (Err f) = accesses one (span c a n) ≡ stopped f
      Whole (Ok at) = (ls : List Located) × (accesses one (span c a n) ≡ all ls) × Opened g h n ls at.first at.count at.second

      whole_in_one : (x : Place) → Part a n x → Whole (in_one_page n x)
      unfolding in_one_page
      whole_in_one (Err f) e = e
      whole_in_one (Ok p) (ls, e, run) = (ls, e, opened_by_one n p run)

      whole_in_two : (m : ℕ) (x y : Place) → m < n → Part a m x → Part (wrap c (a + m)) (n - m) y → Whole (in_two_pages m x y)
      unfolding in_two_pages joined
      whole_in_two m (Err f) y more e later = in_parts a m n (omega arith) ∙ rw e
      whole_in_two m (Ok p) (Err f) more (ls, e, run) later = in_parts a m n (omega arith) ∙ rw (e, later)
      whole_in_two m (Ok p) (Ok q) more (ls, e, run) (ms, d, later) =
          (ls ++ ms, in_parts a m n (omega arith) ∙ rw (e, d), opened_by_two n m p q more run later)

      module _ (wrapped : wrap c a ≡ a) (some : 0 < n) (small : n ≤ 4096) where
        whole : Whole (operand_of g h c store a n)
        unfolding operand_of
        whole = by_test (leb n (to_page_end a)) refl
          where
            next : ℕ
            next = wrap c (a + to_page_end a)

            -- the next page is entered at its start
            next_is_wrapped : wrap c next ≡ next
            next_is_wrapped = wrap_by_mode (λ w. w (w (a + to_page_end a)) ≡ w (a + to_page_end a)) c (omega arith) (omega arith)

            next_starts_page : next % 4096 ≡ 0
            next_starts_page = wrap_by_mode (λ w. w (a + to_page_end a) % 4096 ≡ 0) c (omega arith) (omega arith)

            by_test : (b : Bool) → leb n (to_page_end a) ≡ b
                → Whole (cond b (in_one_page n (touch_of g h c store a)) (in_two_pages (to_page_end a) (touch_of g h c store a) (touch_of g h c store next)))
            by_test true fits = whole_in_one _ (part a n wrapped some (omega (arith, leb-true)))
            by_test false crosses =
                let more = leb-false n (to_page_end a) crosses in
                whole_in_two (to_page_end a) _ _ more (part a (to_page_end a) wrapped (omega arith) (omega arith))
                (part next (n - to_page_end a) next_is_wrapped (omega arith) (omega (arith, next_starts_page)))

        pub operand_shut : {f : Failure} → operand_of g h c store a n ≡ Err f → accesses (access g (view g h) c store) (span c a n) ≡ stopped f
        operand_shut e = subst Whole e whole

        pub operand_open : {p m q : ℕ} → operand_of g h c store a n ≡ in_pieces p m q
            → (ls : List Located) × (accesses (access g (view g h) c store) (span c a n) ≡ all ls) × Opened g h n ls p m q
        operand_open e = subst Whole e whole
