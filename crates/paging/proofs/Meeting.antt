-- Laws of refusal 14: the marks tell it of the tables as they are, and it is the definition's of the tables after the change.
use Prim.Native.Nat.{ℕ, zero, suc, ◌+◌, ◌-◌, ◌/◌, ◌≤◌, ◌<◌}
use native.Mathlib.Omega.{arith}
use mathlib.Core.Path.{◌≡◌, refl, sym, ap, ◌∙◌, subst}
use mathlib.Core.Bool.{Bool, true, false, cond, ◌&&◌, ◌||◌}
use mathlib.Core.List.{List}
use mathlib.Core.Logic.{◌⊎◌, inl, inr, ⊎_elim}
use borrow.Author.Tests.{ltb-true, ltb-false, lt-ltb, eqb-true, eqb-false, eq-eqb, ne_eqb}
use lib.Dec.{eqb, ltb}
use lib.ListN.{length, get_or, set, take, replicate}
use borrow.Author.Rules.{rules}
use Rattle.std.specs.Prelude.{Option, Some, None, IsSome}
use Rattle.std.proofs.lemmas.List.{set_past, length-take-le, length-replicate}
use Rattle.machine.specs.Words.{word_at}
use Rattle.machine.specs.Sizes.{frame_bytes}
use Rattle.machine.specs.Refusals.{frames_of}
use Rattle.machine.specs.Walk.{frame_of}
use Rattle.machine.specs.Frames.{segment_place, page_place, page_of}
use Rattle.desk.specs.declared.Change.{Change}
use Rattle.desk.specs.declared.Change.TheVariants.{Add, Remove, Protect}
use Rattle.desk.specs.Reach.{segment_reached, page_reached, page_valid}
use Rattle.desk.specs.Extent.{guest_frame, entry_in_frame, serves_second_page, serves_as_segment}
use Rattle.desk.specs.Desk.{storage_after, entangled}
use Rattle.desk.proofs.Tables.{both, and_true, was_false, not_of, never_both, true_or_false, same_bool, page_is_valid, reached_of_valid}
use Rattle.desk.proofs.Extents.{or_left, or_right, either, some_below_lem, below_some}
use Rattle.desk.proofs.Entries.{added-entry, removed_entry, protected-entry}
use Rattle.desk.proofs.Changes.{StateFits, length-after}
use Rattle.desk.proofs.Written.{others_written, segment_written, reach_written, place_written, valid_written, invalid_written}
use Rattle.tables.specs.Tabling.{PageAt}
use Rattle.survey.specs.Marking.{Marked, Added, EntryIn, Names, SomePage, Tells, EntryMarked}
use Rattle.survey.proofs.Marking.{added_one}
use Rattle.sharing.specs.Sharing.{SharedBy}
use Rattle.changes.specs.Changing.{frame_after}
use Rattle.paging.specs.Meeting.{Meets}
use Rattle.paging.specs.Giving.{Ready}

-- no frame is marked at first

none_true : (m n f : ℕ) → get_or (take m (replicate n false)) f false ≡ false
none_true zero n f = refl
none_true (suc m) zero f = refl
none_true (suc m) (suc n) zero = refl
none_true (suc m) (suc n) (suc f) = none_true m n f

pub unmarked : (m n f : ℕ) → Marked (take m (replicate n false)) f → ⊥
unmarked m n f h = never_both h (none_true m n f)

-- as many marks as there were
pub length-marked : (P Q : ℕ → Type 0) (m n f : ℕ) (a b : List Bool) → Added P (take m (replicate n false)) a → Added Q a b → m ≤ n → m ≡ f → length b ≡ f
length-marked P Q m n f a b first second fits is =
    second.long ∙ first.long ∙ length-take-le m (replicate n false) (simp length-replicate fits) ∙ is

-- the marks of all pages but the own one, and of the frame
module _ (d : ℕ) (s : List ℕ) (from to own frame : ℕ) (zeros : List Bool) (none : (f : ℕ) → Marked zeros f → ⊥) where
  pub marks_tell : (frames : ℕ) (a b : List Bool) (answer : Bool) → frames ≡ frames_of s → frames ≤ length b
      → Added (SomePage (Names d s) from own) zeros a → Added (SomePage (Names d s) (own + 1) to) a b
      → Tells (EntryMarked d s from to (cond (ltb frame frames) (set b frame true) b)) answer → Tells (Meets d s from to own frame) answer
  marks_tell frames a b answer is long first second tells = record {
    so = λ e.
        let m = tells.so e in
        let n = name m.frame m.marked in
        record { place = m.frame; low = n.0; entry = m.entry; named = n.1 };
    never = λ e m. tells.never e (record { frame = m.place; entry = m.entry; marked = mark m.place (omega (arith, m.low)) m.named });
  }
    where
      later : List Bool
      later = cond (ltb frame frames) (set b frame true) b

      Named : ℕ → Type 0
      Named f = (SomePage (Names d s) from own f ⊎ SomePage (Names d s) (own + 1) to f) ⊎ (frame ≡ f)

      earlier : (f : ℕ) → Marked b f → (f < frames_of s) × Named f
      earlier f h =
          ⊎_elim
          (λ m. ⊎_elim (λ z. absurd (none f z)) (λ p. (p.is.1.1, inl (inl p))) (first.new f m))
          (λ p. (p.is.1.1, inl (inr p)))
          (second.new f h)

      name : (f : ℕ) → Marked later f → (f < frames_of s) × Named f
      name f = true_or_false _ (ltb frame frames)
          (λ e h.
          let low = ltb-true frame frames e in
          ⊎_elim (earlier f) (λ q. (omega arith, inr q)) ((added_one b frame (omega arith)).new f (rw e at h)))
          (λ e h. earlier f (rw e at h))

      kept : (f : ℕ) → Marked b f → Marked later f
      kept f m = true_or_false _ (ltb frame frames) (λ e. rw e ((added_one b frame (omega (arith, ltb-true frame frames e))).kept f m)) (λ e. rw e m)

      mark : (f : ℕ) → f < frames → Named f → Marked later f
      mark f small (inl (inl p)) = kept f (second.kept f (first.all f p))
      mark f small (inl (inr p)) = kept f (second.all f p)
      mark f small (inr q) = let e = lt-ltb frame frames (omega arith) in rw e ((added_one b frame (omega arith)).all f q)

  -- so where there are as many marks as frames: a frame past them is not marked
  pub marks-tell_frame : (a b : List Bool) (answer : Bool) → length b ≡ frames_of s → Added (SomePage (Names d s) from own) zeros a
      → Added (SomePage (Names d s) (own + 1) to) a b → Tells (EntryMarked d s from to (set b frame true)) answer
      → Tells (Meets d s from to own frame) answer
  marks-tell_frame a b answer long first second tells =
      marks_tell (frames_of s) a b answer refl (omega (arith, long)) first second
      (true_or_false _ (ltb frame (frames_of s)) (λ e. rw e tells)
      (λ e. rw (e, ← set_past b frame true (omega (arith, long, ltb-false frame (frames_of s) e))) tells))

-- what the page of a call names after the change
record OwnName (c : Change) (d : ℕ) (s : List ℕ) (page : ℕ) : Type 0 where
  to : (f : ℕ) → f < frames_of s → frame_after c (page_of d s page) ≡ f
      → (page_valid d (storage_after c d s page) page ≡ true) × (frame_of (page_of d (storage_after c d s page) page) ≡ f)
  back : (f : ℕ) → page_valid d (storage_after c d s page) page ≡ true → frame_of (page_of d (storage_after c d s page) page) ≡ f
      → frame_after c (page_of d s page) ≡ f

own_name : (c : Change) (first pages d : ℕ) (s : List ℕ) (p : ℕ) → p < pages → page_reached d s (first + p) ≡ true
    → serves_second_page first pages d s p ≡ false → serves_as_segment first pages d s p ≡ false → StateFits c s (page_valid d s (first + p)) → frames_of s ≤ 4096
    → OwnName c d s (first + p)
unfolding frame_after
own_name (Add frame) first pages d s p inside reached alone no_segment fits few =
    let w = valid_written (Add frame) first pages d s p inside reached alone no_segment frame false (added-entry frame _ (omega (arith, fits.1))) in
    record { to = λ f _ e. (w.0, w.1.0 ∙ e); back = λ f _ e. sym w.1.0 ∙ e }
own_name Remove first pages d s p inside reached alone no_segment fits few =
    let w = invalid_written Remove first pages d s p inside reached alone no_segment (removed_entry _ (page_is_valid d s (first + p) fits).valid).0 in
    record { to = λ f low e. absurd (omega arith); back = λ f valid _. never_both valid w }
own_name Protect first pages d s p inside reached alone no_segment fits few =
    let before = page_is_valid d s (first + p) fits in
    let w = valid_written Protect first pages d s p inside reached alone no_segment _ true (protected-entry _ before.valid before.formed) in
    record { to = λ f _ e. (w.0, w.1.0 ∙ e); back = λ f _ e. sym w.1.0 ∙ e }

-- a page of the extent, by its distance from the first
page_at : (P : ℕ → Type 0) (first pages q : ℕ) → first ≤ q → q < first + pages → P q → (k : ℕ) × ((k < pages) × (P (first + k) × (first + k ≡ q)))
page_at P first pages q low high h =
    let k = q - first in
    let e : first + k ≡ q = omega arith in
    (k, (omega arith, (subst P (sym e) h, e)))

module _ (c : Change) (first pages d : ℕ) (s : List ℕ) (p : ℕ) (inside : p < pages) (reached : page_reached d s (first + p) ≡ true)
    (alone : serves_second_page first pages d s p ≡ false) (no_segment : serves_as_segment first pages d s p ≡ false)
    (fits : StateFits c s (page_valid d s (first + p))) (few : frames_of s ≤ 4096) where
  abbrev after : List ℕ
  after = storage_after c d s (first + p)

  own : OwnName c d s (first + p)
  own = own_name c first pages d s p inside reached alone no_segment fits few

  frames-after : frames_of after ≡ frames_of s
  frames-after = ap (λ n. n / frame_bytes) (length-after c d s (first + p))

  -- another page names after the change what it named before

  other-named : (q : ℕ) → q < pages → (q ≡ p → ⊥) → (f : ℕ) → Names d s (first + q) f
      → (page_valid d after (first + q) ≡ true) × (frame_of (page_of d after (first + q)) ≡ f)
  other-named q below other f h =
      let same = others_written c first pages d s p inside reached alone no_segment q below other in
      (sym same.valid ∙ h.0, ap frame_of (sym (same.entry (reached_of_valid d s (first + q) h.0))) ∙ h.1.0)

  other_names : (q : ℕ) → q < pages → (q ≡ p → ⊥) → (f : ℕ) → f < frames_of s → page_valid d after (first + q) ≡ true
      → frame_of (page_of d after (first + q)) ≡ f → Names d s (first + q) f
  other_names q below other f low valid is =
      let same = others_written c first pages d s p inside reached alone no_segment q below other in
      let before = same.valid ∙ valid in
      (before, (ap frame_of (same.entry (reached_of_valid d s (first + q) before)) ∙ is, low))

  -- a guest frame after the change

  guest_by_page : (f q : ℕ) → f < frames_of s → q < pages → page_valid d after (first + q) ≡ true → frame_of (page_of d after (first + q)) ≡ f
      → guest_frame first pages d after f ≡ true
  unfolding guest_frame
  guest_by_page f q low below valid is =
      and_true (lt-ltb f (frames_of after) (omega (arith, frames-after))) (below_some pages _ q below (and_true valid (eq-eqb _ f is)))

  guest-after : (f : ℕ) → f < frames_of s
      → (SomePage (Names d s) first (first + p) f ⊎ SomePage (Names d s) (first + p + 1) (first + pages) f) ⊎ (frame_after c (page_of d s (first + p)) ≡ f)
      → guest_frame first pages d after f ≡ true
  guest-after f low (inl (inl h)) =
      let (k, found) = page_at (λ q. Names d s q f) first p h.page h.low h.high h.is in
      let w = other-named k (omega (arith, found.0)) (λ e. omega (arith, found.0)) f found.1.0 in
      guest_by_page f k low (omega (arith, found.0)) w.0 w.1
  guest-after f low (inl (inr h)) =
      let (k, found) = page_at (λ q. Names d s q f) first pages h.page (omega (arith, h.low)) h.high h.is in
      let w = other-named k found.0 (λ e. omega (arith, found.1.1, h.low)) f found.1.0 in
      guest_by_page f k low found.0 w.0 w.1
  guest-after f low (inr e) = let w = own.to f low e in guest_by_page f p low inside w.0 w.1

  guest_before : (f : ℕ) → guest_frame first pages d after f ≡ true
      → (f < frames_of s)
      × ((SomePage (Names d s) first (first + p) f ⊎ SomePage (Names d s) (first + p + 1) (first + pages) f) ⊎ (frame_after c (page_of d s (first + p)) ≡ f))
  unfolding guest_frame
  guest_before f e =
      let (in_storage_lem, some) = both (ltb f (frames_of after)) _ e in
      let low : f < frames_of s = omega (arith, ltb-true f (frames_of after) in_storage_lem, frames-after) in
      let (q, found) = some_below_lem pages _ some in
      let (valid, is) = both _ _ found.1 in
      let named = eqb-true _ f is in (
        low,
        true_or_false _ (eqb q p)
            (λ same. inr (own.back f (subst (λ x. page_valid d after (first + x) ≡ true) (eqb-true q p same) valid) (subst (λ x. frame_of (page_of d after (first + x)) ≡ f) (eqb-true q p same) named)))
            (λ differs.
            let other : q ≡ p → ⊥ = eqb-false q p differs in
            let names = other_names q found.0 other f low valid named in
            inl (true_or_false _ (ltb q p)
            (λ below. inl (record { page = first + q; low = omega arith; high = omega (arith, ltb-true q p below); is = names }))
            (λ above. inr (record { page = first + q; low = omega (arith, ltb-false q p above); high = omega (arith, found.0); is = names })))),
      )

  -- an entry after the change is where it was before
  pub meets_after : Meets d s first (first + pages) (first + p) (frame_after c (page_of d s (first + p))) → entry_in_frame first pages d after ≡ true
  unfolding entry_in_frame
  meets_after m =
      let (k, found) = page_at (λ q. EntryIn d s q m.place) first pages m.entry.page m.entry.low m.entry.high m.entry.is in
      let guest = guest-after m.place m.low m.named in
      below_some pages _ k found.0
      (⊎_elim
      (λ w. or_left (page_reached d after (first + k) && guest_frame first pages d after (page_place d after (first + k) / frame_bytes)) (and_true (sym (segment_written c first pages d s p inside reached alone no_segment k) ∙ w.0) (ap (guest_frame first pages d after) w.1 ∙ guest)))
      (λ w. or_right (segment_reached d after (first + k) && guest_frame first pages d after (segment_place d (first + k) / frame_bytes))
      (and_true (sym (reach_written c first pages d s p inside reached alone no_segment k found.0) ∙ w.0)
      (ap (λ a. guest_frame first pages d after (a / frame_bytes)) (sym (place_written c first pages d s p inside reached alone no_segment k found.0 w.0))
      ∙ ap (guest_frame first pages d after) w.1 ∙ guest)))
      found.1.0)

  pub meets_before : entry_in_frame first pages d after ≡ true → Meets d s first (first + pages) (first + p) (frame_after c (page_of d s (first + p)))
  unfolding entry_in_frame
  meets_before e =
      let (k, found) = some_below_lem pages _ e in
      either _ found.1
      (λ w.
      let (near, guest) = both _ _ w in
      let g = guest_before _ guest in
      record {
        place = segment_place d (first + k) / frame_bytes;
        low = g.0;
        entry = record {
          page = first + k;
          low = omega arith;
          high = omega (arith, found.0);
          is = inl (segment_written c first pages d s p inside reached alone no_segment k ∙ near, refl);
        };
        named = g.1;
      })
      (λ w.
      let (near, guest) = both _ _ w in
      let g = guest_before _ guest in
      let before = reach_written c first pages d s p inside reached alone no_segment k found.0 ∙ near in
      record {
        place = page_place d after (first + k) / frame_bytes;
        low = g.0;
        entry = record {
          page = first + k;
          low = omega arith;
          high = omega (arith, found.0);
          is = inr (before, ap (λ a. a / frame_bytes) (place_written c first pages d s p inside reached alone no_segment k found.0 before));
        };
        named = g.1;
      })

-- an entry that is shared

module _ (first pages d : ℕ) (s : List ℕ) (p : ℕ) where
  pub shared_refused : SomePage (SharedBy d s (first + p)) first (first + pages) (page_place d s (first + p))
      → (serves_second_page first pages d s p || serves_as_segment first pages d s p) ≡ true
  unfolding serves_second_page serves_as_segment
  shared_refused h =
      let (k, found) = page_at (λ q. SharedBy d s (first + p) q (page_place d s (first + p))) first pages h.page h.low h.high h.is in
      ⊎_elim
      (λ w. or_left (serves_as_segment first pages d s p) (below_some pages _ k found.0
      (and_true (not_of (ne_eqb k p (λ e. w.0 (ap (λ x. first + x) e)))) (and_true w.1.0 (eq-eqb _ _ w.1.1)))))
      (λ w. or_right (serves_second_page first pages d s p) (below_some pages _ k found.0 (and_true w.0 (eq-eqb _ _ w.1))))
      found.1.0

  pub unshared : (SomePage (SharedBy d s (first + p)) first (first + pages) (page_place d s (first + p)) → ⊥)
      → (serves_second_page first pages d s p ≡ false) × (serves_as_segment first pages d s p ≡ false)
  unfolding serves_second_page serves_as_segment
  unshared none = (
    not_true_is_false _ (λ e.
        let (k, found) = some_below_lem pages _ e in
        let (differs, w) = both _ _ found.1 in
        let (near, is) = both _ _ w in
        none (record {
          page = first + k;
          low = omega arith;
          high = omega (arith, found.0);
          is = inl (λ q. eqb-false k p (was_false _ differs) (omega arith), (near, eqb-true _ _ is));
        })),
    not_true_is_false _ (λ e.
        let (k, found) = some_below_lem pages _ e in
        let (near, is) = both _ _ found.1 in
        none (record { page = first + k; low = omega arith; high = omega (arith, found.0); is = inr (near, eqb-true _ _ is) })),
  )
    where
      not_true_is_false : (b : Bool) → (b ≡ true → ⊥) → b ≡ false
      not_true_is_false true h = absurd (h refl)
      not_true_is_false false h = refl

-- refusal 14, by whether the entry is shared and whether the tables meet
module _ (c : Change) (first pages d : ℕ) (s : List ℕ) (p place : ℕ) (ready : Ready c first pages d s p place) where
  pub tangled_shared : SomePage (SharedBy d s (first + p)) first (first + pages) place → entangled c first pages d s p ≡ true
  unfolding entangled
  tangled_shared h =
      or_right (entry_in_frame first pages d (storage_after c d s (first + p)))
      (shared_refused first pages d s p (subst (SomePage (SharedBy d s (first + p)) first (first + pages)) (sym ready.is) h))

  pub tangled_tables : (answer : Bool) → (SomePage (SharedBy d s (first + p)) first (first + pages) place → ⊥)
      → Tells (Meets d s first (first + pages) (first + p) (frame_after c (word_at s place))) answer → answer ≡ entangled c first pages d s p
  unfolding entangled
  tangled_tables answer none tells =
      let (alone, no_segment) = unshared first pages d s p (λ h. none (subst (SomePage (SharedBy d s (first + p)) first (first + pages)) ready.is h)) in
      let few : frames_of s ≤ 4096 = omega (arith, ready.placed.small) in
      rw (alone, no_segment)
      (same_bool answer _
      (λ e. or_left false (meets_after c first pages d s p ready.inside ready.reached alone no_segment ready.state few (told.so e)))
      (λ e. true_or_false _ answer (λ t. t) (λ f. absurd (told.never f (meets_before c first pages d s p ready.inside ready.reached alone no_segment ready.state few (only_left _ e))))))
    where
      told : Tells (Meets d s first (first + pages) (first + p) (frame_after c (page_of d s (first + p)))) answer
      told = subst (λ a. Tells (Meets d s first (first + pages) (first + p) (frame_after c (word_at s a))) answer) (sym ready.is) tells

      only_left : (b : Bool) → (b || (false || false)) ≡ true → b ≡ true
      only_left true e = refl
      only_left false e = e

-- an entry that is in reach stands somewhere
pub there : (d : ℕ) (s : List ℕ) (page : ℕ) (at : Option ℕ) → PageAt d s page at → page_reached d s page ≡ true → IsSome at
there d s page None told reached = never_both reached told
there d s page (Some at) told reached = search rules
