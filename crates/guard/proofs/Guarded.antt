-- What stays as it is while storage stays alike in the frames that a guard names.
-- Assumes nothing.
use Rattle.std.specs.Prelude.{Err, Ok}
use Prim.Native.Nat.{ℕ, ◌+◌, ◌*◌, ◌/◌, ◌%◌, ◌≤◌, ◌<◌}
use native.Mathlib.Omega.{arith}
use mathlib.Core.Path.{◌≡◌, refl, sym, ap, subst, ◌∙◌}
use mathlib.Core.Bool.{Bool, true, false, cond, ◌&&◌}
use mathlib.Core.List.{List, []}
use lib.Dec.{eqb, leb, ltb}
use lib.ListN.{length, set, length-set}
use lib.Seq.{get_or-set_same, get_or-set_other}
use borrow.Author.Tests.{ltb-true, leb-true, le-ltb, eqb-true, eqb-false}
use Rattle.machine.specs.declared.Cpu.{Cpu}
use Rattle.machine.specs.declared.Failure.{Failure}
use Rattle.machine.specs.declared.Guest.{Guest}
use Rattle.machine.specs.Words.{word_at}
use Rattle.machine.specs.Sizes.{page_bytes}
use Rattle.machine.specs.Entry.{extent_bytes}
use Rattle.machine.specs.Psw.{dat_on, control}
use Rattle.machine.specs.Failures.{addressing, protection, translation_specification, host_fault, exception_of, walk_exception}
use Rattle.machine.specs.Walk.{segment_index, page_index, segment_entry_at, page_entry_at, past_segment_table, walk_page, walk_segment, walk, TableEntry, Walk, at_frame}
use Rattle.machine.specs.Host.{host, host_virtual, in_frame, host_entry, in_storage, host_page, backing, view}
use Rattle.machine.specs.Addresses.{prefixed, guest_entry, format_good, low_protected, real_page}
use Rattle.machine.proofs.Laws.{word_of_bytes}
use Rattle.machine.proofs.Backing.{same_test}
use Rattle.laws.proofs.Pages.{prefixed_keeps_offset, backing-in_storage}
use Rattle.storage.specs.Steps.{read_through, table_leads, segment_leads}
use Rattle.storage.proofs.Steps.{walk_in_steps}
use Rattle.address.specs.Touching.{entry_behind, touched, touch_of}
use Rattle.address.proofs.Touches.{guest-entry-behind, touched_is}
use Rattle.guard.specs.Guarding.{Names, Wider, Alike}

-- a guard that names one frame more

names_it : (guard : List ℕ) (frame : ℕ) → length guard ≡ 64 → Names (set guard (frame % 64) 1) frame
names_it guard frame long = rw (get_or-set_same guard (frame % 64) 1 0 (omega arith)) (omega arith)

wider_set : (guard : List ℕ) (frame : ℕ) → length guard ≡ 64 → Wider guard (set guard (frame % 64) 1)
wider_set guard frame long other named = by_test (eqb (other % 64) (frame % 64)) refl
  where
    by_test : (b : Bool) → eqb (other % 64) (frame % 64) ≡ b → Names (set guard (frame % 64) 1) other
    by_test true e = rw (eqb-true (other % 64) (frame % 64) e) (names_it guard frame long)
    by_test false e = rw (get_or-set_other guard (frame % 64) (other % 64) 1 0 (eqb-false _ _ e)) named

pub alike_narrower : (guard more s t : List ℕ) → Wider guard more → Alike more s t → Alike guard s t
alike_narrower guard more s t wider alike = record { long = alike.long; same = λ p named. alike.same p (wider (p / 4096) named) }

-- the host's tables

-- the host page of a host virtual address stays as it is
abbrev HostAlike : List ℕ → ℕ → List ℕ → ℕ → Type 0
HostAlike guard d s v = (t k : List ℕ) → Alike guard s t → host_page (host d t k) v ≡ host_page (host d s k) v

module _ (guard s t : List ℕ) (alike : Alike guard s t) where
  word-alike : (at : ℕ) → at % 4 ≡ 0 → Names guard (at / 4096) → word_at t at ≡ word_at s at
  word-alike at aligned named =
      word_of_bytes t s at λ i low high. let page : at / 4096 ≡ i / 4096 = omega arith in alike.same i (subst (Names guard) page named)

  host-entry-alike : (v at : ℕ) → at % 4 ≡ 0 → (at + 4 ≤ length s → Names guard (at / 4096)) → host_entry t v at ≡ host_entry s v at
  unfolding host_entry
  host-entry-alike v at aligned named =
      rw alike.long (same_test (leb (at + 4) (length s)) (λ e. ap Ok (word-alike at aligned (named (leb-true _ _ e)))) (λ _. refl))

  in_storage-alike : (v : ℕ) (w : Walk) → in_storage t v w ≡ in_storage s v w
  unfolding in_storage
  in_storage-alike v (Err f) = refl
  in_storage-alike v (Ok page) = rw alike.long

  -- the page entry of a segment entry that the walk has read
  page-alike : (v index e : ℕ) → Names guard (page_entry_at e index / 4096)
      → walk_segment (host_entry t v) (host_fault v) index (Ok e) ≡ walk_segment (host_entry s v) (host_fault v) index (Ok e)
  unfolding walk_segment
  page-alike v index e named = rw (host-entry-alike v (page_entry_at e index) (omega arith) (λ _. named))

  segment-alike : (v index at : ℕ) → (at + 4 ≤ length s → Names guard (page_entry_at (word_at s at) index / 4096))
      → walk_segment (host_entry t v) (host_fault v) index (host_entry s v at) ≡ walk_segment (host_entry s v) (host_fault v) index (host_entry s v at)
  unfolding walk_segment host_entry
  segment-alike v index at named = by_test (leb (at + 4) (length s)) refl
    where
      by_test : (b : Bool) → leb (at + 4) (length s) ≡ b
          → walk_segment (host_entry t v) (host_fault v) index (cond b (Ok (word_at s at)) (Err (host_fault v addressing)))
          ≡ walk_segment (host_entry s v) (host_fault v) index (cond b (Ok (word_at s at)) (Err (host_fault v addressing)))
      by_test true e = page-alike v index (word_at s at) (named (leb-true _ _ e))
      by_test false e = refl

host-alike : (guard : List ℕ) (d : ℕ) (s : List ℕ) (v : ℕ) → Names guard (segment_entry_at d (segment_index v) / 4096)
    → (segment_entry_at d (segment_index v) + 4 ≤ length s → Names guard (page_entry_at (word_at s (segment_entry_at d (segment_index v))) (page_index v) / 4096))
    → HostAlike guard d s v
unfolding host_page walk
host-alike guard d s v segment page t k alike =
    in_storage-alike guard s t alike v _
    ∙ ap (in_storage s v)
    (same_test (past_segment_table d (segment_index v)) (λ _. refl) λ _.
    ap (walk_segment (host_entry t v) (host_fault v) (page_index v)) (host-entry-alike guard s t alike v _ (omega arith) (λ _. segment))
    ∙ segment-alike guard s t alike v (page_index v) _ page)

-- the frames of the host's entries, named one after the other
module _ (guard : List ℕ) (d : ℕ) (s : List ℕ) (v : ℕ) (one : List ℕ) (long : length guard ≡ 64)
    (first : one ≡ set guard (segment_entry_at d (segment_index v) / 4096 % 64) 1) where
  wider_one : Wider guard one
  wider_one = rw first (wider_set guard _ long)

  named_one : Names one (segment_entry_at d (segment_index v) / 4096)
  named_one = rw first (names_it guard _ long)

  pub host-named_one : length s < segment_entry_at d (segment_index v) + 4 → Wider guard one × HostAlike one d s v
  host-named_one past = (wider_one, host-alike one d s v named_one (λ fits. absurd (omega arith)))

  pub host-named_two : (more : List ℕ) (word : ℕ) → word ≡ word_at s (segment_entry_at d (segment_index v))
      → more ≡ set one (page_entry_at word (page_index v) / 4096 % 64) 1 → Wider guard more × HostAlike more d s v
  host-named_two more word is second =
      let long-one : length one ≡ 64 = rw first (length-set guard _ 1 ∙ long) in
      let wider : Wider one more = rw second (wider_set one _ long-one) in
      let named : Names more (page_entry_at word (page_index v) / 4096) = rw second (names_it one _ long-one) in (
        λ frame old. wider frame (wider_one frame old),
        host-alike more d s v (wider _ named_one) (λ _. subst (λ x. Names more (page_entry_at x (page_index v) / 4096)) is named),
      )

-- at or above the extent nothing is read
backing-alike : (guard : List ℕ) (g : Guest) (d : ℕ) (s : List ℕ) (a : ℕ) → (a < extent_bytes g → HostAlike guard d s (host_virtual g a))
    → (t k : List ℕ) → Alike guard s t → backing g (host d t k) a ≡ backing g (host d s k) a
unfolding backing
backing-alike guard g d s a below t k alike = same_test (ltb a (extent_bytes g)) (λ e. below (ltb-true _ _ e) t k alike) (λ _. refl)

-- the guest's tables

-- the frame of a page that is found is named
abbrev Named : List ℕ → Walk → Type 0
Named guard (Err f) = Unit {0}
Named guard (Ok page) = Names guard page.frame

-- the guest table entry at a guest real address stays as it is
abbrev RealEntryAlike : List ℕ → Guest → ℕ → List ℕ → ℕ → Type 0
RealEntryAlike guard g d s real = (t k : List ℕ) → Alike guard s t → guest_entry g (view g (host d t k)) real ≡ guest_entry g (view g (host d s k)) real

module _ (g : Guest) (d : ℕ) (s : List ℕ) (real : ℕ) (aligned : real % 4 ≡ 0) (at : ℕ) (is : at ≡ prefixed g real) where
  entry-alike : (guard : List ℕ) → (at < extent_bytes g → HostAlike guard d s (host_virtual g at)) → Named guard (backing g (host d s []) at) → RealEntryAlike guard g d s real
  unfolding entry_behind
  entry-alike guard below named t k alike =
      rw (guest-entry-behind g d t k real aligned, guest-entry-behind g d s k real aligned, ← is, backing-alike guard g d s at below t [] alike)
      (by_walk (backing g (host d s []) at) named)
    where
      by_walk : (w : Walk) → Named guard w → entry_behind t at w ≡ entry_behind s at w
      by_walk (Err f) named = refl
      by_walk (Ok page) named =
          let offset = prefixed_keeps_offset g real in
          let own : page.frame ≡ in_frame page.frame at / 4096 = omega arith in
          ap Ok (word-alike guard s t alike (in_frame page.frame at) (omega arith) (subst (Names guard) own named))

  pub entry_above : (guard : List ℕ) → extent_bytes g ≤ at → RealEntryAlike guard g d s real
  unfolding backing
  entry_above guard above = entry-alike guard (λ below. absurd (omega arith)) (rw (le-ltb at (extent_bytes g) above) tt)

  -- the entry by the host page behind its address
  pub entry_is : (w : Walk) → backing g (host d s []) at ≡ w → (k : List ℕ) → entry_behind s at w ≡ guest_entry g (view g (host d s k)) real
  entry_is w behind k = rw (guest-entry-behind g d s k real aligned, ← is, behind)

  pub entry_past : extent_bytes g ≤ at → (k : List ℕ) → Err (exception_of addressing) ≡ guest_entry g (view g (host d s k)) real
  unfolding backing entry_behind
  entry_past above = entry_is (Err (exception_of addressing)) (rw (le-ltb at (extent_bytes g) above))

  pub entry_fits : {frame : ℕ} {protected : Bool} → backing g (host d s []) at ≡ at_frame frame protected → in_frame frame at + 4 ≤ length s
  entry_fits behind = let offset = prefixed_keeps_offset g real in let whole = backing-in_storage g (host d s []) at behind in omega arith

  -- by the host page behind the address
  module _ (guard : List ℕ) (below : HostAlike guard d s (host_virtual g at)) where
    pub entry_failed : (f : Failure) → backing g (host d s []) at ≡ Err f → RealEntryAlike guard g d s real
    entry_failed f behind = entry-alike guard (λ _. below) (rw behind tt)

    pub entry_found : (frame : ℕ) (protected : Bool) → backing g (host d s []) at ≡ at_frame frame protected
        → (before more : List ℕ) → Wider before guard → length guard ≡ 64 → more ≡ set guard (frame % 64) 1
        → Wider before more × RealEntryAlike more g d s real
    entry_found frame protected behind before more grown long is_set =
        let wider : Wider guard more = rw is_set (wider_set guard frame long) in
        let named : Names more frame = rw is_set (names_it guard frame long) in (
          λ other old. wider other (grown other old),
          entry-alike more (λ _ t k alike. below t k (alike_narrower guard more s t wider alike)) (rw behind named),
        )

-- the guest table entry at the address that a step led to stays as it is
abbrev EntryAlike : List ℕ → Guest → ℕ → List ℕ → TableEntry → Type 0
EntryAlike guard g d s e =
    (t k : List ℕ) → Alike guard s t → read_through (guest_entry g (view g (host d t k))) e ≡ read_through (guest_entry g (view g (host d s k))) e

-- one byte

-- the real page of a logical address is this one, and stays as it is
abbrev RealFound : List ℕ → Guest → ℕ → List ℕ → Cpu → ℕ → Walk → Type 0
RealFound guard g d s c a w =
    ((t k : List ℕ) → Alike guard s t → real_page g (view g (host d t k)) c a ≡ real_page g (view g (host d s k)) c a)
    × ((k : List ℕ) → w ≡ real_page g (view g (host d s k)) c a)

-- the host page behind a byte of a real page stays as it is
abbrev PageAlike : List ℕ → Guest → ℕ → List ℕ → ℕ → Walk → Type 0
PageAlike guard g d s a (Err f) = Unit {0}
PageAlike guard g d s a (Ok page) =
    prefixed g (page.frame * page_bytes + a % page_bytes) < extent_bytes g → HostAlike guard d s (host_virtual g (prefixed g (page.frame * page_bytes + a % page_bytes)))

module _ (guard : List ℕ) (g : Guest) (d : ℕ) (s : List ℕ) (c : Cpu) (a : ℕ) where
  -- where no entry is read
  pub real_off : dat_on c ≡ false → RealFound guard g d s c a (at_frame (a / page_bytes) false)
  unfolding real_page
  real_off off = (λ t k alike. rw off, λ k. rw off)

  pub real_malformed : dat_on c ≡ true → format_good c ≡ false → RealFound guard g d s c a (Err (exception_of translation_specification))
  unfolding real_page
  real_malformed on bad = (λ t k alike. rw (on, bad), λ k. rw (on, bad))

  -- where the walk's two entries are named
  pub real_walked : dat_on c ≡ true → format_good c ≡ true → (leads segment page found : TableEntry) (w : Walk)
      → leads ≡ table_leads (walk_exception a) (control c 1) a
      → ((k : List ℕ) → segment ≡ read_through (guest_entry g (view g (host d s k))) leads)
      → page ≡ segment_leads (walk_exception a) (page_index a) segment
      → ((k : List ℕ) → found ≡ read_through (guest_entry g (view g (host d s k))) page)
      → w ≡ walk_page (walk_exception a) found
      → (some : List ℕ) → Wider some guard → EntryAlike some g d s leads → EntryAlike guard g d s page → RealFound guard g d s c a w
  unfolding real_page
  real_walked on good leads segment page found w led read paged met ends some wider first second = (λ t k alike. walked t k alike ∙ here k, here)
    where
      here : (k : List ℕ) → w ≡ real_page g (view g (host d s k)) c a
      here k = rw (on, good, walk_in_steps (guest_entry g (view g (host d s k))) (walk_exception a) (control c 1) a, ← led, ← read k, ← paged, ← met k, ends)

      walked : (t k : List ℕ) → Alike guard s t → real_page g (view g (host d t k)) c a ≡ w
      walked t k alike =
          rw (
            on,
            good,
            walk_in_steps (guest_entry g (view g (host d t k))) (walk_exception a) (control c 1) a,
            ← led,
            first t k (alike_narrower some guard s t wider alike),
            ← read k,
            ← paged,
            second t k alike,
            ← met k,
            ends,
          )

  pub touch_alike : (w : Walk) (some : List ℕ) → Wider some guard → RealFound some g d s c a w → PageAlike guard g d s a w
      → (t k : List ℕ) (store : Bool) → Alike guard s t → touch_of g (host d t k) c store a ≡ touch_of g (host d s k) c store a
  unfolding touched
  touch_alike w some wider (real, is) page t k store alike =
      touched_is g (host d t k) c store a
      ∙ ap (cond (store && low_protected c a) (Err (exception_of protection)))
      (ap (touched g (host d t k) c store a) (real t k (alike_narrower some guard s t wider alike) ∙ sym (is k)) ∙ by_walk w page ∙ ap (touched g (host d s k) c store a) (is k))
      ∙ sym (touched_is g (host d s k) c store a)
    where
      by_walk : (w : Walk) → PageAlike guard g d s a w → touched g (host d t k) c store a w ≡ touched g (host d s k) c store a w
      by_walk (Err f) below = refl
      by_walk (Ok page) below = rw (backing-alike guard g d s (prefixed g (page.frame * page_bytes + a % page_bytes)) below t k alike)
