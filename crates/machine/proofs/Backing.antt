-- The host pages behind the guest's extent: the walk reads only entries that describe the extent, ends in guest frames, and where it
-- fails names an entry that describes the extent.
use Rattle.std.specs.Prelude.{Err, Ok}
use Prim.Native.Nat.{ℕ, ◌+◌, ◌*◌, ◌/◌, ◌%◌, ◌-◌, ◌≤◌, ◌<◌}
use mathlib.Core.Path.{◌≡◌, refl, sym, ap, ◌∙◌, subst, fun_ext}
use mathlib.Core.Bool.{Bool, true, false, cond}
use mathlib.Core.List.{List}
use mathlib.Core.Logic.{◌⊎◌, inl, inr}
use native.Mathlib.Omega.{arith}
use borrow.Author.Tests.{leb-true, leb-false, ltb-true, le-leb, lt-ltb, eq-eqb}
use lib.Dec.{eqb, leb, ltb}
use lib.ListN.{length, get_or}
use Rattle.machine.specs.declared.Failure.{Failure}
use Rattle.machine.specs.declared.Guest.{Guest}
use Rattle.machine.specs.Words.{byte_at, word_at}
use Rattle.machine.specs.Sizes.{frame_bytes, page_bytes}
use Rattle.machine.specs.Refusals.{frames_of}
use Rattle.machine.specs.Entry.{entry_good, extent_bytes}
use Rattle.machine.specs.Failures.{protection, addressing, segment_translation, host_fault}
use Rattle.machine.specs.Walk.{segment_index, page_index, frame_of, page_protected, past_segment_table, walk, walk_segment, walk_page, TableEntry, Walk, at_frame}
use Rattle.machine.specs.Host.{Host, host, host_virtual, host_entry, in_storage, host_page, backing, in_frame, cell_of, view}
use Rattle.machine.specs.Frames.{InExtent, segment_place, segment_of, page_place, page_of, SegmentInReach, ValidPage, Describes, GuestFrame}
use Rattle.machine.specs.Sought.{Way, way_of_page, way_of_segment, way, found_by, host_sought_by, host_sought, fault_sought}
use Rattle.machine.proofs.Laws.{word_of_bytes}
use Rattle.machine.proofs.Tests.{by_either_test}
use Rattle.machine.proofs.Ways.{walk_by_way, way_by_page}
use Rattle.machine.proofs.FrameBytes.{In, in_frame_lem}

-- the second storage has the first one's length and the first one's entries that describe the extent
pub record SameEntries (g : Guest) (d : ℕ) (s₁ s₂ : List ℕ) : Type 0 where
  pub lengths : length s₁ ≡ length s₂
  pub entries : (at i : ℕ) → Describes g d s₁ at → at ≤ i → i < at + 4 → byte_at s₁ i ≡ byte_at s₂ i

-- the walk, by the number of the page
pub walk_by_page : (read : ℕ → TableEntry) (fail : ℕ → Failure) (d v : ℕ)
    → walk read fail d v
    ≡ cond (past_segment_table d (segment_index (v / page_bytes * page_bytes))) (Err (fail segment_translation)) (walk_segment read fail (page_index (v / page_bytes * page_bytes)) (read (segment_place d (v / page_bytes))))
unfolding walk
walk_by_page read fail d v =
    let e : segment_index v ≡ segment_index (v / page_bytes * page_bytes) = omega arith in
    let f : page_index v ≡ page_index (v / page_bytes * page_bytes) = omega arith in
    rw (e, f)

pub page_in_extent : (g : Guest) (a : ℕ) → ltb a (extent_bytes g) ≡ true → InExtent g (host_virtual g a / 4096)
page_in_extent g a e = let h : a < extent_bytes g = ltb-true _ _ e in record { low = omega arith; high = omega arith }

-- what holds of a host entry that is read and of one that is not holds of each
pub read_or_not : (P : TableEntry → Type 0) (s : List ℕ) (v at : ℕ) → (at + 4 ≤ length s → P (Ok (word_at s at)))
    → (length s < at + 4 → P (Err (host_fault v addressing))) → P (host_entry s v at)
unfolding host_entry
read_or_not P s v at can cannot = by_either_test P (leb (at + 4) (length s)) (λ e. can (leb-true _ _ e)) (λ e. cannot (leb-false _ _ e))

-- a failure by protection, or by an address of the extent
abbrev pub OfExtent : Guest → Failure → Type 0
OfExtent g f = (f.code ≡ protection) ⊎ InExtent g (f.address / page_bytes)

-- two results of one test, case by case
pub same_test : {A : Type 0} (b : Bool) {u₁ u₂ v₁ v₂ : A} → (b ≡ true → u₁ ≡ u₂) → (b ≡ false → v₁ ≡ v₂) → cond b u₁ v₁ ≡ cond b u₂ v₂
same_test true u v = u refl
same_test false u v = v refl

module _ (g : Guest) (d : ℕ) (s₁ s₂ : List ℕ) (same : SameEntries g d s₁ s₂) (good : entry_good g ≡ true) where
  same_entry : (v at : ℕ) → (at + 4 ≤ length s₁ → Describes g d s₁ at) → host_entry s₁ v at ≡ host_entry s₂ v at
  unfolding host_entry
  same_entry v at describes =
      rw (← same.lengths)
      (same_test (leb (at + 4) (length s₁)) (λ e. ap Ok (word_of_bytes s₁ s₂ at λ i low high. same.entries at i (describes (leb-true _ _ e)) low high)) (λ _. refl))

  -- the page entry of a segment entry that the walk has read
  same_page : (v page : ℕ) → InExtent g page → SegmentInReach d s₁ page
      → way_of_segment (host_entry s₁ v) (segment_place d page) (page_index (page * page_bytes)) (Ok (segment_of d s₁ page))
      ≡ way_of_segment (host_entry s₂ v) (segment_place d page) (page_index (page * page_bytes)) (Ok (segment_of d s₁ page))
  unfolding way_of_segment
  same_page v page inside segment =
      same_test _ (λ _. refl) λ valid. same_test _ (λ _. refl) λ formed. same_test _ (λ _. refl) λ in_table.
      ap (way_of_page (page_place d s₁ page)) (same_entry v (page_place d s₁ page) λ fits. record {
        good = good;
        page = page;
        inside = inside;
        which = inr (refl, record { segment = segment; valid = valid; formed = formed; in_table = in_table; in_storage = fits });
      })

  same_way_of_page : (v page : ℕ) → InExtent g page → way (host_entry s₁ v) d (page * page_bytes) ≡ way (host_entry s₂ v) d (page * page_bytes)
  unfolding way way_of_segment
  same_way_of_page v page inside = same_test _ (λ _. refl) λ near.
      read_or_not (λ x. on s₁ x ≡ on s₂ x) s₁ v _ (λ fits. same_page v page inside (record { in_table = near; in_storage = fits })) (λ _. refl)
      ∙ ap (on s₂) (same_entry v (segment_place d page) λ fits. record {
        good = good;
        page = page;
        inside = inside;
        which = inl (refl, record { in_table = near; in_storage = fits });
      })
    where
      on : List ℕ → TableEntry → Way
      on s = way_of_segment (host_entry s v) (segment_place d page) (page_index (page * page_bytes))

  same_way : (v : ℕ) → InExtent g (v / page_bytes) → way (host_entry s₁ v) d v ≡ way (host_entry s₂ v) d v
  same_way v inside =
      way_by_page (host_entry s₁ v) d v ∙ same_way_of_page v (v / page_bytes) inside ∙ sym (way_by_page (host_entry s₂ v) d v)

  same_walk : (v : ℕ) → InExtent g (v / page_bytes) → walk (host_entry s₁ v) (host_fault v) d v ≡ walk (host_entry s₂ v) (host_fault v) d v
  same_walk v inside =
      walk_by_way (host_entry s₁ v) (host_fault v) d v ∙ ap (found_by (host_fault v)) (same_way v inside) ∙ sym (walk_by_way (host_entry s₂ v) (host_fault v) d v)

  -- both storages name the same table for a fault of the extent
  pub same_sought : (f : Failure) → OfExtent g f → fault_sought d s₁ f ≡ fault_sought d s₂ f
  unfolding fault_sought host_sought
  same_sought f (inl protects) = rw (eq-eqb f.code protection protects)
  same_sought f (inr inside) = same_test (eqb f.code protection) (λ _. refl) (λ _. ap host_sought_by (same_way f.address inside))

  same_in_storage : (v : ℕ) (w : Walk) → in_storage s₁ v w ≡ in_storage s₂ v w
  unfolding in_storage
  same_in_storage v (Err x) = refl
  same_in_storage v (Ok page) = rw same.lengths

  -- the keys do not matter
  pub same_backing : (k₁ k₂ : List ℕ) → backing g (host d s₁ k₁) ≡ backing g (host d s₂ k₂)
  unfolding backing host_page
  same_backing k₁ k₂ = fun_ext λ a.
      same_test (ltb a (extent_bytes g))
      (λ e. ap (in_storage s₁ (host_virtual g a)) (same_walk (host_virtual g a) (page_in_extent g a e)) ∙ same_in_storage (host_virtual g a) _)
      (λ _. refl)

-- a page is no failure
pub no_failure : {R : Type 0} {x : Failure} {f : ℕ} {p : Bool} → Err x ≡ at_frame f p → R
no_failure e = let z : ◌≡◌ {A = ℕ} 0 1 = cc in absurd (omega arith)

-- a test whose outcome is a page, case by case
pub tested : {R : Type 0} {f : ℕ} {p : Bool} (b : Bool) {u v : Walk} → (b ≡ true → u ≡ at_frame f p → R) → (b ≡ false → v ≡ at_frame f p → R) → cond b u v ≡ at_frame f p → R
tested true u v e = u refl e
tested false u v e = v refl e

-- two pages found that are one have one frame and one protection

pub same_frame : {f f' : ℕ} {p p' : Bool} → at_frame f p ≡ at_frame f' p' → f ≡ f'
same_frame e = ap frame_or e
  where
    frame_or : Walk → ℕ
    frame_or (Ok page) = page.frame
    frame_or (Err x) = 0

pub same_protection : {f f' : ℕ} {p p' : Bool} → at_frame f p ≡ at_frame f' p' → p ≡ p'
same_protection e = ap protected_or e
  where
    protected_or : Walk → Bool
    protected_or (Ok page) = page.protected
    protected_or (Err x) = false

-- the walk for a page of this number has ended at this frame
abbrev EndsAt : ℕ → List ℕ → ℕ → ℕ → Type 0
EndsAt d s page f = ValidPage d s page × (frame_of (page_of d s page) ≡ f)

module _ (d : ℕ) (s : List ℕ) where
  pub ends_at_page : (v : ℕ) {f : ℕ} {p : Bool} → walk (host_entry s v) (host_fault v) d v ≡ at_frame f p → EndsAt d s (v / page_bytes) f
  unfolding walk_segment walk_page
  ends_at_page v {f} {p} e =
      tested _ (λ _. no_failure)
      (λ near. read_or_not (λ x. walk_segment (host_entry s v) (host_fault v) (page_index (v / page_bytes * page_bytes)) x ≡ at_frame f p → EndsAt d s (v / page_bytes) f) s v (segment_place d (v / page_bytes))
      (λ fits. tested _ (λ _. no_failure) λ valid. tested _ (λ _. no_failure) λ formed. tested _ (λ _. no_failure) λ in_table.
      read_or_not (λ x. walk_page (host_fault v) x ≡ at_frame f p → EndsAt d s (v / page_bytes) f) s v (page_place d s (v / page_bytes))
      (λ fits'. tested _ (λ _. no_failure) λ page_valid. tested _ (λ _. no_failure) λ pageFormed e. (
        record {
          reach = record {
            segment = record { in_table = near; in_storage = fits };
            valid = valid;
            formed = formed;
            in_table = in_table;
            in_storage = fits';
          };
          valid = page_valid;
          formed = pageFormed;
        },
        same_frame e,
      ))
      (λ _. no_failure))
      (λ _. no_failure))
      (rw walk_by_page at e)

  pub finds_page : (v : ℕ) → ValidPage d s (v / page_bytes)
      → walk (host_entry s v) (host_fault v) d v ≡ at_frame (frame_of (page_of d s (v / page_bytes))) (page_protected (page_of d s (v / page_bytes)))
  unfolding walk_segment walk_page host_entry
  finds_page v valid =
      rw walk_by_page
      (simp (
        valid.reach.segment.in_table,
        le-leb _ _ valid.reach.segment.in_storage,
        valid.reach.valid,
        valid.reach.formed,
        valid.reach.in_table,
        le-leb _ _ valid.reach.in_storage,
        valid.valid,
        valid.formed,
      ))

pub page-in_storage : (s : List ℕ) (v : ℕ) (w : Walk) {f : ℕ} {p : Bool} → in_storage s v w ≡ at_frame f p → (w ≡ at_frame f p) × (f < frames_of s)
unfolding in_storage
page-in_storage s v (Err x) e = no_failure e
page-in_storage s v (Ok page_) {f} {p} e =
    tested (ltb page_.frame (frames_of s)) (λ t e. let q : page_.frame ≡ f = same_frame e in (e, omega (arith, ltb-true))) (λ _. no_failure) e

module _ (g : Guest) (d : ℕ) (s k : List ℕ) where
  pub backed_by_guest_frame : entry_good g ≡ true → (a : ℕ) {f : ℕ} {p : Bool} → backing g (host d s k) a ≡ at_frame f p → GuestFrame g d s f
  unfolding backing host_page
  backed_by_guest_frame good a =
      tested (ltb a (extent_bytes g))
      (λ below e.
      let page = page-in_storage s (host_virtual g a) _ e in
      let ended = ends_at_page d s (host_virtual g a) page.0 in
      record {
        good = good;
        page = host_virtual g a / 4096;
        inside = page_in_extent g a below;
        valid = ended.0;
        named = ended.1;
        present = page.1;
      })
      (λ _. no_failure)

  valid-page_backs : (a f : ℕ) → a < extent_bytes g → EndsAt d s (host_virtual g a / 4096) f → f < frames_of s → (p : Bool) × (backing g (host d s k) a ≡ at_frame f p)
  unfolding backing host_page in_storage
  valid-page_backs a f below ended present = (
    page_protected (page_of d s (host_virtual g a / 4096)),
    simp (lt-ltb a (extent_bytes g) below, finds_page d s (host_virtual g a) ended.0, ended.1, lt-ltb f (frames_of s) present),
  )

  -- each guest frame backs some address of the extent
  guest_frame_backs : (f : ℕ) → GuestFrame g d s f → (a : ℕ) × ((p : Bool) × (backing g (host d s k) a ≡ at_frame f p))
  guest_frame_backs f frame =
      let a = frame.page * 4096 - g.origin * 65536 in
      let e : frame.page ≡ host_virtual g a / 4096 = omega arith in
      (a, valid-page_backs a f (omega arith) (subst (λ page. EndsAt d s page f) e (frame.valid, frame.named)) frame.present)

pub same_frames-behind : (g : Guest) (d : ℕ) (s₁ k₁ s₂ k₂ : List ℕ) → backing g (host d s₁ k₁) ≡ backing g (host d s₂ k₂)
    → (f : ℕ) → GuestFrame g d s₁ f → GuestFrame g d s₂ f
same_frames-behind g d s₁ k₁ s₂ k₂ pages f frame =
    let (a, b) = guest_frame_backs g d s₁ k₁ f frame in
    backed_by_guest_frame g d s₂ k₂ frame.good a (ap (λ behind. behind a) (sym pages) ∙ b.1)

-- two views through the same pages, of storages and keys that agree where the pages lie
pub same_view : (P : ℕ → Type 0) (g₁ g₂ : Guest) (h₁ h₂ : Host) → backing g₁ h₁ ≡ backing g₂ h₂
    → ((a f : ℕ) (p : Bool) → backing g₁ h₁ a ≡ at_frame f p → P f)
    → ((i : ℕ) → In P i → byte_at h₁.storage i ≡ byte_at h₂.storage i)
    → ((f : ℕ) → P f → get_or h₁.keys f 0 ≡ get_or h₂.keys f 0)
    → view g₁ h₁ ≡ view g₂ h₂
unfolding view cell_of
same_view P g₁ g₂ h₁ h₂ pages into storages keys = fun_ext λ a. go a (backing g₁ h₁ a) (into a) ∙ ap (λ behind. cell_of h₂ a (behind a)) pages
  where
    go : (a : ℕ) (w : Walk) → ((f : ℕ) (p : Bool) → w ≡ at_frame f p → P f) → cell_of h₁ a w ≡ cell_of h₂ a w
    go a (Err x) h = refl
    go a (Ok page) h = rw (storages (in_frame page.frame a) (in_frame_lem P page.frame (a % frame_bytes) (omega arith) (h page.frame page.protected refl)), keys page.frame (h page.frame page.protected refl))
