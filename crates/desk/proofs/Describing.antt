-- Laws of the entries that describe an extent and of its guest frames: which they are goes by what the tables say of the extent's pages.
use Prim.Native.Nat.{ℕ, ◌+◌, ◌-◌, ◌≤◌, ◌<◌}
use native.Mathlib.Omega.{arith}
use mathlib.Core.Path.{◌≡◌, refl, ap, ◌∙◌, subst}
use mathlib.Core.Bool.{true}
use mathlib.Core.List.{List}
use mathlib.Core.Logic.{◌⊎◌, inl, inr, ⊎_elim}
use borrow.Author.Tests.{ltb-true, ltb-false, leb-true, leb-false}
use lib.Dec.{leb, ltb}
use lib.ListN.{length}
use Rattle.machine.specs.declared.Guest.{Guest}
use Rattle.machine.specs.Entry.{entry_good}
use Rattle.machine.specs.Walk.{frame_of}
use Rattle.machine.specs.Frames.{InExtent, segment_place, page_place, page_of, Describes, GuestFrame}
use Rattle.desk.specs.Reach.{segment_reached, page_reached, page_valid}
use Rattle.desk.specs.Extent.{first_page, page_count}
use Rattle.desk.proofs.Tables.{true_or_false, SameTables, segment_in_reach, page_in-reach, page-reached, page_is_valid, page-valid, reached_of_valid}

-- the extent's pages, by their numbers in it and as host pages

pub in_extent : (g : Guest) (p : ℕ) → p < page_count g → InExtent g (first_page g + p)
in_extent g p below = record { low = omega arith; high = omega arith }

pub each_page : (g : Guest) (P : ℕ → Type 0) → ((p : ℕ) → p < page_count g → P (first_page g + p)) → (page : ℕ) → InExtent g page → P page
each_page g P holds page inside =
    let there : first_page g + (page - first_page g) ≡ page = omega arith in
    subst P there (holds (page - first_page g) (omega arith))

-- an address lies beside an entry, or is that of one of its four bytes
pub beside_or_in : {P : Type 0} (at i : ℕ) → ((i < at) ⊎ (at + 4 ≤ i) → P) → (at ≤ i → i < at + 4 → P) → P
beside_or_in at i beside among =
    true_or_false _ (ltb i at) (λ low. beside (inl (ltb-true i at low)))
    (λ high. true_or_false _ (leb (at + 4) i) (λ past. beside (inr (leb-true _ i past))) (λ before. among (ltb-false i at high) (leb-false _ i before)))

-- an entry in reach describes the extent
module _ (g : Guest) (d : ℕ) (s : List ℕ) (page : ℕ) (inside : InExtent g page) where
  pub segment-describes : segment_reached d s page ≡ true → entry_good g ≡ true → Describes g d s (segment_place d page)
  segment-describes reached good = record { good = good; page = page; inside = inside; which = inl (refl, segment_in_reach d s page reached) }

  pub page-describes : page_reached d s page ≡ true → entry_good g ≡ true → Describes g d s (page_place d s page)
  page-describes reached good = record { good = good; page = page; inside = inside; which = inr (refl, page_in-reach d s page reached) }

-- two storages have a page's entry in reach at one place, or neither has it
pub record SamePlace (d : ℕ) (s t : List ℕ) (page : ℕ) : Type 0 where
  pub reach : page_reached d s page ≡ page_reached d t page
  pub place : page_reached d s page ≡ true → page_place d s page ≡ page_place d t page

-- what is there in the second of two storages of one length was there in the first
module _ (g : Guest) (d : ℕ) (s t : List ℕ) (lengths : length s ≡ length t) where
  pub describes_too : ((page : ℕ) → InExtent g page → SamePlace d s t page) → (at : ℕ) → Describes g d t at → Describes g d s at
  describes_too same at h =
      let alike = same h.page h.inside in
      ⊎_elim
      (λ (e, reach). record {
        good = h.good;
        page = h.page;
        inside = h.inside;
        which = inl (e, record { in_table = reach.in_table; in_storage = rw lengths reach.in_storage });
      })
      (λ (e, reach).
      let reached = alike.reach ∙ page-reached d t h.page reach in
      rw (e, ← alike.place reached) (page-describes g d s h.page h.inside reached h.good))
      h.which

  -- a guest frame, where its page was valid with that frame
  pub frame_too : (f : ℕ) (h : GuestFrame g d t f) → page_valid d s h.page ≡ true → frame_of (page_of d s h.page) ≡ frame_of (page_of d t h.page)
      → GuestFrame g d s f
  frame_too f h valid named = record {
    good = h.good;
    page = h.page;
    inside = h.inside;
    valid = page_is_valid d s h.page valid;
    named = named ∙ h.named;
    present = rw lengths h.present;
  }

  pub frame_of_tables : (f : ℕ) (h : GuestFrame g d t f) → SameTables d s t h.page → GuestFrame g d s f
  frame_of_tables f h same =
      let valid = same.valid ∙ page-valid d t h.page h.valid in
      frame_too f h valid (ap frame_of (same.entry (reached_of_valid d s h.page valid)))

-- guests of one origin and extent that entry lets through have the same entries and frames

pub record SameExtent (g₁ g₂ : Guest) : Type 0 where
  pub begins : g₁.origin ≡ g₂.origin
  pub counts : g₁.extent ≡ g₂.extent

module _ {g₁ g₂ : Guest} (same : SameExtent g₁ g₂) where
  pub inside_for : {page : ℕ} → InExtent g₁ page → InExtent g₂ page
  inside_for h = record { low = omega arith; high = omega arith }

  pub describes_for : {d : ℕ} {s : List ℕ} {at : ℕ} → entry_good g₂ ≡ true → Describes g₁ d s at → Describes g₂ d s at
  describes_for good h = record { good = good; page = h.page; inside = inside_for h.inside; which = h.which }

  pub frame_for : {d : ℕ} {s : List ℕ} {f : ℕ} → entry_good g₂ ≡ true → GuestFrame g₁ d s f → GuestFrame g₂ d s f
  frame_for good h = record {
    good = good;
    page = h.page;
    inside = inside_for h.inside;
    valid = h.valid;
    named = h.named;
    present = h.present;
  }
