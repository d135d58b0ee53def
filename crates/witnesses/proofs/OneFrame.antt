-- A host whose tables, in frame t, back every page of a guest of one block by frame 0: what describes the extent, and the guest frames.
-- Assumes nothing.
use Prim.Native.Nat.{ℕ, ◌+◌, ◌*◌, ◌/◌, ◌<◌}
use native.Mathlib.Omega.{arith}
use mathlib.Core.Path.{◌≡◌, ap, ◌∙◌}
use mathlib.Core.List.{List, []}
use mathlib.Core.Logic.{⊎_elim}
use Rattle.machine.specs.declared.Guest.{Guest}
use Rattle.machine.specs.Words.{word_at}
use Rattle.machine.specs.Frames.{InExtent, segment_place, page_place, page_of, Describes, GuestFrame}
use Rattle.machine.proofs.Laws.{SameBytes, word_of_bytes}

-- the segment entry, at the start of frame t, names the page table 64 bytes on, whose sixteen entries are zero
pub record OneFrame (g : Guest) (t : ℕ) (s : List ℕ) : Type 0 where
  pub inside : (page : ℕ) → InExtent g page → page < 16
  pub small : t < 2
  pub segment : word_at s (t * 4096) ≡ t * 4096 + 64
  pub zeros : SameBytes s [] (t * 4096 + 64) (t * 4096 + 128)

module _ {g : Guest} {t : ℕ} {s : List ℕ} (tables : OneFrame g t s) where
  segment-place : (page : ℕ) → page < 16 → segment_place (t * 4096) page ≡ t * 4096
  segment-place page h = omega (arith, tables.small)

  page-place : (page : ℕ) → page < 16 → page_place (t * 4096) s page ≡ t * 4096 + 64 + page * 4
  page-place page h = rw (segment-place page h, tables.segment) (omega (arith, tables.small))

  page-entry : (page : ℕ) → page < 16 → page_of (t * 4096) s page ≡ 0
  unfolding word_at
  page-entry page h =
      ap (word_at s) (page-place page h) ∙ word_of_bytes s [] _ (λ i low high. tables.zeros i (omega arith) (omega arith))

  pub entry-in_frame_t : (at : ℕ) → Describes g (t * 4096) s at → at / 4096 ≡ t
  entry-in_frame_t at h =
      let page = tables.inside h.page h.inside in
      ⊎_elim (λ segment. omega (arith, segment-place h.page page)) (λ entry. omega (arith, page-place h.page page)) h.which

  pub guest_frame_is_0 : (frame : ℕ) → GuestFrame g (t * 4096) s frame → frame ≡ 0
  guest_frame_is_0 frame h = omega (arith, page-entry h.page (tables.inside h.page h.inside))
