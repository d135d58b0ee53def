-- The effects of a unit on a pair of lists that change alike: they stay equal at the places `Q`, and as they started elsewhere.
use Rattle.std.specs.Prelude.{Err, Ok}
use Prim.Native.Nat.{ℕ, zero, suc, ◌%◌}
use mathlib.Core.Path.{◌≡◌, refl, sym, ap, ◌∙◌, subst}
use mathlib.Core.Bool.{Bool}
use mathlib.Core.List.{List, [], ◌∷◌}
use native.Mathlib.Omega.{arith}
use lib.ListN.{length, get_or, set, length-set}
use lib.Seq.{get_or-set_other}
use Rattle.machine.specs.Sizes.{frame_bytes}
use Rattle.machine.specs.Host.{Located, store_byte, stored, byte_in, bytes_behind, mark_key, marked, referenced, changed}
use Rattle.machine.specs.Outcomes.{Effects}
use Rattle.machine.specs.Run.{marked_by}
use Rattle.machine.proofs.FrameBytes.{In, in_frame_lem}
use Rattle.machine.specs.Walk.{Walk, at_frame}

module _ (Q : ℕ → Type 0) where
  -- the list is as it started but for the elements at the places
  pub record Outside (start l : List ℕ) : Type 0 where
    pub kept : length start ≡ length l
    pub rest : (i : ℕ) → (Q i → ⊥) → get_or l i 0 ≡ get_or start i 0

  pub record Alike (start₁ start₂ l₁ l₂ : List ℕ) : Type 0 where
    pub outside₁ : Outside start₁ l₁
    pub outside₂ : Outside start₂ l₂
    pub lengths : length l₁ ≡ length l₂
    pub inside : (i : ℕ) → Q i → get_or l₁ i 0 ≡ get_or l₂ i 0

set-outside : (Q : ℕ → Type 0) (start l : List ℕ) (j v : ℕ) → Q j → Outside Q start l → Outside Q start (set l j v)
set-outside Q start l j v q o = record {
  kept = o.kept ∙ sym (length-set l j v);
  rest = λ i h. get_or-set_other l j i v 0 (λ e. h (subst Q (sym e) q)) ∙ o.rest i h;
}

set_both : (l₁ l₂ : List ℕ) (j i v : ℕ) → length l₁ ≡ length l₂ → get_or l₁ i 0 ≡ get_or l₂ i 0 → get_or (set l₁ j v) i 0 ≡ get_or (set l₂ j v) i 0
set_both [] [] j i v h e = refl
set_both [] (y ∷ l₂) j i v h e = absurd (omega arith)
set_both (x ∷ l₁) [] j i v h e = absurd (omega arith)
set_both (x ∷ l₁) (y ∷ l₂) zero zero v h e = refl
set_both (x ∷ l₁) (y ∷ l₂) zero (suc i) v h e = e
set_both (x ∷ l₁) (y ∷ l₂) (suc j) zero v h e = e
set_both (x ∷ l₁) (y ∷ l₂) (suc j) (suc i) v h e = set_both l₁ l₂ j i v (omega arith) e

module _ (Q : ℕ → Type 0) (start₁ start₂ : List ℕ) where
  set-alike : (l₁ l₂ : List ℕ) (j v₁ v₂ : ℕ) → Q j → v₁ ≡ v₂ → Alike Q start₁ start₂ l₁ l₂ → Alike Q start₁ start₂ (set l₁ j v₁) (set l₂ j v₂)
  set-alike l₁ l₂ j v₁ v₂ q e a = record {
    outside₁ = set-outside Q start₁ l₁ j v₁ q a.outside₁;
    outside₂ = set-outside Q start₂ l₂ j v₂ q a.outside₂;
    lengths = simp length-set a.lengths;
    inside = λ i h. rw e (set_both l₁ l₂ j i v₂ a.lengths (a.inside i h));
  }

-- Through host pages that lie in the frames P.
module _ (P : ℕ → Type 0) (behind : ℕ → Walk) (into : (a f : ℕ) (p : Bool) → behind a ≡ at_frame f p → P f) (start₁ start₂ : List ℕ) where
  pub stored-alike : (ls : List Located) (s₁ s₂ : List ℕ) → Alike (In P) start₁ start₂ s₁ s₂
      → Alike (In P) start₁ start₂ (stored behind ls s₁) (stored behind ls s₂)
  unfolding stored store_byte
  stored-alike [] s₁ s₂ a = a
  stored-alike (l ∷ ls) s₁ s₂ a = stored-alike ls _ _ (go (behind l.absolute) (into l.absolute))
    where
      go : (w : Walk) → ((f : ℕ) (p : Bool) → w ≡ at_frame f p → P f) → Alike (In P) start₁ start₂ (store_byte w l s₁) (store_byte w l s₂)
      go (Err x) h = a
      go (Ok page) h = set-alike (In P) start₁ start₂ s₁ s₂ _ _ _ (in_frame_lem P page.frame (l.absolute % frame_bytes) (omega arith) (h page.frame page.protected refl)) refl a

  -- what stands at places is the same through these pages
  pub bytes-alike : (ls : List Located) (s₁ s₂ : List ℕ) → Alike (In P) start₁ start₂ s₁ s₂
      → bytes_behind behind s₁ ls ≡ bytes_behind behind s₂ ls
  unfolding byte_in
  bytes-alike [] s₁ s₂ a = refl
  bytes-alike (l ∷ ls) s₁ s₂ a = λ i. go (behind l.absolute) (into l.absolute) i ∷ bytes-alike ls s₁ s₂ a i
    where
      go : (w : Walk) → ((f : ℕ) (p : Bool) → w ≡ at_frame f p → P f) → byte_in w s₁ l.absolute ≡ byte_in w s₂ l.absolute
      go (Err x) h = refl
      go (Ok page) h = a.inside _ (in_frame_lem P page.frame (l.absolute % frame_bytes) (omega arith) (h page.frame page.protected refl))

  marked-alike : (mark : ℕ → ℕ) (at : List ℕ) (k₁ k₂ : List ℕ) → Alike P start₁ start₂ k₁ k₂ → Alike P start₁ start₂ (marked behind mark at k₁) (marked behind mark at k₂)
  unfolding marked mark_key
  marked-alike mark [] k₁ k₂ h = h
  marked-alike mark (a ∷ more) k₁ k₂ h = marked-alike mark more _ _ (go (behind a) (into a))
    where
      go : (w : Walk) → ((f : ℕ) (p : Bool) → w ≡ at_frame f p → P f) → Alike P start₁ start₂ (mark_key mark w k₁) (mark_key mark w k₂)
      go (Err x) i = h
      go (Ok page) i = set-alike P start₁ start₂ k₁ k₂ page.frame _ _ (i page.frame page.protected refl) (ap mark (h.inside page.frame (i page.frame page.protected refl))) h

  pub marked_by-alike : (e : Effects) (k₁ k₂ : List ℕ) → Alike P start₁ start₂ k₁ k₂ → Alike P start₁ start₂ (marked_by behind e k₁) (marked_by behind e k₂)
  unfolding marked_by
  marked_by-alike e k₁ k₂ h = marked-alike changed _ _ _ (marked-alike referenced _ _ _ h)
