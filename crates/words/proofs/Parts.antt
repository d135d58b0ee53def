-- Laws of a part of a list.
-- Assumes nothing.
use Prim.Native.Nat.{ℕ, suc, ◌+◌, ◌-◌, ◌≤◌, ◌<◌}
use native.Mathlib.Nat.{le-add_right, add-suc}
use native.Mathlib.Omega.{arith}
use mathlib.Core.Path.{◌≡◌, refl, sym, ap, ◌∙◌}
use mathlib.Core.List.{List, [], ◌∷◌, ◌++◌, append_assoc, append-nil}
use borrow.Rule.Slice.PartMut.{mid_of, post_of, put_mid, Post-is, put_same, take_put}
use lib.ListN.{length, take, drop, set, take-append-drop, length-set}
use lib.Seq.{sets, length-sets, sets-eq, drop-length, take-set-le, drop-set-add, drop_at, length-take-le, set-append_left}

-- a part, put back with other elements, is a run of stores
pub sets_of_part : {A : Type 0} (l : List A) (at : ℕ) (vs : List A) → at + length vs ≤ length l → put_mid at (at + length vs - at) l vs ≡ sets l at vs
sets_of_part l at vs fits =
    ap (λ rest. take at l ++ (vs ++ rest)) (Post-is at (at + length vs) l (omega arith)) ∙ sym (append_assoc (take at l) vs _) ∙ sym (sets-eq vs l at fits)

-- a run of stores over a whole list
pub sets_of_whole : {A : Type 0} (l vs : List A) → length l ≡ length vs → sets l 0 vs ≡ vs
sets_of_whole l vs long =
    let end : 0 + length vs ≡ length l = omega arith in
    sets-eq vs l 0 (omega arith) ∙ ap (λ n. vs ++ drop n l) end ∙ ap (λ rest. vs ++ rest) (drop-length l) ∙ append-nil vs

module _ {A : Type 0} (l : List A) (at n : ℕ) (inside : at ≤ length l) where
  set_in_part : (part : List A) (i : ℕ) (v : A) → i < length part → put_mid at n l (set part i v) ≡ set (put_mid at n l part) (at + i) v
  set_in_part part i v small =
      let whole = put_mid at n l part in
      sym
      (sym (take-append-drop at (set whole (at + i) v))
      ∙ ap (λ front. front ++ drop at (set whole (at + i) v)) (take-set-le at whole (at + i) v (le-add_right at i) ∙ take_put at n l part inside)
      ∙ ap (λ rest. take at l ++ rest)
      (drop-set-add at whole i v
      ∙ ap (λ rest. set rest i v) (drop_at (take at l) (part ++ post_of at n l) at (length-take-le at l inside))
      ∙ set-append_left part (post_of at n l) i v small))

  -- a run of stores in a part is that run in the whole, at the part's address
  sets_in_part : (vs part : List A) (i : ℕ) → i + length vs ≤ length part → put_mid at n l (sets part i vs) ≡ sets (put_mid at n l part) (at + i) vs
  sets_in_part [] part i fits = refl
  sets_in_part (v ∷ vs) part i fits =
      sets_in_part vs (set part i v) (suc i) (rw length-set (omega arith))
      ∙ ap (λ k. sets (put_mid at n l (set part i v)) k vs) (add-suc at i)
      ∙ ap (λ whole. sets whole (suc (at + i)) vs) (set_in_part part i v (omega arith))

  -- two runs of stores in the part that was lent
  pub two_in_part : (us vs : List A) (i j : ℕ) → i + length us ≤ length (mid_of at n l) → j + length vs ≤ length (mid_of at n l)
      → put_mid at n l (sets (sets (mid_of at n l) i us) j vs) ≡ sets (sets l (at + i) us) (at + j) vs
  two_in_part us vs i j first second =
      sets_in_part vs (sets (mid_of at n l) i us) j (rw length-sets second)
      ∙ ap (λ whole. sets whole (at + j) vs) (sets_in_part us (mid_of at n l) i first ∙ ap (λ whole. sets whole (at + i) us) (put_same at n l))
