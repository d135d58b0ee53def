-- Laws of the survey for the first unbacked page.
use Rattle.std.specs.Prelude.{Ok}
use Prim.Native.Nat.{ℕ, zero, suc, ◌+◌, ◌≤◌, ◌<◌}
use native.Mathlib.Omega.{arith}
use mathlib.Core.Path.{◌≡◌, refl, ap}
use mathlib.Core.Bool.{Bool, true, false, ◌||◌}
use mathlib.Core.List.{List}
use borrow.Author.Tests.{ltb-true, ltb-false, le-ltb, eqb-true, eqb-false}
use lib.Dec.{eqb, ltb}
use Rattle.desk.specs.declared.Found.{Found}
use Rattle.desk.specs.declared.Found.TheVariants.{None, Page}
use Rattle.desk.specs.Reach.{page_valid}
use Rattle.desk.specs.Unbacked.{unbacked_from, unbacked_in, lowest, wrong_range}
use Rattle.desk.proofs.Tables.{never_both, true_or_false}
use Rattle.desk.proofs.Changes.{neither}
use Rattle.machine.specs.Refusals.{Answer}

-- the tests of the numbers from one up to another, each true; or the lowest number whose test is false

abbrev pub AllPass : (ℕ → Bool) → ℕ → ℕ → Type 0
AllPass test from to = (q : ℕ) → from ≤ q → q < to → test q ≡ true

pub record FirstFails (test : ℕ → Bool) (from to p : ℕ) : Type 0 where
  pub low : from ≤ p
  pub high : p < to
  pub fails : test p ≡ false
  pub passed : AllPass test from p

module _ (first d : ℕ) (s : List ℕ) where
  abbrev valid : ℕ → Bool
  valid q = page_valid d s (first + q)

  one_more : (page : ℕ) {to : ℕ} → valid page ≡ true → AllPass valid (page + 1) to → AllPass valid page to
  one_more page v all q low high =
      true_or_false _ (eqb q page)
      (λ e. rw (eqb-true q page e) v)
      (λ e. let other : q ≡ page → ⊥ = eqb-false q page e in all q (omega arith) high)

  -- what holds of none where every page is valid, and of the lowest one that is not, holds of the answer
  pub by_survey : (page n : ℕ) (P : Answer Found → Type 0) → (AllPass valid page (page + n) → P (Ok None))
      → ((p : ℕ) → FirstFails valid page (page + n) p → P (Ok (Page p))) → P (lowest (unbacked_from first d s page n))
  unfolding unbacked_from lowest
  by_survey page zero P none some = none λ q low high. absurd (omega arith)
  by_survey page (suc n) P none some =
      true_or_false _ (valid page)
      (λ v.
      let sum : page + 1 + n ≡ page + suc n = omega arith in
      rw v
      (by_survey (page + 1) n P (λ all. none (one_more page v (rw sum at all)))
      (λ p h. some p (record { low = omega (arith, h.low); high = omega (arith, h.high); fails = h.fails; passed = one_more page v h.passed }))))
      (λ v. rw v (some page (record { low = omega arith; high = omega arith; fails = v; passed = λ q low high. absurd (omega arith) })))

  module _ (from to : ℕ) (order : from ≤ to) where
    pub by_pages : (P : Answer Found → Type 0) → (AllPass valid from to → P (Ok None)) → ((p : ℕ) → FirstFails valid from to p → P (Ok (Page p)))
        → P (lowest (unbacked_in first d s from to))
    unfolding unbacked_in
    by_pages P none some =
        by_survey _ _ P (λ all. none (λ q low high. all q (omega arith) (omega arith)))
        (λ p h. some p (record { low = omega (arith, h.low); high = omega (arith, h.high); fails = h.fails; passed = λ q low high. h.passed q (omega arith) high }))

    pub survey_none : AllPass valid from to → lowest (unbacked_in first d s from to) ≡ (Ok None)
    survey_none all = by_pages (λ x. x ≡ (Ok None)) (λ _. refl) (λ p h. never_both (all p h.low h.high) h.fails)

    pub survey_page : (p : ℕ) → FirstFails valid from to p → lowest (unbacked_in first d s from to) ≡ Ok (Page p)
    survey_page p h =
        by_pages (λ x. x ≡ Ok (Page p)) (λ all. never_both (all p h.low h.high) h.fails)
        (λ q g. ap (λ r. Ok (Page r)) (true_or_false _ (ltb q p)
        (λ e. never_both (h.passed q g.low (ltb-true q p e)) g.fails)
        (λ e. true_or_false _ (ltb p q)
        (λ f. never_both (g.passed p h.low (ltb-true p q f)) h.fails)
        (λ f. let above : p ≤ q = ltb-false q p e in let below : q ≤ p = ltb-false p q f in omega arith))))

-- a survey goes by the tests of its pages
pub same_survey : (first d : ℕ) (s t : List ℕ) (page n : ℕ)
    → ((q : ℕ) → page ≤ q → q < page + n → page_valid d s (first + q) ≡ page_valid d t (first + q))
    → unbacked_from first d s page n ≡ unbacked_from first d t page n
unfolding unbacked_from
same_survey first d s t page zero same = refl
same_survey first d s t page (suc n) same =
    rw (same page (omega arith) (omega arith), same_survey first d s t (page + 1) n (λ q low high. same q (omega arith) (omega arith)))

pub same_pages : (first d : ℕ) (s t : List ℕ) (from to : ℕ) → from ≤ to
    → ((q : ℕ) → from ≤ q → q < to → page_valid d s (first + q) ≡ page_valid d t (first + q)) → unbacked_in first d s from to ≡ unbacked_in first d t from to
unfolding unbacked_in
same_pages first d s t from to order same = same_survey first d s t _ _ λ q low high. same q (omega arith) (omega arith)

-- the range that is asked about

neither_true : {a b : Bool} → a ≡ false → b ≡ false → (a || b) ≡ false
neither_true e f = rw (e, f)

module _ (pages from to : ℕ) where
  pub right_range : from ≤ to → to ≤ pages → wrong_range pages from to ≡ false
  unfolding wrong_range
  right_range order inside = neither_true (le-ltb to from order) (le-ltb pages to inside)

  pub range_of_right : wrong_range pages from to ≡ false → (from ≤ to) × (to ≤ pages)
  unfolding wrong_range
  range_of_right right = let (low, high) = neither (ltb to from) _ right in (ltb-false to from low, ltb-false pages to high)
