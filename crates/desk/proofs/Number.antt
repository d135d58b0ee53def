-- The number of valid pages stays true over every call.
use Rattle.std.specs.Prelude.{Ok}
use Prim.Native.Nat.{ℕ, zero, suc, ◌+◌, ◌^◌, ◌≤◌, ◌<◌}
use native.Mathlib.Omega.{arith}
use mathlib.Core.Path.{◌≡◌, sym, ◌∙◌}
use mathlib.Core.Bool.{Bool, true, false, cond}
use mathlib.Core.List.{List}
use mathlib.Core.Logic.{⊎_elim}
use borrow.Author.Tests.{eqb-true, eqb-false}
use lib.Dec.{eqb}
use Rattle.machine.specs.Record.{guest_of}
use Rattle.machine.specs.Entry.{entry_good}
use Rattle.machine.proofs.Entry.{entry-placed}
use Rattle.machine.proofs.Tests.{on_either_arm}
use Rattle.desk.specs.declared.Change.{Change}
use Rattle.desk.specs.declared.Change.TheVariants.{Add, Remove, Protect}
use Rattle.desk.specs.declared.Called.TheVariants.{Done}
use Rattle.desk.specs.Reach.{page_valid}
use Rattle.desk.specs.Extent.{first_page, page_count, count_below, valid_pages}
use Rattle.desk.specs.Desk.{number_after, desk_of}
use Rattle.desk.specs.Theorems.{OfExtent, valid_in}
use Rattle.desk.proofs.Tables.{true_or_false}
use Rattle.desk.proofs.Extents.{same_count}
use Rattle.desk.proofs.Changes.{host_of, done_or_not, done_of, not_done}
use Rattle.desk.proofs.Pages.{calls_do_what_they_say}

-- no more numbers below a bound pass than there are
count_bound : (n : ℕ) (test : ℕ → Bool) → count_below n test ≤ n
unfolding count_below
count_bound zero test = omega arith
count_bound (suc n) test = let one : cond (test n) 1 0 ≤ 1 = on_either_arm (λ x. x ≤ 1) (test n) (omega arith) (omega arith) in omega (arith, count_bound n test)

-- tests that agree but at `p`, where the second alone passes: it counts one more
one_more : (n p : ℕ) (t u : ℕ → Bool) → p < n → ((q : ℕ) → q < n → (q ≡ p → ⊥) → t q ≡ u q) → t p ≡ false → u p ≡ true
    → count_below n u ≡ count_below n t + 1
unfolding count_below
one_more zero p t u h same off on = absurd (omega arith)
one_more (suc n) p t u h same off on =
    true_or_false _ (eqb p n)
    (λ e.
    let last : p ≡ n = eqb-true p n e in
    rw (← same_count n t u (λ q below. same q (omega arith) (omega arith)), ← last, off, on) (omega arith))
    (λ e.
    let other : p ≡ n → ⊥ = eqb-false p n e in
    rw (one_more n p t u (omega arith) (λ q below. same q (omega arith)) off on, same n (omega arith) (omega arith)) (omega arith))

module _ (r : List ℕ) (d : ℕ) (s k : List ℕ) (p number : ℕ) where
  -- how many of the guest's pages are valid
  abbrev valid : List ℕ → ℕ
  valid = valid_pages (first_page (guest_of r)) (page_count (guest_of r)) d

  few : entry_good (guest_of r) ≡ true → (t : List ℕ) → valid t ≤ 2 ^ 19
  unfolding valid_pages
  few good t = omega (arith, (entry-placed (guest_of r) good).sum, count_bound (page_count (guest_of r)) (λ q. page_valid d t (host_of r q)))

  -- the other pages are valid or not, as before
  others : (c : Change) → (desk_of c r d s k p number).answer ≡ (Ok Done) → (q : ℕ) → q < page_count (guest_of r) → (q ≡ p → ⊥)
      → page_valid d s (host_of r q) ≡ page_valid d (desk_of c r d s k p number).storage (host_of r q)
  others c done q below other = sym ((calls_do_what_they_say.others c r d s k p number done).valid q below other)

  after-done : (c : Change) → (desk_of c r d s k p number).answer ≡ (Ok Done) → number ≡ valid s → (desk_of c r d s k p number).number ≡ valid (desk_of c r d s k p number).storage
  unfolding valid_pages number_after
  after-done (Add frame) done e =
      let h = done_of (Add frame) r d s k p number done in
      let says = calls_do_what_they_say.adding frame r d s k p number done in
      let more = one_more (page_count (guest_of r)) p _ _ h.inside (others (Add frame) done) says.0 says.1.0 in
      h.counted ∙ omega (arith, few h.good s, more)
  after-done Remove done e =
      let h = done_of Remove r d s k p number done in
      let says = calls_do_what_they_say.removing r d s k p number done in
      let less = one_more (page_count (guest_of r)) p _ _ h.inside (λ q below other. sym (others Remove done q below other)) says.1.0 says.0 in
      h.counted ∙ omega (arith, few h.good s, less)
  after-done Protect done e =
      let says = calls_do_what_they_say.protecting r d s k p number done in
      (done_of Protect r d s k p number done).counted
      ∙ e
      ∙ same_count (page_count (guest_of r)) _ _ λ q below.
      true_or_false _ (eqb q p)
      (λ here. rw (eqb-true q p here) (says.0 ∙ sym says.1.0))
      (λ other. others Protect done q below (eqb-false q p other))

-- whatever the answer
pub number-over_calls : (origin extent : ℕ) (c : Change) (r : List ℕ) (d : ℕ) (s k : List ℕ) (p number : ℕ) → OfExtent origin extent r
    → number ≡ valid_in origin extent d s → (desk_of c r d s k p number).number ≡ valid_in origin extent d (desk_of c r d s k p number).storage
number-over_calls origin extent c r d s k p number of =
    rw (← of.begins, ← of.counts)
    (⊎_elim (after-done r d s k p number c) (λ other e. let (stays, same) = not_done c r d s k p number other in rw (stays, same) e)
    (done_or_not (desk_of c r d s k p number).answer))
