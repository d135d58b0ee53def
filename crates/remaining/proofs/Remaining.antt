-- What is left of a run, unit by unit.
-- Assumes nothing.
use Prim.Native.Nat.{ℕ, suc, ◌+◌, ◌-◌, ◌≤◌}
use native.Mathlib.Omega.{arith}
use mathlib.Core.Path.{◌≡◌, refl, ap, ◌∙◌}
use Rattle.machine.specs.declared.End.{End}
use Rattle.machine.specs.declared.End.TheVariants.{BudgetUsed}
use Rattle.machine.specs.declared.Numbers.{Numbers}
use Rattle.machine.specs.Run.{Machine, goes, ends, step, Ended, counted, onward, run}
use Rattle.machine.proofs.Runs.{more}
use Rattle.remaining.specs.Remaining.{Remains}

-- units counted on top of others
more_more : (u v w : ℕ) (e : Ended) → u + v ≡ w → more u (more v e) ≡ more w e
more_more u v w e sum = λ i. record { end = e.end; units = (add e.units ∙ ap (λ k. k + e.units) sum) i; machine = e.machine }
  where
    add : (k : ℕ) → u + (v + k) ≡ u + v + k
    add k = omega arith

counted_more : (e : Ended) → counted e ≡ more 1 e
unfolding counted
counted_more e = λ i. record { end = e.end; units = one e.units i; machine = e.machine }
  where
    one : (k : ℕ) → suc k ≡ 1 + k
    one k = omega arith

-- units behind the units before them
pub units_more : (n : Numbers) (budget : ℕ) (start here there : Machine) (units others : ℕ) → Remains n budget start units here
    → Remains n (budget - units) here others there → Remains n budget start (units + others) there
units_more n budget start here there units others before after =
    before
    ∙ ap (more units) after
    ∙ more_more units others (units + others) (run (budget - units - others) n there) refl
    ∙ ap (λ b. more (units + others) (run b n there)) left
  where
    left : budget - units - others ≡ budget - (units + others)
    left = omega arith

module _ (n : Numbers) (budget : ℕ) (start : Machine) where
  module _ (units : ℕ) (here : Machine) (remains : Remains n budget start units here) where
    -- the budget is used
    pub budget_ends : units ≤ budget → budget ≤ units → run budget n start ≡ record { end = BudgetUsed; units = units; machine = here }
    unfolding run
    budget_ends within used = remains ∙ ap (λ b. more units (run b n here)) none ∙ (λ i. record { end = BudgetUsed; units = all i; machine = here })
      where
        none : budget - units ≡ 0
        none = omega arith

        all : units + 0 ≡ units
        all = omega arith

    module _ (left : suc units ≤ budget) where
      one_left : run (budget - units) n here ≡ onward (run (budget - suc units) n) (step n here)
      unfolding run
      one_left = ap (λ b. run b n here) fewer
        where
          fewer : budget - units ≡ suc (budget - suc units)
          fewer = omega arith

      -- a completed unit
      pub one_more : {next : Machine} → step n here ≡ goes next → Remains n budget start (units + 1) next
      unfolding onward
      one_more {next} goes_on =
          remains
          ∙ ap (more units) (one_left ∙ ap (onward (run (budget - suc units) n)) goes_on ∙ counted_more (run (budget - suc units) n next))
          ∙ more_more units 1 (units + 1) (run (budget - suc units) n next) refl
          ∙ ap (λ b. more (units + 1) (run b n next)) fewer
        where
          fewer : budget - suc units ≡ budget - (units + 1)
          fewer = omega arith

      -- an exit
      pub exit_ends : {why : End} {last : Machine} → step n here ≡ ends why last → run budget n start ≡ record { end = why; units = units; machine = last }
      unfolding onward
      exit_ends {why} {last} stops =
          remains
          ∙ ap (more units) (one_left ∙ ap (onward (run (budget - suc units) n)) stops)
          ∙ (λ i. record { end = why; units = all i; machine = last })
        where
          all : units + 0 ≡ units
          all = omega arith
