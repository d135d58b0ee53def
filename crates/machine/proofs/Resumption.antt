-- RESUMPTION: a run that is cut at any unit and resumed is the uncut run. A host fault leaves what the completed units left.
-- Assumes nothing.
use Prim.Native.Nat.{ℕ, zero, suc, ◌+◌, ◌*◌, ◌%◌, ◌^◌, ◌≤◌, ◌<◌}
use native.Mathlib.Omega.{arith}
use mathlib.Core.Path.{◌≡◌, refl, ap, sym, ◌∙◌}
use borrow.Author.Tests.{lt-leb}
use mathlib.Core.Bool.{true}
use mathlib.Core.List.{List}
use mathlib.Core.Logic.{inl, inr}
use Rattle.machine.specs.declared.Cpu.{Cpu}
use Rattle.machine.specs.declared.End.{End}
use Rattle.machine.specs.declared.End.TheVariants.{Intercepted, HostFault, BudgetUsed}
use Rattle.machine.specs.declared.Reason.TheVariants.{Validity}
use Rattle.machine.specs.declared.Failure.{Failure}
use Rattle.machine.specs.declared.Numbers.{Numbers}
use Rattle.machine.specs.Record.{guest_of, with_cpu, with_results, residue_of, with_request, with_interval}
use Rattle.machine.specs.Interval.{period}
use Rattle.machine.specs.Refusals.{most_units, most_time, run_verdict, no_refusal}
use Rattle.machine.specs.Entry.{entry_good}
use Rattle.machine.specs.Time.{clock_after}
use Rattle.machine.specs.Outcomes.{Outcome, completed, intercepted, faulted}
use Rattle.machine.specs.Run.{Machine, Ended as Run, host_of, unit_from, behind_of, after_unit, with_tick, with_word, word_accesses, word_in, residue_from, risen_to, fallen_to, ticked, Step, goes, ends, step_of, step, counted, onward, run}
use Rattle.machine.specs.Operations.{Result, result_of, machine_of, run_as, run_of}
use Rattle.machine.specs.Answers.{end_results, run_answer}
use Rattle.machine.specs.Theorems.{with_budget, resumed_with, resumed_from, Resumption, HostFaultUndoesItsUnit}
use Rattle.machine.proofs.Laws.{length-end_results, with_results-with_cpu, with_results-with_results, with_results-with_request, with_results-with_interval}
use Rattle.machine.proofs.Verdicts.{accepted_budget, accepted_time, accepted-residue, SameInterval, verdict_of_same, verdict_of_budget}
use Rattle.machine.proofs.Ticks.{update_keeps}
use Rattle.machine.proofs.Runs.{exit_keeps, step_cases, run_keeps, units_within, continued, run-add, same_end, same_units, run_of_cases}
use Rattle.machine.proofs.Kept.{lengths_kept, bytes_kept, guest_left, residue_in_range}

-- a run goes by designation and time alone, beside its machine and its budget
abbrev renumbered : Numbers → ℕ → ℕ → Numbers
renumbered n clock budget = record { designation = n.designation; clock = clock; time = n.time; budget = budget }

step_renumbered : (n : Numbers) (clock budget : ℕ) (m : Machine) → step (renumbered n clock budget) m ≡ step n m
unfolding step step_of unit_from host_of behind_of after_unit ticked word_accesses word_in residue_from risen_to fallen_to
step_renumbered n clock budget m = by_outcome (unit_from n m)
  where
    by_outcome : (o : Outcome) → step_of (renumbered n clock budget) m o ≡ step_of n m o
    by_outcome (completed c e) = refl
    by_outcome (intercepted r c) = refl
    by_outcome (faulted f) = refl

run_renumbered : (k : ℕ) (n : Numbers) (clock budget : ℕ) (m : Machine) → run k (renumbered n clock budget) m ≡ run k n m
unfolding run onward
run_renumbered zero n clock budget m = refl
run_renumbered (suc k) n clock budget m =
    rw (step_renumbered n clock budget m) (by_step (λ next. run_renumbered k n clock budget next) (step n m))
  where
    by_step : ((next : Machine) → run k (renumbered n clock budget) next ≡ run k n next) → (s : Step)
        → onward (run k (renumbered n clock budget)) s ≡ onward (run k n) s
    by_step later (goes next) = ap counted (later next)
    by_step later (ends e next) = refl

-- a completed unit advances the clock; no step ends a run as budget used
abbrev pub Clocked : Numbers → Machine → Step → Type 0
Clocked n m (goes next) = next.clock ≡ (m.clock + n.time) % 2 ^ 64
Clocked n m (ends e next) = e ≡ BudgetUsed → ⊥

pub step_clocked : (n : Numbers) (m : Machine) → Clocked n m (step n m)
unfolding after_unit clock_after with_tick with_word
step_clocked n m =
    step_cases n m (Clocked n m) (λ c e is next u. update_keeps n m _ (λ k. Clocked n m (goes k)) (λ q r k h. h) (λ at w k h. h) refl u)
    (λ r c is e. let z : ◌≡◌ {A = ℕ} 0 1 = cc in omega arith) (λ f is e. let z : ◌≡◌ {A = ℕ} 0 1 = cc in omega arith)
    (λ f is e. let z : ◌≡◌ {A = ℕ} 0 1 = cc in omega arith)

-- a run that used its budget completed all its units, and the clock advanced by as many times
pub budget_used : (a : ℕ) (n : Numbers) (m : Machine) → m.clock < 2 ^ 64 → (run a n m).end ≡ BudgetUsed
    → (run a n m).machine.clock ≡ (m.clock + a * n.time) % 2 ^ 64
unfolding run onward counted
budget_used zero n m small e = omega arith
budget_used (suc a) n m small e = by_step (λ next s e'. budget_used a n next s e') (step n m) (step_clocked n m) e
  where
    by_step : ((next : Machine) → next.clock < 2 ^ 64 → (run a n next).end ≡ BudgetUsed
        → (run a n next).machine.clock ≡ (next.clock + a * n.time) % 2 ^ 64)
        → (s : Step) → Clocked n m s → (onward (run a n) s).end ≡ BudgetUsed
        → (onward (run a n) s).machine.clock ≡ (m.clock + suc a * n.time) % 2 ^ 64
    by_step later (goes next) clocked e = later next (omega arith) e ∙ omega arith
    by_step later (ends end next) other e = absurd (other e)

-- bytes 52-65 are zero, as a run that is not refused clears them
abbrev Cleared : Machine → Type 0
Cleared m = with_results (end_results BudgetUsed) m.description ≡ m.description

run-cleared : (a : ℕ) (n : Numbers) (m : Machine) → Cleared m → Cleared (run a n m).machine
unfolding after_unit with_tick with_word
run-cleared a n m p =
    run_keeps n Cleared
    (λ m' c e q. by_cpu _ _ q)
    (λ request residue m' q.
    with_results-with_interval _ request residue _ (length-end_results BudgetUsed) ∙ ap (with_interval request residue) q)
    (λ behind at w m' q. q)
    (exit_keeps (λ d. with_results (end_results BudgetUsed) d ≡ d) by_cpu
    λ request r q. with_results-with_request _ request r (length-end_results BudgetUsed) ∙ ap (with_request request) q)
    a m p
  where
    by_cpu : (c : Cpu) (r : List ℕ) → with_results (end_results BudgetUsed) r ≡ r
        → with_results (end_results BudgetUsed) (with_cpu c r) ≡ with_cpu c r
    by_cpu c r q = with_results-with_cpu _ c r (length-end_results BudgetUsed) ∙ ap (with_cpu c) q

start-cleared : (n : Numbers) (r storage keys : List ℕ) → Cleared (machine_of n r storage keys)
unfolding machine_of
start-cleared n r storage keys = with_results-with_results _ _ r refl

-- a run that is accepted and has a good entry
run_of_budget : (n : Numbers) (a : ℕ) (r storage keys : List ℕ) → run_verdict (with_budget n a) r storage keys ≡ no_refusal → entry_good (guest_of r) ≡ true
    → run_of (with_budget n a) r storage keys ≡ result_of n (run a n (machine_of n r storage keys))
unfolding run_of run_as machine_of result_of
run_of_budget n a r storage keys accepted good = rw (accepted, good) (ap (result_of n) (run_renumbered a n _ a _))

module _ (n : Numbers) (a b : ℕ) (r storage keys : List ℕ) (small : n.clock < 2 ^ 64) (limit : a + b ≤ most_units)
    (accepted : run_verdict (with_budget n a) r storage keys ≡ no_refusal) (good : entry_good (guest_of r) ≡ true) where
  start : Machine
  start = machine_of n r storage keys

  first : Result
  first = run_of (with_budget n a) r storage keys

  first_run : first ≡ result_of n (run a n start)
  unfolding first start
  first_run = run_of_budget n a r storage keys accepted good

  accepted_again : run_verdict (resumed_with n a b) first.description first.storage first.keys ≡ no_refusal
  unfolding first
  accepted_again =
      verdict_of_same (resumed_with n a b) (with_budget n a) _ r _ storage _ keys (lengths_kept.of_record (with_budget n a) r storage keys)
      (λ i l h. bytes_kept (with_budget n a) r storage keys i (inl (omega arith)))
      (λ i l h. bytes_kept (with_budget n a) r storage keys i (inr (inr (inl (omega arith)))))
      same_interval
      (lengths_kept.of_storage (with_budget n a) r storage keys)
      (lengths_kept.of_keys (with_budget n a) r storage keys)
      refl
      (omega arith)
      (omega arith)
      ∙ accepted
    where
      same_interval : SameInterval first.description r
      same_interval = record {
        reserved = λ i l h. bytes_kept (with_budget n a) r storage keys i (inr (inr (inr (inl (omega arith)))));
        residues =
            λ long.
            let before : residue_of r < period = accepted-residue (with_budget n a) r storage keys accepted long in
            let short : n.time ≤ most_time = accepted_time (with_budget n a) r storage keys accepted in
            let after : residue_of first.description < period = residue_in_range (with_budget n a) short r storage keys long before in
            lt-leb period (residue_of first.description) after ∙ sym (lt-leb period (residue_of r) before);
      }

  good_again : entry_good (guest_of first.description) ≡ true
  unfolding first
  good_again =
      ap entry_good (guest_left (with_budget n a) r storage keys) ∙ good

  -- the resumed run starts from the machine that the first reached, where that used its budget
  second_start : (run a n start).end ≡ BudgetUsed
      → machine_of (resumed_with n a b) first.description first.storage first.keys ≡ (run a n start).machine
  unfolding machine_of result_of start
  second_start used =
      λ i. record {
        description = described i;
        clock = sym (budget_used a n start small used) i;
        storage = (first_run i).storage;
        keys = (first_run i).keys;
      }
    where
      reached : Machine
      reached = (run a n start).machine

      cleared : Cleared reached
      cleared = run-cleared a n start (start-cleared n r storage keys)

      described : with_results (end_results BudgetUsed) first.description ≡ reached.description
      described =
          ap (λ (result : Result). with_results (end_results BudgetUsed) result.description) first_run
          ∙ rw used (ap (with_results (end_results BudgetUsed)) cleared ∙ cleared)

  -- a run of budget b from what the first left, where that used its budget
  second_run : (run a n start).end ≡ BudgetUsed
      → run_of (resumed_with n a b) first.description first.storage first.keys ≡ result_of n (run b n (run a n start).machine)
  unfolding run_of run_as result_of
  second_run used =
      rw (accepted_again, good_again) (ap (result_of n) (run_renumbered b n _ b _ ∙ ap (run b n) (second_start used)))

  -- the whole run, accepted and with a good entry
  resumed_run : result_of n (run (a + b) n start) ≡ resumed_from n a b first first.answer
  unfolding result_of
  resumed_run =
      ap (result_of n) (run-add a b n start) ∙ by_end (run a n start).end refl
      ∙ ap (resumed_from n a b first) (sym (ap (λ (result : Result). result.answer) first_run))
    where
      same_end : (e : End) → (run a n start).end ≡ e → result_of n (record { end = e; units = (run a n start).units; machine = (run a n start).machine }) ≡ first
      same_end e is =
          ap (λ (x : End). result_of n (record { end = x; units = (run a n start).units; machine = (run a n start).machine })) (sym is) ∙ sym first_run

      by_end : (e : End) → (run a n start).end ≡ e
          → result_of n (continued b n (run a n start).machine (run a n start).units e) ≡ resumed_from n a b first (run_answer e (run a n start).units)
      by_end (Intercepted reason) is = same_end (Intercepted reason) is
      by_end (HostFault f) is = same_end (HostFault f) is
      by_end BudgetUsed is = rw (second_run is)

pub resumption : Resumption
unfolding run_of run_as machine_of result_of start first
resumption n a b r storage keys small limit =
    run_of_cases (with_budget n (a + b)) r storage keys
    (λ (result : Result). result ≡ resumed_from n a b (run_of (with_budget n a) r storage keys) (run_of (with_budget n a) r storage keys).answer)
    (λ number e. rw (same_verdict ∙ e))
    (λ e g. rw (same_verdict ∙ e, g))
    (λ e g. ap (result_of n) (run_renumbered (a + b) n _ (a + b) _) ∙ resumed_run n a b r storage keys small limit (same_verdict ∙ e) g)
  where
    same_verdict : run_verdict (with_budget n a) r storage keys ≡ run_verdict (with_budget n (a + b)) r storage keys
    same_verdict = verdict_of_budget n a (a + b) r storage keys (omega arith) limit

-- the run of just the units that were completed before a host fault uses its budget, and reaches the same machine
before_fault : (b : ℕ) (n : Numbers) (m : Machine) (f : Failure) → (run b n m).end ≡ HostFault f
    → run (run b n m).units n m ≡ record { end = BudgetUsed; units = (run b n m).units; machine = (run b n m).machine }
unfolding run onward counted
before_fault zero n m f e = cc
before_fault (suc b) n m f e =
    step_cases n m Cut (λ c x is next u same ended. rw same (ap counted (before_fault b n next f ended))) (λ r c is same ended. cc)
    (λ f' is same ended. refl)
    (λ f' is same ended. refl) refl e
  where
    Cut : Step → Type 0
    Cut s = step n m ≡ s → (onward (run b n) s).end ≡ HostFault f
        → run (onward (run b n) s).units n m
        ≡ record { end = BudgetUsed; units = (onward (run b n) s).units; machine = (onward (run b n) s).machine }

pub host_fault_undoes_its_unit : HostFaultUndoesItsUnit
unfolding result_of end_results
host_fault_undoes_its_unit n r storage keys f units =
    run_of_cases n r storage keys
    (λ (result : Result). result.answer ≡ run_answer (HostFault f) units
    → (result.description ≡ (run_of (with_budget n units) r storage keys).description)
    × (result.storage ≡ (run_of (with_budget n units) r storage keys).storage)
    × (result.keys ≡ (run_of (with_budget n units) r storage keys).keys))
    (λ number e a. (cc, cc, cc))
    (λ e g a. let ends : ◌≡◌ {A = End} (Intercepted Validity) (HostFault f) = same_end a in (cc, cc, cc))
    λ e g a.
    let fault : whole.end ≡ HostFault f = same_end a in
    let same : units ≡ whole.units = sym (same_units a) in
    rw (same, cut e g fault, fault) (refl, refl, refl)
  where
    whole : Run
    whole = run n.budget n (machine_of n r storage keys)

    cut : run_verdict n r storage keys ≡ no_refusal → entry_good (guest_of r) ≡ true → whole.end ≡ HostFault f
        → run_of (with_budget n whole.units) r storage keys ≡ result_of n (record { end = BudgetUsed; units = whole.units; machine = whole.machine })
    cut e g fault =
        run_of_budget n whole.units r storage keys
        (verdict_of_budget n whole.units n.budget r storage keys
        (omega (arith, units_within n.budget n (machine_of n r storage keys), accepted_budget n r storage keys e))
        (accepted_budget n r storage keys e)
        ∙ e)
        g
        ∙ ap (result_of n) (before_fault n.budget n _ f fault)
