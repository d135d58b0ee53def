-- What a run keeps: lengths, every byte of the record that no rule names, and the unit count within the budget.
-- Assumes nothing.
use Prim.Native.Nat.{ℕ, ◌+◌, ◌≤◌, ◌<◌}
use native.Mathlib.Omega.{arith}
use mathlib.Core.Path.{◌≡◌, refl, sym, ap, ◌∙◌}
use mathlib.Core.Bool.{Bool, true, false, false≢true}
use mathlib.Core.List.{List}
use mathlib.Core.Logic.{◌⊎◌, inl, inr, ⊎_elim}
use lib.ListN.{length}
use Rattle.machine.specs.declared.Cpu.{Cpu}
use Rattle.machine.specs.declared.End.{End}
use Rattle.machine.specs.declared.End.TheVariants.{Intercepted, BudgetUsed}
use Rattle.machine.specs.declared.Numbers.{Numbers}
use Rattle.machine.specs.declared.Reason.{Reason}
use Rattle.machine.specs.declared.Reason.TheVariants.{Validity}
use Rattle.machine.specs.Words.{byte_at}
use Rattle.machine.specs.Record.{long_length, psw_at, timer_at, results_at, control_at, request_at, residue_at, guest_of, with_cpu, with_results, residue_of, with_request, with_interval}
use Rattle.machine.specs.Interval.{active, period}
use Rattle.machine.specs.Refusals.{most_time}
use Rattle.machine.specs.Outcomes.{Effects, completed, intercepted}
use Rattle.machine.specs.Run.{Machine, unit_from, behind_of, marked_by, after_unit, after_interception, clears_t, answered, with_tick, with_word, Step, goes, ends, step, run}
use Rattle.machine.specs.Operations.{Result, result_of, machine_of, run_of}
use Rattle.machine.specs.Answers.{end_results, run_answer}
use Rattle.machine.specs.Theorems.{LengthsKept, BytesKept, MarksAreTheUnits, UnitsWithinBudget}
use Rattle.machine.proofs.Laws.{length-with_cpu, length-with_results, length-with_request, length-with_interval, byte_of-with_cpu, byte_of-with_results, byte_of-with_request, byte_of-with_interval, guest_of-bytes, guest_of-with_cpu, guest_of-with_results, length-end_results}
use Rattle.machine.proofs.Ticks.{Update, still, rises, fell, update_keeps, answered_same, requested_active, InRange, update_in_range, residue_of-with_cpu, residue_of-with_request, residue_of-with_results}
use Rattle.machine.proofs.Runs.{stored-length, marked_by-length, exit_keeps, step_cases, left_by_lem, run_keeps_steps, run_keeps, units_within, same_units, run_of_cases}
use Rattle.machine.proofs.Timer.{asked_for}

-- where the record of a machine has a property that with_cpu, with_results, with_interval and with_request keep, so has the record that a run
-- leaves
module _ (P : List ℕ → Type 0) (by_cpu : (c : Cpu) (r : List ℕ) → P r → P (with_cpu c r))
    (by-results : (e : End) (r : List ℕ) → P r → P (with_results (end_results e) r))
    (by-interval : (request residue : ℕ) (r : List ℕ) → P r → P (with_interval request residue r))
    (by_request : (request : ℕ) (r : List ℕ) → P r → P (with_request request r)) where
  pub description_keeps : (n : Numbers) (r storage keys : List ℕ) → P r → P (run_of n r storage keys).description
  unfolding result_of machine_of after_unit with_tick with_word
  description_keeps n r storage keys p =
      run_of_cases n r storage keys (λ (result : Result). P result.description) (λ number e. p)
      (λ e g. by-results _ _ (by-results BudgetUsed r p))
      (λ e g. by-results _ _
      (run_keeps n (λ (m : Machine). P m.description) (λ m c e q. by_cpu _ _ q) (λ request residue m q. by-interval request residue _ q)
      (λ behind at w m q. q) (exit_keeps P by_cpu by_request) n.budget _ (by-results BudgetUsed r p)))

storage_length : (n : Numbers) (r storage keys : List ℕ) → length (run_of n r storage keys).storage ≡ length storage
unfolding result_of machine_of after_unit answered after_interception with_tick with_word
storage_length n r storage keys =
    run_of_cases n r storage keys (λ (result : Result). length result.storage ≡ length storage) (λ number e. refl) (λ e g. refl)
    (λ e g. run_keeps n (λ (m : Machine). length m.storage ≡ length storage) (λ m c f q. stored-length (behind_of n m) f.stores _ ∙ q)
    (λ request residue m q. q) (λ behind at w m q. stored-length behind _ _ ∙ q) (λ reason m c q. q) n.budget _ refl)

keys_length : (n : Numbers) (r storage keys : List ℕ) → length (run_of n r storage keys).keys ≡ length keys
unfolding result_of machine_of after_unit answered after_interception with_tick with_word
keys_length n r storage keys =
    run_of_cases n r storage keys (λ (result : Result). length result.keys ≡ length keys) (λ number e. refl) (λ e g. refl)
    (λ e g. run_keeps n (λ (m : Machine). length m.keys ≡ length keys) (λ m c f q. marked_by-length (behind_of n m) f _ ∙ q)
    (λ request residue m q. q) (λ behind at w m q. q) (λ reason m c q. q) n.budget _ refl)

pub lengths_kept : LengthsKept
lengths_kept = record {
  of_record =
      λ n r storage keys.
      description_keeps (λ (d : List ℕ). length d ≡ length r) (λ c d q. length-with_cpu c d ∙ q)
      (λ e d q. length-with_results (end_results e) d ∙ q)
      (λ request residue d q. length-with_interval request residue d ∙ q)
      (λ request d q. length-with_request request d ∙ q) n r storage keys refl;
  of_storage = storage_length;
  of_keys = keys_length;
}

-- a byte beside the CPU's fields, the results and the interval timer's fields
abbrev Beside : ℕ → Type 0
Beside i =
    (i < psw_at) ⊎ ((timer_at + 8 ≤ i) × (i < results_at)) ⊎ ((results_at + 14 ≤ i) × (i < control_at)) ⊎ ((request_at < i) × (i < residue_at))

-- it is kept by each of them
module _ (i : ℕ) (beside : Beside i) where
  by_place : {A : Type 0} → (i < psw_at → A) → ((timer_at + 8 ≤ i) × (i < results_at) → A) → ((results_at + 14 ≤ i) × (i < control_at) → A)
      → ((request_at < i) × (i < residue_at) → A) → A
  by_place low middle reserved high = ⊎_elim low (⊎_elim middle (⊎_elim reserved high)) beside

  beside_kept : (n : Numbers) (r storage keys : List ℕ) → byte_at (run_of n r storage keys).description i ≡ byte_at r i
  beside_kept n r storage keys =
      description_keeps (λ (d : List ℕ). byte_at d i ≡ byte_at r i)
      (λ c d q. byte_of-with_cpu c d i
      (by_place (λ b. inl b) (λ b. inr (inl (omega arith))) (λ b. inr (inl (omega arith))) (λ b. inr (inr (omega arith)))) ∙ q)
      (λ e d q. byte_of-with_results (end_results e) d i (length-end_results e)
      (by_place (λ b. inl (omega arith)) (λ b. inl (omega arith)) (λ b. inr (omega arith)) (λ b. inr (omega arith))) ∙ q)
      (λ request residue d q. byte_of-with_interval request residue d i
      (by_place (λ b. inl (omega arith)) (λ b. inl (omega arith)) (λ b. inl (omega arith)) inr) ∙ q)
      (λ request d q. byte_of-with_request request d i
      (by_place (λ b. inl (omega arith)) (λ b. inl (omega arith)) (λ b. inl (omega arith)) (λ b. inr b.0)) ∙ q)
      n r storage keys refl

-- where the interval timer is not active, the bytes from its fields on are kept
module _ (n : Numbers) (r : List ℕ) (off : active (guest_of r) ≡ false) (i : ℕ) (high : request_at ≤ i) where
  record Untimed (m : Machine) : Type 0 where
    guest : guest_of m.description ≡ guest_of r
    byte : byte_at m.description i ≡ byte_at r i

  -- and so the timer is not active later
  not_active : (m : Machine) → Untimed m → active (guest_of m.description) ≡ true → ⊥
  not_active m p on = false≢true (sym off ∙ ap active (sym p.guest) ∙ on)

  cpu_untimed : (c : Cpu) (m : Machine) → Untimed m → (k : Machine) → k.description ≡ with_cpu c m.description → Untimed k
  cpu_untimed c m p k e = record {
    guest = ap guest_of e ∙ guest_of-with_cpu c m.description ∙ p.guest;
    byte = ap (λ (d : List ℕ). byte_at d i) e ∙ byte_of-with_cpu c m.description i (inr (inr high)) ∙ p.byte;
  }

  step_untimed : (m : Machine) → Untimed m → Untimed (left_by_lem (step n m))
  unfolding after_unit after_interception
  step_untimed m p = step_cases n m (λ s. Untimed (left_by_lem s)) (λ c e is next. by_update c e) by_exit (λ f is. p) (λ f is. p)
    where
      by_update : (c : Cpu) (e : Effects) {next : Machine} → Update n m (after_unit n m c e) next → Untimed next
      by_update c e (still idle) = cpu_untimed _ m p _ refl
      by_update c e (rises on short) = absurd (not_active m p on)
      by_update c e (fell on full at reach) = absurd (not_active m p on)

      by_exit : (reason : Reason) (c : Cpu) → unit_from n m ≡ intercepted reason c → Untimed (answered reason (after_interception m c))
      by_exit reason c is = by_clearing (clears_t reason) refl
        where
          by_clearing : (b : Bool) → clears_t reason ≡ b → Untimed (answered reason (after_interception m c))
          by_clearing true clears = absurd (not_active m p (requested_active m.description (asked_for n m reason c is clears)))
          by_clearing false clears = rw (answered_same reason (after_interception m c) clears) (cpu_untimed _ m p _ refl)

  untimed_kept : (storage keys : List ℕ) → byte_at (run_of n r storage keys).description i ≡ byte_at r i
  unfolding result_of machine_of
  untimed_kept storage keys =
      run_of_cases n r storage keys (λ (result : Result). byte_at result.description i ≡ byte_at r i) (λ number e. refl)
      (λ e g. beside_results _ _ ∙ beside_results BudgetUsed r)
      (λ e g. beside_results _ _ ∙ (run_keeps_steps n Untimed step_untimed n.budget _ start).byte)
    where
      beside_results : (e : End) (d : List ℕ) → byte_at (with_results (end_results e) d) i ≡ byte_at d i
      beside_results e d = byte_of-with_results (end_results e) d i (length-end_results e) (inr (omega arith))

      start : Untimed (machine_of n r storage keys)
      start = record { guest = guest_of-with_results _ r; byte = beside_results BudgetUsed r }

pub bytes_kept : BytesKept
bytes_kept n r storage keys i =
    ⊎_elim (λ b. beside_kept i (inl b) n r storage keys)
    (⊎_elim (λ b. beside_kept i (inr (inl b)) n r storage keys)
    (⊎_elim (λ b. beside_kept i (inr (inr (inl b))) n r storage keys)
    (⊎_elim (λ b. beside_kept i (inr (inr (inr b))) n r storage keys) (λ b. untimed_kept n r b.0 i b.1 storage keys))))

-- a run keeps the guest
pub guest_left : (n : Numbers) (r storage keys : List ℕ) → guest_of (run_of n r storage keys).description ≡ guest_of r
guest_left n r storage keys =
    guest_of-bytes _ r (λ i l h. bytes_kept n r storage keys i (inl h)) (λ i l h. bytes_kept n r storage keys i (inr (inl (omega arith))))

-- a run leaves a residue in range where it found one
module _ (n : Numbers) (short : n.time ≤ most_time) where
  unit_in_range : (m : Machine) → InRange m → (c : Cpu) (e : Effects) → InRange (after_unit n m c e)
  unfolding after_unit
  unit_in_range m p c e = record {
    long = length-with_cpu _ m.description ∙ p.long;
    range = rw residue_of-with_cpu p.range;
  }

  exit_in_range : (m : Machine) → InRange m → (reason : Reason) (c : Cpu) → InRange (answered reason (after_interception m c))
  exit_in_range m p reason c = record {
    long =
        exit_keeps (λ (d : List ℕ). length d ≡ long_length) (λ c d h. length-with_cpu c d ∙ h)
        (λ q d h. length-with_request q d ∙ h) reason m c p.long;
    range =
        exit_keeps (λ (d : List ℕ). residue_of d < period) (λ c d h. rw (residue_of-with_cpu c d) h)
        (λ q d h. rw (residue_of-with_request q d) h) reason m c
        p.range;
  }

  pub step_in_range : (m : Machine) → InRange m → InRange (left_by_lem (step n m))
  step_in_range m p =
      step_cases n m (λ s. InRange (left_by_lem s)) (λ c e is next u. update_in_range n m _ short p (unit_in_range m p c e) u)
      (λ reason c is. exit_in_range m p reason c) (λ f is. p) (λ f is. p)

  pub run_in_range : (b : ℕ) (m : Machine) → InRange m → InRange (run b n m).machine
  run_in_range b m p = run_keeps_steps n InRange step_in_range b m p

  pub residue_in_range : (r storage keys : List ℕ) → length r ≡ long_length → residue_of r < period
      → residue_of (run_of n r storage keys).description < period
  unfolding result_of machine_of
  residue_in_range r storage keys long range =
      run_of_cases n r storage keys (λ (result : Result). residue_of result.description < period) (λ number e. range)
      (λ e g. rw (residue_of-with_results (Intercepted Validity) _) start.range)
      (λ e g.
      rw (residue_of-with_results (run n.budget n (machine_of n r storage keys)).end _) (run_in_range n.budget _ start).range)
    where
      start : InRange (machine_of n r storage keys)
      start = record { long = length-with_results _ r ∙ long; range = rw (residue_of-with_results BudgetUsed r) range }

pub marks_are_the_units : MarksAreTheUnits
unfolding after_unit with_tick with_word
marks_are_the_units n m next c e is goes_on =
    rw goes_on at
    (step_cases n m Marked
    (λ c' e' is' next u. update_keeps n m _ (λ (k : Machine). Marked (goes k)) (λ q w k h. h) (λ at w k h. h) (by_effects c' e' is') u)
    (λ r c is. tt) (λ f is. tt) (λ f is. tt))
  where
    Marked : Step → Type 0
    Marked (goes k) = k.keys ≡ marked_by (behind_of n m) e m.keys
    Marked (ends end k) = Unit {0}

    by_effects : (c' : Cpu) (e' : Effects) → unit_from n m ≡ completed c' e'
        → marked_by (behind_of n m) e' m.keys ≡ marked_by (behind_of n m) e m.keys
    by_effects c' e' is' = let same : e' ≡ e = cc in ap (λ (x : Effects). marked_by (behind_of n m) x m.keys) same

pub units_within_budget : UnitsWithinBudget
unfolding result_of
units_within_budget n r storage keys end units =
    run_of_cases n r storage keys (λ (result : Result). result.answer ≡ run_answer end units → units ≤ n.budget) (λ number e a. let z : ◌≡◌ {A = ℕ} 0 1 = cc in omega arith)
    (λ e g a. let none : 0 ≡ units = same_units a in omega arith)
    (λ e g a. let same : (run n.budget n (machine_of n r storage keys)).units ≡ units = same_units a in omega (arith, units_within n.budget n (machine_of n r storage keys)))
