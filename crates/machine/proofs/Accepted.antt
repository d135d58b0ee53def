-- Good input is not refused; on a good entry a run with no budget and one with a stop request end differently.
-- Assumes nothing.
use Prim.Native.Nat.{ℕ, zero, suc, ◌*◌, ◌/◌, ◌%◌, ◌≤◌, ◌<◌}
use native.Mathlib.Omega.{arith}
use mathlib.Core.Path.{◌≡◌, refl, ap, ◌∙◌}
use mathlib.Core.Bool.{Bool, true, false, ◌&&◌, ◌||◌}
use mathlib.Core.List.{List}
use mathlib.Core.Logic.{⊎_elim}
use lib.Dec.{eqb, leb}
use lib.ListN.{length}
use borrow.Author.Tests.{eqb-true, eq-eqb, ne_eqb, le-ltb, lt-leb}
use Rattle.machine.specs.declared.End.TheVariants.{Intercepted}
use Rattle.machine.specs.declared.Numbers.{Numbers}
use Rattle.machine.specs.declared.Reason.TheVariants.{Stop}
use Rattle.machine.specs.Words.{byte_at}
use Rattle.machine.specs.Record.{long_length, version_for, guest_of, residue_of}
use Rattle.machine.specs.Interval.{period}
use Rattle.machine.specs.Sizes.{frame_bytes}
use Rattle.machine.specs.Refusals.{most_frames, most_units, most_time, wrong_length, wrong_version, wrong_storage, wrong_keys, wrong_budget, wrong_time, used, wrong_interval, reserved_used, wrong_access, check_verdict, translate_verdict, run_verdict}
use Rattle.machine.specs.Units.{stop_requested, unit}
use Rattle.machine.specs.Run.{Machine, unit_from, step_of, step, onward, run}
use Rattle.machine.specs.Operations.{result_of, machine_of, run_as, run_of}
use Rattle.machine.specs.Theorems.{GoodInput, GoodInputIsAccepted, BudgetAndStopDiffer}
use Rattle.machine.proofs.Laws.{guest_of-with_results}
use Rattle.machine.proofs.Verdicts.{unused}
use Rattle.machine.specs.Answers.{run_answer}

module _ (r storage keys : List ℕ) (good : GoodInput r storage keys) where
  length-good : wrong_length r ≡ false
  unfolding wrong_length
  length-good = rw good.length_field (⊎_elim (λ short. rw short) (λ long. rw long) good.long)

  version_good : wrong_version r ≡ false
  unfolding wrong_version
  version_good = rw (eq-eqb (byte_at r 2) (version_for (length r)) good.version)

  storage_good : wrong_storage storage ≡ false
  unfolding wrong_storage
  storage_good =
      rw (
        ne_eqb (length storage) 0 (omega (arith, good)),
        le-ltb (most_frames * frame_bytes) (length storage) (omega (arith, good)),
        eq-eqb (length storage % frame_bytes) 0 (omega (arith, good)),
      )

  keys-good : wrong_keys storage keys ≡ false
  unfolding wrong_keys
  keys-good = rw (eq-eqb (length keys) (length storage / frame_bytes) (omega (arith, good)))

  interval_good : wrong_interval r ≡ false
  unfolding wrong_interval
  interval_good = by_length (eqb (length r) long_length) refl
    where
      by_length : (b : Bool) → eqb (length r) long_length ≡ b → (b && (used r 201 3 || leb period (residue_of r))) ≡ false
      by_length true e =
          let long : length r ≡ long_length = eqb-true (length r) long_length e in
          rw (unused r 201 3 (good.reserved_too long), lt-leb period (residue_of r) (good.residue long))
      by_length false e = refl

  reserved_good : reserved_used r ≡ false
  unfolding reserved_used
  reserved_good = rw (unused r 66 6 good.reserved, interval_good)

  access-good : (kind : ℕ) → kind ≤ 2 → wrong_access kind ≡ false
  unfolding wrong_access
  access-good kind h = le-ltb 2 kind h

pub good_input_is_accepted : GoodInputIsAccepted
unfolding check_verdict translate_verdict run_verdict wrong_budget wrong_time
good_input_is_accepted = record {
  by_check = λ r s k good. rw (length-good r s k good, version_good r s k good, reserved_good r s k good);
  by_translate =
      λ r s k kind good h.
      rw (
        length-good r s k good,
        version_good r s k good,
        storage_good r s k good,
        keys-good r s k good,
        reserved_good r s k good,
        access-good r s k good kind h,
      );
  by_run =
      λ n r s k good b some t.
      rw (
        length-good r s k good,
        version_good r s k good,
        storage_good r s k good,
        keys-good r s k good,
        le-ltb most_units n.budget b,
        ne_eqb n.time 0 (omega arith),
        le-ltb most_time n.time t,
        reserved_good r s k good,
      );
}

-- with a stop request the first unit is an exit
stopped_at_once : (b : ℕ) (n : Numbers) (m : Machine) → 0 < b → stop_requested (guest_of m.description) ≡ true
    → (result_of n (run b n m)).answer ≡ run_answer (Intercepted Stop) 0
unfolding result_of run step step_of onward unit_from unit
stopped_at_once zero n m some stop = absurd (omega arith)
stopped_at_once (suc b) n m some stop = rw stop

pub budget_and_stop_differ : BudgetAndStopDiffer
unfolding run_of run_as machine_of result_of run
budget_and_stop_differ = record {
  no_budget = λ n r storage keys accepted good. rw (accepted, good);
  stopped =
      λ n r storage keys accepted good some stop.
      rw (accepted, good)
      (stopped_at_once n.budget n (machine_of n r storage keys) some (ap stop_requested (guest_of-with_results _ r) ∙ stop));
}
