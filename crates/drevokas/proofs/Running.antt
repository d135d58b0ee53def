-- The run operation from the run in hand: the record that is left, and the answer.
-- Assumes nothing.
use Rattle.std.specs.Prelude.{Err}
use Prim.Native.Nat.{ℕ, ◌≤◌, ◌<◌}
use native.Mathlib.Omega.{arith}
use mathlib.Core.Path.{◌≡◌, refl, ap, sym, subst, ◌∙◌}
use mathlib.Core.Bool.{Bool, true, false, cond, not, ◌&&◌, false≢true}
use mathlib.Core.List.{List}
use lib.Dec.{eqb}
use lib.ListN.{length}
use lib.Seq.{set-get_or}
use borrow.Author.Tests.{eq-eqb, eqb-true}
use Rattle.machine.specs.declared.Cpu.{Cpu}
use Rattle.machine.specs.declared.End.{End}
use Rattle.machine.specs.declared.End.TheVariants.{Intercepted, BudgetUsed}
use Rattle.machine.specs.declared.Guest.{Guest}
use Rattle.machine.specs.declared.Numbers.{Numbers}
use Rattle.machine.specs.declared.Reason.TheVariants.{Validity}
use Rattle.machine.specs.declared.Refusal.{Refusal}
use Rattle.machine.specs.declared.Sought.{Sought}
use Rattle.machine.specs.Words.{bit, byte_at, words_at, words_bytes}
use Rattle.machine.specs.Record.{record_length, long_length, system370_mode, request_at, residue_at, guest_of, psw_of, cpu_of, with_cpu, with_results, request_of, residue_of, with_request, with_interval}
use Rattle.machine.specs.Interval.{active, period}
use Rattle.machine.specs.Refusals.{frames_of, wrong_length, wrong_version, wrong_storage, wrong_keys, run_verdict, RunAnswer, Verdict, no_refusal}
use Rattle.machine.specs.Entry.{entry_good}
use Rattle.machine.specs.Answers.{end_results, run_answer}
use Rattle.machine.specs.Run.{run}
use Rattle.machine.specs.Operations.{result_of, machine_of, run_as, run_of}
use Rattle.machine.proofs.Laws.{good_length, length-with_results, guest_of-with_results, length-end_results, with_results-with_cpu, with_results-with_results, with_results-with_interval}
use Rattle.machine.proofs.Runs.{run_of_cases}
use Rattle.machine.proofs.Words.{sets_words_same}
use Rattle.machine.proofs.Entry.{entry_version}
use Rattle.machine.proofs.Verdicts.{accepted_test, keys_of_right, accepted-length, accepted_version, accepted-residue}
use Rattle.laws.proofs.Lens.{with_cpu-cpu_of}
use Rattle.entry.proofs.Parts.{long_record}
use Rattle.remaining.specs.Remaining.{plain_at, record_at, machine_at, OfGuest}
use Rattle.run.specs.declared.Ended.{Ended}
use Rattle.run.specs.Running.{Ends}
use Rattle.packing.specs.Packing.{packed_answer, place_after_run}
use Rattle.inspect.specs.Answering.{answer_sought}
use Rattle.drevokas.specs.Giving.{Starts, Gives, RunGives}

module _ (n : Numbers) (r storage keys : List ℕ) (accepted : run_verdict n r storage keys ≡ no_refusal) where
  pub run_length : record_length ≤ length r
  run_length = good_length r (accepted-length n r storage keys accepted)

  pub run_long : eqb (length r) long_length ≡ eqb (guest_of r).version 2
  run_long = long_record r (accepted_version n r storage keys accepted)

  pub run-keys : frames_of storage ≤ length keys
  unfolding run_verdict
  run-keys =
      let second = (accepted_test _ (wrong_length r) _ accepted).1 in
      let third = (accepted_test _ (wrong_version r) _ second).1 in
      let fourth = (accepted_test _ (wrong_storage storage) _ third).1 in
      omega (arith, keys_of_right storage keys (accepted_test _ (wrong_keys storage keys) _ fourth).0)

-- the PSW of the record has the architecture of its mode
pub start_architecture : (n : Numbers) (r storage keys : List ℕ) (g : Guest) → Starts n r storage keys g → (c : Cpu) → c ≡ cpu_of r
    → c.psw.system370 ≡ system370_mode g.mode
unfolding cpu_of psw_of guest_of
start_architecture n r storage keys g starts c same = ap (λ c. c.psw.system370) same ∙ ap (λ g. system370_mode g.mode) (sym starts.here)

-- the timer of a System/370 guest alone is active
active_mode : (g : Guest) → active g ≡ true → system370_mode g.mode ≡ true
unfolding active
active_mode g on = by_mode (system370_mode g.mode) (not (bit 8 7 g.mode)) on
  where
    by_mode : (b other : Bool) → (b && other) ≡ true → b ≡ true
    by_mode true other both = refl
    by_mode false other both = absurd (false≢true both)

-- a guest whose timer is active, and that entry lets through, has the longer record, of version 2
pub timed_length : (n : Numbers) (r storage keys : List ℕ) (g : Guest) → Starts n r storage keys g → active g ≡ true → length r ≡ long_length
timed_length n r storage keys g starts on =
    eqb-true (length r) long_length
    (run_long n r storage keys starts.accepted
    ∙ eq-eqb (guest_of r).version 2 (ap (λ g. g.version) (sym starts.here) ∙ entry_version g starts.good (active_mode g on)))

-- the residue is in its range, and zero where the timer is not active
pub residue-range : (n : Numbers) (r storage keys : List ℕ) (g : Guest) → Starts n r storage keys g → (b : Bool) → b ≡ active g → (x : ℕ)
    → (b ≡ true → x ≡ residue_of r) → (b ≡ false → x ≡ 0) → x < period
residue-range n r storage keys g starts true on x told none =
    rw (told refl) (accepted-residue n r storage keys starts.accepted (timed_length n r storage keys g starts (sym on)))
residue-range n r storage keys g starts false off x told none = omega (arith, none refl)

-- the interval timer's fields, put back as they were
with_interval_same : (r : List ℕ) → ((i : ℕ) → byte_at r i < 256) → with_interval (request_of r) (residue_of r) r ≡ r
unfolding with_interval with_request words_at words_bytes
with_interval_same r small = rw (set-get_or r request_at 0) (sets_words_same r small residue_at 1)

-- the record with bytes 52-65 cleared, as a run begins with it
abbrev cleared : List ℕ → List ℕ
cleared r = with_results (end_results BudgetUsed) r

module _ (n : Numbers) (r storage keys : List ℕ) where
  start_same : (c : Cpu) → c ≡ cpu_of r → ((i : ℕ) → byte_at r i < 256) → plain_at (cleared r) c n.clock storage keys ≡ machine_of n r storage keys
  unfolding machine_of
  start_same c same small = λ i. record {
    description =
        (ap (λ c. with_cpu c (cleared r)) same ∙ sym (with_results-with_cpu (end_results BudgetUsed) (cpu_of r) r (length-end_results BudgetUsed))
        ∙ ap cleared (with_cpu-cpu_of r small)) i;
    clock = n.clock;
    storage = storage;
    keys = keys;
  }

  -- entry lets the guest through: what the definition's run leaves
  gives_ended : (g : Guest) → g ≡ guest_of r → entry_good g ≡ true → (end : End) (units : ℕ) {final s k : List ℕ}
      → (run n.budget n (machine_of n r storage keys)).end ≡ end → (run n.budget n (machine_of n r storage keys)).units ≡ units
      → final ≡ with_results (end_results end) (run n.budget n (machine_of n r storage keys)).machine.description
      → (run n.budget n (machine_of n r storage keys)).machine.storage ≡ s → (run n.budget n (machine_of n r storage keys)).machine.keys ≡ k
      → Gives (run_as n r storage keys no_refusal) (run_answer end units) final s k
  unfolding run_as result_of
  gives_ended g here good end units {final} {s} {k} same_end same_units left bytes marks =
      subst (λ b. Gives (cond b (result_of n (run n.budget n (machine_of n r storage keys))) (result_of n (record { end = Intercepted Validity; units = 0; machine = machine_of n r storage keys })))
      (run_answer end units) final s k)
      (sym (ap entry_good (sym here) ∙ good))
      (record {
        answer = λ i. run_answer (sym same_end i) (sym same_units i);
        description = left ∙ (λ i. with_results (end_results (sym same_end i)) (run n.budget n (machine_of n r storage keys)).machine.description);
        bytes = sym bytes;
        marks = sym marks;
      })

  -- results put twice into a record with this state
  results_once : (end : End) (t : List ℕ) → with_results (end_results end) t ≡ with_results (end_results end) (cleared t)
  results_once end t = sym (with_results-with_results (end_results BudgetUsed) (end_results end) t (length-end_results BudgetUsed ∙ sym (length-end_results end)))

  cleared-with_cpu : (c : Cpu) → cleared (with_cpu c r) ≡ with_cpu c (cleared r)
  cleared-with_cpu c = with_results-with_cpu (end_results BudgetUsed) c r (length-end_results BudgetUsed)

  -- the machine that the run begins with
  machine_same : (g : Guest) (c : Cpu) (request residue : ℕ) → c ≡ cpu_of r → (active g ≡ true → request ≡ request_of r) → (active g ≡ true → residue ≡ residue_of r)
      → ((i : ℕ) → byte_at r i < 256) → machine_at g (cleared r) c request residue n.clock storage keys ≡ machine_of n r storage keys
  unfolding machine_of
  machine_same g c request residue same asked rest small =
      λ i. record { description = by_active (active g) asked rest i; clock = n.clock; storage = storage; keys = keys }
    where
      by_active : (b : Bool) → (b ≡ true → request ≡ request_of r) → (b ≡ true → residue ≡ residue_of r)
          → cond b (with_interval request residue (with_cpu c (cleared r))) (with_cpu c (cleared r)) ≡ cleared r
      by_active true asked rest =
          (λ i. with_interval (asked refl i) (rest refl i) (start_same c same small i).description)
          ∙ sym (with_results-with_interval (end_results BudgetUsed) (request_of r) (residue_of r) r (length-end_results BudgetUsed))
          ∙ ap cleared (with_interval_same r small)
      by_active false asked rest = ap (λ m. m.description) (start_same c same small)

  -- the record that the run leaves, cleared
  cleared_left : (b : Bool) (c : Cpu) (request residue : ℕ)
      → cleared (cond b (with_interval request residue (with_cpu c r)) (with_cpu c r)) ≡ cond b (with_interval request residue (with_cpu c (cleared r))) (with_cpu c (cleared r))
  cleared_left true c request residue =
      with_results-with_interval (end_results BudgetUsed) request residue (with_cpu c r) (length-end_results BudgetUsed)
      ∙ ap (with_interval request residue) (cleared-with_cpu c)
  cleared_left false c request residue = cleared-with_cpu c

  -- what the run in hand leaves
  pub gives_run : (g : Guest) → Starts n r storage keys g → (c : Cpu) (request residue : ℕ) → c ≡ cpu_of r → (active g ≡ true → request ≡ request_of r) → (active g ≡ true → residue ≡ residue_of r)
      → ((i : ℕ) → byte_at r i < 256) → (e : Ended) {final s k : List ℕ}
      → ((d : List ℕ) → OfGuest g d → Ends (run n.budget n (machine_at g d c request residue n.clock storage keys)) g d e s k)
      → final ≡ with_results (end_results e.end) (record_at g r e.cpu e.request e.residue)
      → Gives (run_as n r storage keys no_refusal) (run_answer e.end e.units) final s k
  gives_run g starts c request residue same asked rest small e {final} {s} {k} ends left =
      gives_ended g starts.here starts.good e.end e.units there.end there.units
      (left ∙ results_once e.end (record_at g r e.cpu e.request e.residue)
      ∙ ap (with_results (end_results e.end)) (cleared_left (active g) e.cpu e.request e.residue ∙ sym there.description))
      there.bytes
      there.marks
    where
      own : OfGuest g (cleared r)
      own = record {
        long = omega (arith, length-with_results (end_results BudgetUsed) r, run_length n r storage keys starts.accepted);
        timed = λ on. length-with_results (end_results BudgetUsed) r ∙ timed_length n r storage keys g starts on;
        own = guest_of-with_results (end_results BudgetUsed) r ∙ sym starts.here;
      }

      there : Ends (run n.budget n (machine_of n r storage keys)) g (cleared r) e s k
      there =
          subst (λ m. Ends (run n.budget n m) g (cleared r) e s k) (machine_same g c request residue same asked rest small)
          (ends (cleared r) own)

  -- entry fails
  pub gives_validity : (g : Guest) → g ≡ guest_of r → entry_good g ≡ false → {final : List ℕ} → final ≡ with_results (end_results (Intercepted Validity)) r
      → Gives (run_as n r storage keys no_refusal) (run_answer (Intercepted Validity) 0) final storage keys
  unfolding run_as result_of machine_of
  gives_validity g here bad {final} left =
      subst (λ b. Gives (cond b (result_of n (run n.budget n (machine_of n r storage keys))) (result_of n (record { end = Intercepted Validity; units = 0; machine = machine_of n r storage keys })))
      (run_answer (Intercepted Validity) 0) final storage keys)
      (sym (ap entry_good (sym here) ∙ bad))
      (record {
        answer = refl;
        description =
            left ∙ sym (with_results-with_results (end_results BudgetUsed) (end_results (Intercepted Validity)) r (length-end_results BudgetUsed ∙ sym (length-end_results (Intercepted Validity))));
        bytes = refl;
        marks = refl;
      })

  -- by the verdict
  pub gives_as : (v w : Verdict) → v ≡ w → (x : RunAnswer) {final s k : List ℕ} → Gives (run_as n r storage keys w) x final s k → Gives (run_as n r storage keys v) x final s k
  gives_as v w same x {final} {s} {k} gives = subst (λ v. Gives (run_as n r storage keys v) x final s k) (sym same) gives

  pub gives_refused : (number : Refusal) → Gives (run_as n r storage keys (Err number)) (Err number) r storage keys
  unfolding run_as
  gives_refused number = record { answer = refl; description = refl; bytes = refl; marks = refl }

  -- the table of the definition's run is that of its answer, in the storage that it leaves
  run-sought : (run_of n r storage keys).table ≡ answer_sought n.designation (run_of n r storage keys).storage (run_of n r storage keys).answer
  unfolding result_of answer_sought
  run-sought =
      run_of_cases n r storage keys (λ x. x.table ≡ answer_sought n.designation x.storage x.answer) (λ number refused. refl) (λ accepted bad. refl)
      (λ accepted good. refl)

  -- packed
  pub run-packed : (v : Verdict) → v ≡ run_verdict n r storage keys → (x : RunAnswer) {final s k : List ℕ} → Gives (run_as n r storage keys v) x final s k
      → (table : Sought) → table ≡ answer_sought n.designation s x → (before : ℕ) {word after : ℕ} → word ≡ packed_answer x table
      → after ≡ place_after_run x table before → RunGives n r storage keys before word final s k after
  unfolding run_of
  run-packed v same x {final} {s} {k} gives table found before word after =
      let all : Gives (run_as n r storage keys (run_verdict n r storage keys)) x final s k = subst (λ v. Gives (run_as n r storage keys v) x final s k) same gives in
      let sought : table ≡ (run_of n r storage keys).table = found ∙ (λ i. answer_sought n.designation (all.bytes i) (all.answer i)) ∙ sym run-sought in
      record {
        answer = word ∙ (λ i. packed_answer (all.answer i) (sought i));
        place = after ∙ (λ i. place_after_run (all.answer i) (sought i) before);
        description = all.description;
        bytes = all.bytes;
        marks = all.marks;
      }
