-- The CPU timer: a completed unit that does not start at an SPT makes it fall by the time per unit; an exit charges nothing.
-- Assumes nothing.
use Prim.Native.Nat.{ℕ, zero, suc, ◌+◌, ◌-◌, ◌*◌, ◌%◌, ◌^◌, ◌≤◌, ◌<◌}
use native.Mathlib.Omega.{arith}
use mathlib.Core.Path.{◌≡◌, refl, ap, ◌∙◌, subst}
use mathlib.Core.Bool.{Bool, true, false, cond, not, ◌&&◌, ◌||◌, false≢true}
use mathlib.Core.List.{List, [], ◌∷◌}
use mathlib.Core.Logic.{inl}
use lib.Dec.{eqb, ltb}
use lib.ListN.{length, set, length-set, get_or-eq_default}
use lib.Seq.{get_or-set_same}
use borrow.Author.Tests.{ltb-true, ltb-false, eqb-true}
use Rattle.machine.specs.declared.Class.{Class}
use Rattle.machine.specs.declared.Class.TheVariants.{Lr, Ar, Sr, Bcr, Svc, La, Bc, St, L, Lpsw, Stctl, Lctl, Stck, Spt, Stpt, Mandatory, Unassigned}
use Rattle.machine.specs.declared.Cpu.{Cpu}
use Rattle.machine.specs.declared.End.{End}
use Rattle.machine.specs.declared.End.TheVariants.{Intercepted, HostFault, BudgetUsed}
use Rattle.machine.specs.declared.Failure.{Failure}
use Rattle.machine.specs.declared.Guest.{Guest}
use Rattle.machine.specs.declared.Numbers.{Numbers}
use Rattle.machine.specs.declared.Opcode.{Opcode}
use Rattle.machine.specs.declared.Reason.{Reason}
use Rattle.machine.specs.declared.Reason.TheVariants.{Instruction, Program, ExternalRequest, External, IoRequest, Wait, Validity, Stop, Operation}
use Rattle.machine.specs.Words.{double_at}
use Rattle.machine.specs.Psw.{instruction_address, with_psw, with_timer, with_control, with_general, with_address, advanced, with_condition_code}
use Rattle.machine.specs.Time.{timer_after, charged}
use Rattle.machine.specs.Record.{record_length, timer_at, request_at, psw_of, cpu_of, with_results, request_of, residue_of, with_request}
use Rattle.machine.specs.Interval.{without_t}
use Rattle.machine.specs.Failures.{is_translation}
use Rattle.machine.specs.Host.{Cell, Located}
use Rattle.machine.specs.Addresses.{Accesses, all, stopped, when_reached}
use Rattle.machine.specs.Opcodes.{opcode_of}
use Rattle.machine.specs.Outcomes.{Effects, Outcome, completed, intercepted, faulted, Progress}
use Rattle.machine.specs.Interruptions.{Areas, interrupt, after_exception, exception}
use Rattle.machine.specs.Execute.{finish, fetching, storing, with_sum, summed, branch, with_controls, execute, load_register, add, subtract, branch_register, branch_indexed, supervisor_call, load_address, store, load, load_psw, store_control, load_control, store_clock, set_timer, store_timer, intercept_instruction}
use Rattle.machine.specs.Units.{decoded, halfword, half_of, reading, opcode_in, fetch_third, fetch_second, started, instruction, interval_code, unit}
use Rattle.machine.specs.Run.{Machine, Ended, counted, onward, requested_by, unit_from, behind_of, after_unit, after_interception, clears_t, answered, with_tick, with_word, Step, goes, ends, step_of, step, run}
use Rattle.machine.specs.Refusals.{run_verdict, no_refusal}
use Rattle.machine.specs.Operations.{Result, result_of, machine_of}
use Rattle.machine.specs.Answers.{end_results, run_answer}
use Rattle.machine.specs.Theorems.{AtSpt, interval_exit, Uncharged, TimerFalls, ExitChargesNothing}
use Rattle.machine.proofs.Tests.{on_either_arm}
use Rattle.machine.proofs.Verdicts.{accepted-length}
use Rattle.machine.proofs.Ticks.{ticked_cases, update_keeps, answered_same, answered_keeps, residue_of-with_cpu, request_of-with_cpu, residue_of-with_request}
use Rattle.machine.proofs.Runs.{exit_keeps, same_units, run_of_cases}
use Rattle.machine.proofs.Laws.{good_length, double_of_bytes, length-with_cpu, length-with_results, length-with_interval, timer_of_with_cpu, byte_of-with_results, byte_of-with_request, byte_of-with_interval, length-end_results}

-- what holds where a byte is not reached, and where all are, holds of `when_reached`
reached_or_not : {A : Type 0} (P : A → Type 0) (a : Accesses) {otherwise : Failure → A} {onward : List Located → A} → ((f : Failure) → P (otherwise f))
    → ((ls : List Located) → a ≡ all ls → P (onward ls)) → P (when_reached a otherwise onward)
unfolding when_reached
reached_or_not P (stopped f) p q = p f
reached_or_not P (all ls) p q = q ls refl

timer_of_with_controls : (c : Cpu) (i : ℕ) (ws : List ℕ) → (with_controls c i ws).timer ≡ c.timer
unfolding with_controls with_control
timer_of_with_controls c i [] = refl
timer_of_with_controls c i (w ∷ ws) = timer_of_with_controls (with_control c i w) ((i + 1) % 16) ws

timer_of_after_exception : (x : Progress) (c : Cpu) (f : Failure) → (after_exception x c f).timer ≡ c.timer
unfolding after_exception advanced with_address with_psw
timer_of_after_exception x c f = go (is_translation f.code || eqb x.text.ilc 0)
  where
    go : (b : Bool) → (cond b c (advanced c x.text.ilc)).timer ≡ c.timer
    go true = refl
    go false = refl

-- an exit has the timer `t`, and so has a completed unit under the condition `Q`; the interval timer makes an exit only where it is asked
data Keeps (Q : Type 0) (t : ℕ) (asked : Bool) : Outcome → Type 0 where
  completes : {c : Cpu} {e : Effects} → (Q → c.timer ≡ t) → Keeps Q t asked (completed c e)
  exits : {r : Reason} {c : Cpu} → (not (clears_t r) || asked) ≡ true → c.timer ≡ t → Keeps Q t asked (intercepted r c)
  faults : {f : Failure} → Keeps Q t asked (faulted f)

module _ (Q : Type 0) (t : ℕ) (asked : Bool) where
  interrupt_keeps : (x : Progress) (c : Cpu) (areas : Areas) (code : ℕ) (fields : List ℕ) → c.timer ≡ t
      → Keeps Q t asked (interrupt x c areas code fields)
  unfolding interrupt with_psw
  interrupt_keeps x c areas code fields e =
      reached_or_not (Keeps Q t asked) _ (λ f. faults) λ stores s. reached_or_not (Keeps Q t asked) _ (λ f. faults) λ fetched s. completes
      (λ q. e)

  exception_keeps : (x : Progress) (c : Cpu) → c.timer ≡ t → (f : Failure) → Keeps Q t asked (exception x c f)
  unfolding exception clears_t
  exception_keeps x c e f =
      search (on_either_arm (Keeps Q t asked), exits, faults, interrupt_keeps x (after_exception x c f), after)
    where
      after : (after_exception x c f).timer ≡ t
      after = timer_of_after_exception x c f ∙ e

  module _ (x : Progress) (same : x.cpu.timer ≡ t) where
    fetching_keeps : (a n : ℕ) (after : List ℕ → Cpu) → ((bytes : List ℕ) → Q → (after bytes).timer ≡ t)
        → Keeps Q t asked (fetching x a n after)
    unfolding fetching finish
    fetching_keeps a n after e = reached_or_not (Keeps Q t asked) _ (exception_keeps x x.cpu same) λ operand s. completes (e _)

    storing_keeps : (a : ℕ) (bytes : List ℕ) (c : Cpu) → c.timer ≡ t → Keeps Q t asked (storing x a bytes c)
    unfolding storing finish
    storing_keeps a bytes c e = reached_or_not (Keeps Q t asked) _ (exception_keeps x x.cpu same) λ operand s. completes (λ q. e)

    summed_keeps : (sum : ℕ) (overflow : Bool) → Keeps Q t asked (summed x sum overflow)
    unfolding summed finish with_sum advanced with_address with_psw with_condition_code with_general
    summed_keeps sum overflow = search (on_either_arm (Keeps Q t asked), exception_keeps x, completes)

    branch_keeps : (taken : Bool) (a : ℕ) → Keeps Q t asked (branch x taken a)
    unfolding branch finish advanced with_address with_psw
    branch_keeps true a = completes (λ q. same)
    branch_keeps false a = completes (λ q. same)

    -- SPT alone is left to the condition
    execute_keeps : (class : Class) → (class ≡ Spt → Q → ⊥) → Keeps Q t asked (execute class x)
    unfolding execute load_register add subtract branch_register branch_indexed supervisor_call load_address store load load_psw
        store_control load_control store_clock set_timer store_timer intercept_instruction finish advanced with_address with_psw
        with_condition_code with_general clears_t
    execute_keeps Lr other = completes (λ q. same)
    execute_keeps Ar other = summed_keeps _ _
    execute_keeps Sr other = summed_keeps _ _
    execute_keeps Bcr other = branch_keeps _ _
    execute_keeps Svc other = interrupt_keeps x _ _ _ _ same
    execute_keeps La other = completes (λ q. same)
    execute_keeps Bc other = branch_keeps _ _
    execute_keeps St other = storing_keeps _ _ _ same
    execute_keeps L other = fetching_keeps _ _ _ (λ bytes q. same)
    execute_keeps Lpsw other = fetching_keeps _ _ _ (λ bytes q. same)
    execute_keeps Stctl other = storing_keeps _ _ _ same
    execute_keeps Lctl other = fetching_keeps _ _ _ (λ bytes q. timer_of_with_controls x.cpu _ _ ∙ same)
    execute_keeps Stck other = storing_keeps _ _ _ same
    execute_keeps Spt other = fetching_keeps _ _ _ (λ bytes q. absurd (other refl q))
    execute_keeps Stpt other = storing_keeps _ _ _ same
    execute_keeps Mandatory other = exits refl same
    execute_keeps Unassigned other = exception_keeps x x.cpu same _

    decoded_keeps : (o : Opcode) → (o.class ≡ Spt → Q → ⊥) → Keeps Q t asked (decoded x o)
    unfolding decoded intercept_instruction advanced with_address with_psw clears_t
    decoded_keeps o other = search (on_either_arm (Keeps Q t asked), exits, exception_keeps x, execute_keeps o.class)

  fetch_third_keeps : (x : Progress) → x.cpu.timer ≡ t → ((opcode_in x).class ≡ Spt → Q → ⊥) → Keeps Q t asked (fetch_third x)
  unfolding fetch_third reading
  fetch_third_keeps x same other =
      on_either_arm (Keeps Q t asked) (ltb x.text.ilc 3) (decoded_keeps x same _ other)
      (reached_or_not (Keeps Q t asked) _ (exception_keeps x x.cpu same) λ third s. decoded_keeps _ same _ other)

  fetch_second_keeps : (x : Progress) → x.cpu.timer ≡ t → ((opcode_in x).class ≡ Spt → Q → ⊥) → Keeps Q t asked (fetch_second x)
  unfolding fetch_second reading
  fetch_second_keeps x same other =
      on_either_arm (Keeps Q t asked) (ltb x.text.ilc 2) (decoded_keeps x same _ other)
      (reached_or_not (Keeps Q t asked) _ (exception_keeps x x.cpu same) λ second s. fetch_third_keeps _ same other)

  instruction_keeps : (x : Progress) → x.cpu.timer ≡ t
      → ((text : List Located) → halfword x 0 ≡ all text → (opcode_of x.cpu.psw.system370 (half_of text)).class ≡ Spt → Q → ⊥)
      → Keeps Q t asked (instruction x)
  unfolding instruction reading
  instruction_keeps x same other =
      on_either_arm (Keeps Q t asked) (eqb (instruction_address x.cpu % 2) 1) (exception_keeps x x.cpu same _)
      (reached_or_not (Keeps Q t asked) (halfword x 0) (exception_keeps x x.cpu same)
      λ first read. fetch_second_keeps _ same (other first read))

  -- the exit that the interval timer makes
  by_request : (enabled : Bool) (c : Cpu) (o : Outcome) → c.timer ≡ t → Keeps Q t asked o
      → Keeps Q t asked (cond (enabled && asked) (intercepted (External interval_code) c) o)
  unfolding clears_t
  by_request enabled c o same later = by_both enabled asked refl
    where
      by_both : (a b : Bool) → asked ≡ b → Keeps Q t asked (cond (a && b) (intercepted (External interval_code) c) o)
      by_both true true e = exits e same
      by_both true false e = later
      by_both false b e = later

  unit_keeps : (g : Guest) (clock : ℕ) (v : ℕ → Cell) (c : Cpu) → c.timer ≡ t
      → ((text : List Located) → halfword (started g clock v c 1) 0 ≡ all text → (opcode_of c.psw.system370 (half_of text)).class ≡ Spt
      → Q → ⊥)
      → Keeps Q t asked (unit g clock asked v c)
  unfolding unit clears_t
  unit_keeps g clock v c same other =
      search (by_request, on_either_arm (Keeps Q t asked), exits, excepted, instructed) depth 10
    where
      excepted : (f : Failure) → Keeps Q t asked (exception (started g clock v c 0) c f)
      excepted = exception_keeps (started g clock v c 0) c same

      instructed : Keeps Q t asked (instruction (started g clock v c 1))
      instructed = instruction_keeps (started g clock v c 1) same other

-- the CPU timer of the record
abbrev timer_of : Machine → ℕ
timer_of m = double_at m.description timer_at

-- a completed unit that does not start at an SPT keeps the timer, and so does each exit
unit_from_keeps : (n : Numbers) (m : Machine) → Keeps (AtSpt n m → ⊥) (timer_of m) (requested_by m.description) (unit_from n m)
unfolding unit_from cpu_of psw_of
unit_from_keeps n m =
    unit_keeps _ _ _ _ _ _ _ refl λ text read class other. other (record { text = text; read = read; class = class })

-- the interval timer makes an exit only where its request is there
pub asked_for : (n : Numbers) (m : Machine) (r : Reason) (c : Cpu) → unit_from n m ≡ intercepted r c → clears_t r ≡ true
    → requested_by m.description ≡ true
asked_for n m r c is clears = by_outcome (subst (Keeps _ _ _) is (unit_from_keeps n m))
  where
    by_outcome : Keeps (AtSpt n m → ⊥) (timer_of m) (requested_by m.description) (intercepted r c) → requested_by m.description ≡ true
    by_outcome (exits asked kept) = rw clears at asked

-- the record has its length, and its timer has 64 bits
record Sound (m : Machine) : Type 0 where
  long : record_length ≤ length m.description
  small : timer_of m < 2 ^ 64

-- what a step does to the timer
abbrev Charges : Numbers → Machine → Step → Type 0
Charges n m (goes after) = Sound after × ((AtSpt n m → ⊥) → timer_of after ≡ (timer_of m + (2 ^ 64 - n.time)) % 2 ^ 64)
Charges n m (ends end after) = Uncharged end m after

-- the interval timer's fields and its word leave the CPU timer alone

timer_of_with_tick : (request residue : ℕ) (m : Machine) → timer_of (with_tick request residue m) ≡ timer_of m
unfolding with_tick
timer_of_with_tick request residue m =
    double_of_bytes _ _ timer_at (λ i l h. byte_of-with_interval request residue m.description i (inl (omega arith)))

timer_of_answered : (r : Reason) (m : Machine) → timer_of (answered r m) ≡ timer_of m
timer_of_answered r m =
    answered_keeps (λ (d : List ℕ). double_at d timer_at ≡ timer_of m)
    (λ q d h. double_of_bytes _ _ timer_at (λ i l low. byte_of-with_request q d i (inl (omega arith))) ∙ h) r m refl

-- a record too short for the request byte has none, cleared or not
request-cleared : (r : List ℕ) → request_of (with_request (without_t (request_of r)) r) ≡ without_t (request_of r)
unfolding with_request
request-cleared r = by_length (ltb request_at (length r)) refl
  where
    by_length : (b : Bool) → ltb request_at (length r) ≡ b → request_of (with_request (without_t (request_of r)) r) ≡ without_t (request_of r)
    by_length true e = get_or-set_same r request_at _ 0 (ltb-true request_at (length r) e)
    by_length false e =
        let short : length r ≤ request_at = ltb-false request_at (length r) e in
        rw (get_or-eq_default r 0 short) (get_or-eq_default (set r request_at 0) 0 (omega (arith, length-set r request_at 0)))

-- one reason clears T
clears_itself : (r : Reason) → clears_t r ≡ true → r ≡ External interval_code
unfolding clears_t
clears_itself (Instruction t) e = absurd (false≢true e)
clears_itself (Program code ilc address) e = absurd (false≢true e)
clears_itself ExternalRequest e = absurd (false≢true e)
clears_itself (External code) e = ap External (eqb-true code interval_code e)
clears_itself IoRequest e = absurd (false≢true e)
clears_itself Wait e = absurd (false≢true e)
clears_itself Validity e = absurd (false≢true e)
clears_itself Stop e = absurd (false≢true e)
clears_itself (Operation t) e = absurd (false≢true e)

-- an exit keeps the residue, and T, unless T makes it

module _ (r : Reason) (m : Machine) where
  request_kept : (Intercepted r ≡ interval_exit → ⊥) → request_of (answered r m).description ≡ request_of m.description
  request_kept other = by_clearing (clears_t r) refl
    where
      by_clearing : (b : Bool) → clears_t r ≡ b → request_of (answered r m).description ≡ request_of m.description
      by_clearing true e = absurd (other (ap Intercepted (clears_itself r e)))
      by_clearing false e = ap (λ (k : Machine). request_of k.description) (answered_same r m e)

  request_taken : Intercepted r ≡ interval_exit → request_of (answered r m).description ≡ without_t (request_of m.description)
  unfolding answered clears_t
  request_taken e = let same : r ≡ External interval_code = cc in rw same (request-cleared m.description)

module _ (m : Machine) (r : Reason) (c : Cpu) where
  pub exit_residue : residue_of (answered r (after_interception m c)).description ≡ residue_of m.description
  exit_residue =
      exit_keeps (λ (d : List ℕ). residue_of d ≡ residue_of m.description) (λ c d h. residue_of-with_cpu c d ∙ h)
      (λ q d h. residue_of-with_request q d ∙ h) r
      m c refl

  pub exit_request : (Intercepted r ≡ interval_exit → ⊥)
      → request_of (answered r (after_interception m c)).description ≡ request_of m.description
  unfolding after_interception
  exit_request other = request_kept r (after_interception m c) other ∙ request_of-with_cpu _ m.description

  pub exit_cleared : Intercepted r ≡ interval_exit
      → request_of (answered r (after_interception m c)).description ≡ without_t (request_of m.description)
  unfolding after_interception
  exit_cleared e = request_taken r (after_interception m c) e ∙ ap without_t (request_of-with_cpu _ m.description)

-- it charges nothing
exit_uncharged : (m : Machine) → Sound m → (r : Reason) (c : Cpu) → c.timer ≡ timer_of m
    → Uncharged (Intercepted r) m (answered r (after_interception m c))
unfolding answered after_interception
exit_uncharged m sound r c kept = record {
  timer =
      timer_of_answered r (after_interception m c) ∙ timer_of_with_cpu c m.description (omega (arith, sound.long))
      ∙ omega (arith, sound.small);
  residue = exit_residue m r c;
  request = exit_request m r c;
  cleared = exit_cleared m r c;
  clock = refl;
  storage = refl;
  keys = refl;
}

-- a host fault leaves the machine as it was
fault_uncharged : (m : Machine) (f : Failure) → Uncharged (HostFault f) m m
fault_uncharged m f = record {
  timer = refl;
  residue = refl;
  request = λ other. refl;
  cleared = λ e. cc;
  clock = refl;
  storage = refl;
  keys = refl;
}

ticked-length : (request residue : ℕ) (m : Machine) → length (with_tick request residue m).description ≡ length m.description
unfolding with_tick
ticked-length request residue m = length-with_interval request residue m.description

step_of_charges : (n : Numbers) (m : Machine) → Sound m → (o : Outcome) → Keeps (AtSpt n m → ⊥) (timer_of m) (requested_by m.description) o
    → Charges n m (step_of n m o)
unfolding step_of after_unit charged with_timer timer_after with_word
step_of_charges n m sound (completed c e) (completes kept) =
    ticked_cases n m (after_unit n m c e) (Charges n m)
    (λ next u. update_keeps n m (after_unit n m c e) (λ k. Charges n m (goes k)) by_tick by_word charged_once u)
    (λ on full f stop. fault_uncharged m f)
  where
    timer : timer_of (after_unit n m c e) ≡ (c.timer + (2 ^ 64 - n.time)) % 2 ^ 64 % 2 ^ 64
    timer = timer_of_with_cpu (charged c n.time) m.description (omega (arith, sound.long))

    charged_once : Charges n m (goes (after_unit n m c e))
    charged_once = (
      record { long = omega (arith, length-with_cpu (charged c n.time) m.description, sound.long); small = rw timer (omega arith) },
      λ other. timer ∙ rw (kept other) (omega arith),
    )

    by_tick : (request residue : ℕ) (k : Machine) → Charges n m (goes k) → Charges n m (goes (with_tick request residue k))
    by_tick request residue k (s, once) = (
      record {
        long = omega (arith, ticked-length request residue k, s.long);
        small = rw (timer_of_with_tick request residue k) s.small;
      },
      λ other. timer_of_with_tick request residue k ∙ once other,
    )

    by_word : (at : List Located) (w : ℕ) (k : Machine) → Charges n m (goes k) → Charges n m (goes (with_word (behind_of n m) at w k))
    by_word at w k (s, once) = (record { long = s.long; small = s.small }, once)
step_of_charges n m sound (intercepted r c) (exits asked kept) = exit_uncharged m sound r c kept
step_of_charges n m sound (faulted f) faults = fault_uncharged m f

step_charges : (n : Numbers) (m : Machine) → Sound m → Charges n m (step n m)
unfolding step
step_charges n m sound = step_of_charges n m sound (unit_from n m) (unit_from_keeps n m)

pub exit_charges_nothing : ExitChargesNothing
exit_charges_nothing n m after end long small e =
    subst (Charges n m) e (step_charges n m (record { long = good_length m.description long; small = small }))

-- none of the first so many units starts at an SPT
abbrev NoSpt : Numbers → Machine → ℕ → Type 0
NoSpt n m units = (i : ℕ) → i < units → AtSpt n (run i n m).machine → ⊥

-- a timer after so many units
abbrev fallen : Numbers → ℕ → ℕ → ℕ
fallen n units timer = (timer + units * (2 ^ 64 - n.time)) % 2 ^ 64

-- the end of a run from `m`: its timer has fallen once for each completed unit
abbrev Falls : Numbers → Machine → Ended → Type 0
Falls n m e = NoSpt n m e.units → timer_of e.machine ≡ fallen n e.units (timer_of m)

once_more : (t units k : ℕ) → ((t + k) % 2 ^ 64 + units * k) % 2 ^ 64 ≡ (t + suc units * k) % 2 ^ 64
once_more t units k = omega arith

onward-falls : (n : Numbers) (m : Machine) (rest : ℕ) (s : Step) → step n m ≡ s → Charges n m s
    → ((after : Machine) → Sound after → Falls n after (run rest n after)) → Sound m → Falls n m (onward (run rest n) s)
unfolding onward counted run
onward-falls n m rest (goes after) e (sound, timer) later before other =
    later after sound (λ i h spt. other (suc i) (omega arith) (rw e spt)) ∙ rw (timer (other 0 (omega arith))) (once_more (timer_of m) _ _)
onward-falls n m rest (ends end after) e uncharged later before other = uncharged.timer ∙ omega arith

run-falls : (budget : ℕ) (n : Numbers) (m : Machine) → Sound m → Falls n m (run budget n m)
unfolding run
run-falls zero n m sound other = omega arith
run-falls (suc budget) n m sound other = onward-falls n m budget (step n m) refl (step_charges n m sound) (run-falls budget n) sound other

timer_of_with_results : (vs r : List ℕ) → length vs ≡ 14 → double_at (with_results vs r) timer_at ≡ double_at r timer_at
timer_of_with_results vs r e = double_of_bytes _ _ timer_at (λ i l h. byte_of-with_results vs r i e (inl (omega arith)))

module _ (n : Numbers) (r storage keys : List ℕ) where
  timer_of_machine_of : timer_of (machine_of n r storage keys) ≡ double_at r timer_at
  unfolding machine_of
  timer_of_machine_of = timer_of_with_results _ r (length-end_results BudgetUsed)

  sound_machine_of : record_length ≤ length r → double_at r timer_at < 2 ^ 64 → Sound (machine_of n r storage keys)
  unfolding machine_of
  sound_machine_of long small =
      record { long = omega (arith, length-with_results (end_results BudgetUsed) r); small = rw timer_of_machine_of small }

  module _ (end : End) (units : ℕ) (other : NoSpt n (machine_of n r storage keys) units) where
    -- a result with this end and these units: its timer has fallen once for each
    abbrev Fallen : Result → Type 0
    Fallen result = result.answer ≡ run_answer end units → double_at result.description timer_at ≡ fallen n units (double_at r timer_at)

    result_of-falls : (e : Ended) → Falls n (machine_of n r storage keys) e → Fallen (result_of n e)
    unfolding result_of
    result_of-falls e falls ended =
        let same : e.units ≡ units = same_units ended in
        timer_of_with_results _ _ (length-end_results e.end) ∙ falls (λ i h. other i (omega arith)) ∙ rw (same, timer_of_machine_of)

pub timer_falls : TimerFalls
timer_falls n r storage keys end units small ended other =
    run_of_cases n r storage keys (Fallen n r storage keys end units other) (λ number refused ended. cc)
    (λ accepted bad. result_of-falls n r storage keys end units other _ (λ none. omega (arith, (sound accepted).small)))
    (λ accepted good. result_of-falls n r storage keys end units other _ (run-falls n.budget n _ (sound accepted)))
    ended
  where
    sound : run_verdict n r storage keys ≡ no_refusal → Sound (machine_of n r storage keys)
    sound accepted = sound_machine_of n r storage keys (good_length r (accepted-length n r storage keys accepted)) small
