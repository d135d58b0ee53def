-- Laws of the run: what every unit keeps, a run keeps; what a run of a + b units is.
-- Assumes nothing.
use Rattle.std.specs.Prelude.{Err, Ok}
use Prim.Native.Nat.{ℕ, zero, suc, ◌+◌, ◌≤◌, suc-le-suc}
use native.Mathlib.Omega.{arith}
use native.Mathlib.Nat.{suc-add, zero-add}
use mathlib.Core.Path.{◌≡◌, refl, ap, ◌∙◌}
use mathlib.Core.Bool.{Bool, true, false, cond}
use mathlib.Core.List.{List, [], ◌∷◌, ◌++◌}
use lib.ListN.{length, length-set}
use Rattle.machine.specs.declared.Cpu.{Cpu}
use Rattle.machine.specs.declared.End.{End}
use Rattle.machine.specs.declared.End.TheVariants.{Intercepted, HostFault, BudgetUsed}
use Rattle.machine.specs.declared.Failure.{Failure}
use Rattle.machine.specs.declared.Numbers.{Numbers}
use Rattle.machine.specs.declared.Reason.{Reason}
use Rattle.machine.specs.declared.Refusal.{Refusal}
use Rattle.machine.specs.declared.Reason.TheVariants.{Validity}
use Rattle.machine.specs.Record.{guest_of, with_cpu, with_request}
use Rattle.machine.specs.Refusals.{run_verdict, RunAnswer, Verdict, no_refusal}
use Rattle.machine.specs.Answers.{run_answer}
use Rattle.machine.specs.Entry.{entry_good}
use Rattle.machine.specs.Host.{Located, store_byte, stored, mark_key, marked, referenced, changed, places}
use Rattle.machine.specs.Addresses.{stopped}
use Rattle.machine.specs.Sought.{nowhere}
use Rattle.machine.specs.Outcomes.{Effects, Outcome, completed, intercepted, faulted}
use Rattle.machine.specs.Run.{Machine, Ended, unit_from, marked_by, after_unit, after_interception, answered, with_tick, with_word, word_accesses, Step, goes, ends, step_of, step, counted, onward, run}
use Rattle.machine.specs.Operations.{Result, result_of, machine_of, run_as, run_of}
use Rattle.machine.proofs.Ticks.{Update, ticked_cases, update_keeps, answered_keeps}
use Rattle.machine.specs.Walk.{Walk}

-- lengths

store_byte-length : (w : Walk) (l : Located) (s : List ℕ) → length (store_byte w l s) ≡ length s
unfolding store_byte
store_byte-length (Err f) l s = refl
store_byte-length (Ok page) l s = length-set s _ l.byte

pub stored-length : (behind : ℕ → Walk) (ls : List Located) (s : List ℕ) → length (stored behind ls s) ≡ length s
unfolding stored
stored-length behind [] s = refl
stored-length behind (l ∷ ls) s = stored-length behind ls _ ∙ store_byte-length (behind l.absolute) l s

mark_key-length : (mark : ℕ → ℕ) (w : Walk) (k : List ℕ) → length (mark_key mark w k) ≡ length k
unfolding mark_key
mark_key-length mark (Err f) k = refl
mark_key-length mark (Ok page) k = length-set k page.frame _

pub marked-length : (behind : ℕ → Walk) (mark : ℕ → ℕ) (places k : List ℕ) → length (marked behind mark places k) ≡ length k
unfolding marked
marked-length behind mark [] k = refl
marked-length behind mark (a ∷ more) k = marked-length behind mark more _ ∙ mark_key-length mark (behind a) k

pub marked_by-length : (behind : ℕ → Walk) (e : Effects) (k : List ℕ) → length (marked_by behind e k) ≡ length k
unfolding marked_by
marked_by-length behind e k = marked-length behind changed (places e.stores) _ ∙ marked-length behind referenced (e.fetched ++ places e.stores) k

-- what new fields of the CPU and a new request byte keep of a record, an interception keeps
pub exit_keeps : (P : List ℕ → Type 0) → ((c : Cpu) (r : List ℕ) → P r → P (with_cpu c r))
    → ((request : ℕ) (r : List ℕ) → P r → P (with_request request r))
    → (reason : Reason) (m : Machine) (c : Cpu) → P m.description → P (answered reason (after_interception m c)).description
unfolding after_interception
exit_keeps P by_cpu by_request reason m c p = answered_keeps P by_request reason (after_interception m c) (by_cpu _ _ p)

-- a step, by cases: a completed unit with the interval timer's update, an interception, a host fault of the unit or of the update
module _ (n : Numbers) (m : Machine) (P : Step → Type 0)
    (goes_on : (c : Cpu) (e : Effects) → unit_from n m ≡ completed c e → (next : Machine) → Update n m (after_unit n m c e) next
    → P (goes next))
    (exits : (r : Reason) (c : Cpu) → unit_from n m ≡ intercepted r c → P (ends (Intercepted r) (answered r (after_interception m c))))
    (faults : (f : Failure) → unit_from n m ≡ faulted f → P (ends (HostFault f) m))
    (word_faults : (f : Failure) → word_accesses n m ≡ stopped f → P (ends (HostFault f) m)) where
  by_outcome : (o : Outcome) → unit_from n m ≡ o → P (step_of n m o)
  unfolding step_of
  by_outcome (completed c e) is = ticked_cases n m (after_unit n m c e) P (goes_on c e is) (λ on full. word_faults)
  by_outcome (intercepted r c) is = exits r c is
  by_outcome (faulted f) is = faults f is

  pub step_cases : P (step n m)
  unfolding step
  step_cases = by_outcome (unit_from n m) refl

-- how a step ends a run: never as budget used
pub data Ends : Step → Type 0 where
  goes_on : {m : Machine} → Ends (goes m)
  exits : {r : Reason} {m : Machine} → Ends (ends (Intercepted r) m)
  faults : {f : Failure} {m : Machine} → Ends (ends (HostFault f) m)

pub step_ends : (n : Numbers) (m : Machine) → Ends (step n m)
step_ends n m = step_cases n m Ends (λ c e is next u. goes_on) (λ r c is. exits) (λ f is. faults) (λ f is. faults)

-- the machine that a step leaves
abbrev pub left_by_lem : Step → Machine
left_by_lem (goes m) = m
left_by_lem (ends e m) = m

-- a property of the machine that every step keeps, a run keeps
module _ (n : Numbers) (P : Machine → Type 0) (step_keeps : (m : Machine) → P m → P (left_by_lem (step n m))) where
  onward_keeps : (rest : Machine → Ended) → ((m : Machine) → P m → P (rest m).machine) → (s : Step) → P (left_by_lem s)
      → P (onward rest s).machine
  unfolding onward counted
  onward_keeps rest later (goes m) p = later m p
  onward_keeps rest later (ends e m) p = p

  pub run_keeps_steps : (b : ℕ) (m : Machine) → P m → P (run b n m).machine
  unfolding run
  run_keeps_steps zero m p = p
  run_keeps_steps (suc b) m p = onward_keeps (run b n) (λ k q. run_keeps_steps b k q) (step n m) (step_keeps m p)

-- a property of the machine that completed units, interceptions, the interval timer's fields and its word keep, a run keeps
module _ (n : Numbers) (P : Machine → Type 0) (unit_keeps : (m : Machine) (c : Cpu) (e : Effects) → P m → P (after_unit n m c e))
    (tick-keeps : (request residue : ℕ) (m : Machine) → P m → P (with_tick request residue m))
    (word_keeps : (behind : ℕ → Walk) (at : List Located) (w : ℕ) (m : Machine) → P m → P (with_word behind at w m))
    (by_exit : (r : Reason) (m : Machine) (c : Cpu) → P m → P (answered r (after_interception m c))) where
  pub step_keeps : (m : Machine) → P m → P (left_by_lem (step n m))
  step_keeps m p =
      step_cases n m (λ s. P (left_by_lem s)) (λ c e is next u. update_keeps n m _ P tick-keeps (word_keeps _) (unit_keeps m c e p) u)
      (λ r c is. by_exit r m c p) (λ f is. p) (λ f is. p)

  pub run_keeps : (b : ℕ) (m : Machine) → P m → P (run b n m).machine
  run_keeps b m p = run_keeps_steps n P step_keeps b m p

-- units completed

pub units_within : (b : ℕ) (n : Numbers) (m : Machine) → (run b n m).units ≤ b
unfolding run onward counted
units_within zero n m = omega arith
units_within (suc b) n m = within (λ k. units_within b n k) (step n m)
  where
    within : ((k : Machine) → (run b n k).units ≤ b) → (s : Step) → (onward (run b n) s).units ≤ suc b
    within later (goes k) = suc-le-suc (later k)
    within later (ends e k) = omega arith

-- a run goes on from where it used its budget

-- units counted on top
abbrev pub more : ℕ → Ended → Ended
more u e = record { end = e.end; units = u + e.units; machine = e.machine }

-- what a run of `b` units more makes of how a run ended
abbrev pub continued : ℕ → Numbers → Machine → ℕ → End → Ended
continued b n m u (Intercepted r) = record { end = Intercepted r; units = u; machine = m }
continued b n m u (HostFault f) = record { end = HostFault f; units = u; machine = m }
continued b n m u BudgetUsed = more u (run b n m)

abbrev pub continuing : ℕ → Numbers → Ended → Ended
continuing b n e = continued b n e.machine e.units e.end

counted_continued : (b : ℕ) (n : Numbers) (m : Machine) (u : ℕ) (e : End) → counted (continued b n m u e) ≡ continued b n m (suc u) e
unfolding counted
counted_continued b n m u (Intercepted r) = refl
counted_continued b n m u (HostFault f) = refl
counted_continued b n m u BudgetUsed = rw suc-add

pub run-add : (a b : ℕ) (n : Numbers) (m : Machine) → run (a + b) n m ≡ continuing b n (run a n m)
unfolding run onward counted
run-add zero b n m = rw (zero-add b, zero-add (run b n m).units)
run-add (suc a) b n m = rw suc-add (by_step (λ k. run-add a b n k) (step_ends n m))
  where
    by_step : ((k : Machine) → run (a + b) n k ≡ continuing b n (run a n k)) → {s : Step} → Ends s
        → onward (run (a + b) n) s ≡ continuing b n (onward (run a n) s)
    by_step later (goes_on {m = k}) = ap counted (later k) ∙ counted_continued b n _ _ (run a n k).end
    by_step later exits = refl
    by_step later faults = refl

-- two answers of a run that are one have one end and as many units

pub same_end : {e e' : End} {u u' : ℕ} → run_answer e u ≡ run_answer e' u' → e ≡ e'
same_end e = ap end_or e
  where
    end_or : RunAnswer → End
    end_or (Ok s) = s.end
    end_or (Err refusal) = BudgetUsed

pub same_units : {e e' : End} {u u' : ℕ} → run_answer e u ≡ run_answer e' u' → u ≡ u'
same_units e = ap units_or e
  where
    units_or : RunAnswer → ℕ
    units_or (Ok s) = s.units
    units_or (Err refusal) = 0

-- the run operation, by cases: refused, entry failing, running
module _ (n : Numbers) (r storage keys : List ℕ) (P : Result → Type 0)
    (refused : (refusal : Refusal) → run_verdict n r storage keys ≡ Err refusal
    → P (record { answer = Err refusal; table = nowhere; description = r; storage = storage; keys = keys }))
    (failing : run_verdict n r storage keys ≡ no_refusal → entry_good (guest_of r) ≡ false
    → P (result_of n (record { end = Intercepted Validity; units = 0; machine = machine_of n r storage keys })))
    (running : run_verdict n r storage keys ≡ no_refusal → entry_good (guest_of r) ≡ true → P (result_of n (run n.budget n (machine_of n r storage keys)))) where
  by_verdict : (v : Verdict) → run_verdict n r storage keys ≡ v → P (run_as n r storage keys v)
  unfolding run_as
  by_verdict (Err number) e = refused number e
  by_verdict (Ok _) e = by_entry (entry_good (guest_of r)) refl
    where
      by_entry : (b : Bool) → entry_good (guest_of r) ≡ b
          → P (cond b (result_of n (run n.budget n (machine_of n r storage keys)))
          (result_of n (record { end = Intercepted Validity; units = 0; machine = machine_of n r storage keys })))
      by_entry true g = running e g
      by_entry false g = failing e g

  pub run_of_cases : P (run_of n r storage keys)
  unfolding run_of
  run_of_cases = by_verdict (run_verdict n r storage keys) refl
