-- The program code of a host fault that ends a run is a byte.
-- Assumes nothing.
use Prim.Native.Nat.{ℕ, zero, suc, ◌%◌}
use native.Mathlib.Omega.{arith}
use mathlib.Core.Bool.{Bool, true, false, not, ◌&&◌}
use mathlib.Core.List.{List, [], ◌∷◌}
use lib.Dec.{eqb, ltb}
use Rattle.machine.specs.declared.Class.{Class}
use Rattle.machine.specs.declared.Class.TheVariants.{Lr, Ar, Sr, Bcr, Svc, La, Bc, St, L, Lpsw, Stctl, Lctl, Stck, Spt, Stpt, Mandatory, Unassigned}
use Rattle.machine.specs.declared.Cpu.{Cpu}
use Rattle.machine.specs.declared.End.{End}
use Rattle.machine.specs.declared.End.TheVariants.{Intercepted, HostFault, BudgetUsed}
use Rattle.machine.specs.declared.Failure.{Failure}
use Rattle.machine.specs.declared.Guest.{Guest}
use Rattle.machine.specs.declared.Numbers.{Numbers}
use Rattle.machine.specs.declared.Opcode.{Opcode}
use Rattle.machine.specs.declared.Reason.{Reason}
use Rattle.machine.specs.Psw.{problem_state, overflow_enabled, instruction_address}
use Rattle.machine.specs.Failures.{operation, privileged_operation, specification, fixed_point_overflow, exception_of}
use Rattle.machine.specs.Host.{Cell, Located}
use Rattle.machine.specs.Addresses.{Access, reached, denied, Accesses, all, stopped, and_then, accesses, when_reached}
use Rattle.machine.specs.Opcodes.{same_class}
use Rattle.machine.specs.Outcomes.{Effects, Outcome, completed, intercepted, faulted, Progress}
use Rattle.machine.specs.Interruptions.{Areas, interrupt, after_exception, exception}
use Rattle.machine.specs.Execute.{operand_address, finish, fetching, storing, summed, branch, execute, load_register, add, subtract, branch_register, branch_indexed, supervisor_call, load_address, store, load, load_psw, store_control, load_control, store_clock, set_timer, store_timer, intercept_instruction}
use Rattle.machine.specs.Units.{intercepts, misaligned, decoded, halfword, reading, fetch_third, fetch_second, started, instruction, unit}
use Rattle.machine.specs.Record.{guest_of, residue_of}
use Rattle.machine.specs.Interval.{active, falls}
use Rattle.machine.specs.Run.{Machine, goes, ends, counted, onward, unit_from, after_unit, word_accesses, risen_to, fallen_to, ticked, step_of, step, run}
use Rattle.machine.proofs.Tests.{on_either_arm}
use Rattle.laws.proofs.Codes.{Coded, CodedCell, CodedAccess, coded_view, coded_real_access, coded_access}

abbrev CodedAccesses : Accesses → Type 0
CodedAccesses (all ls) = Unit {0}
CodedAccesses (stopped f) = Coded f

data CodedOutcome : Outcome → Type 0 where
  completes : {c : Cpu} {e : Effects} → CodedOutcome (completed c e)
  exits : {r : Reason} {c : Cpu} → CodedOutcome (intercepted r c)
  faults : {f : Failure} → Coded f → CodedOutcome (faulted f)

-- the accesses to an operand

coded_and_then : (a : Access) (later : Accesses) → CodedAccess a → CodedAccesses later → CodedAccesses (and_then a later)
unfolding and_then
coded_and_then (denied f) later small rest = small
coded_and_then (reached l) (stopped f) small rest = rest
coded_and_then (reached l) (all ls) small rest = tt

coded_accesses : (one : ℕ → Access) → ((a : ℕ) → CodedAccess (one a)) → (places : List ℕ) → CodedAccesses (accesses one places)
unfolding accesses
coded_accesses one each [] = tt
coded_accesses one each (a ∷ more) = coded_and_then (one a) _ (each a) (coded_accesses one each more)

-- units

-- what holds where a byte is not reached, and where all are, holds of `when_reached`
reached_or_not : (a : Accesses) {otherwise : Failure → Outcome} {onward : List Located → Outcome} → CodedAccesses a
    → ((f : Failure) → Coded f → CodedOutcome (otherwise f)) → ((ls : List Located) → CodedOutcome (onward ls)) → CodedOutcome (when_reached a otherwise onward)
unfolding when_reached
reached_or_not (stopped f) small p q = p f small
reached_or_not (all ls) small p q = q ls

module _ (x : Progress) (cells : (a : ℕ) → CodedCell (x.view a)) where
  coded_interrupt : (c : Cpu) (areas : Areas) (code : ℕ) (fields : List ℕ) → CodedOutcome (interrupt x c areas code fields)
  unfolding interrupt
  coded_interrupt c areas code fields =
      reached_or_not _ (coded_accesses _ (coded_real_access x.guest x.view cells true) _) (λ f small. faults small) λ stores.
      reached_or_not _ (coded_accesses _ (coded_real_access x.guest x.view cells false) _) (λ f small. faults small) λ fetched. completes

  coded_exception : (c : Cpu) (f : Failure) → Coded f → CodedOutcome (exception x c f)
  unfolding exception
  coded_exception c f small = search (on_either_arm CodedOutcome, exits, faults, coded_interrupt (after_exception x c f))

  coded_fetching : (a n : ℕ) (after : List ℕ → Cpu) → CodedOutcome (fetching x a n after)
  unfolding fetching finish
  coded_fetching a n after =
      reached_or_not _ (coded_accesses _ (coded_access x.guest x.view cells x.cpu false) _) (coded_exception x.cpu) λ operand. completes

  coded_storing : (a : ℕ) (bytes : List ℕ) (c : Cpu) → CodedOutcome (storing x a bytes c)
  unfolding storing finish
  coded_storing a bytes c =
      reached_or_not _ (coded_accesses _ (coded_access x.guest x.view cells x.cpu true) _) (coded_exception x.cpu) λ operand. completes

  coded_summed : (sum : ℕ) (overflow : Bool) → CodedOutcome (summed x sum overflow)
  unfolding summed finish
  coded_summed sum overflow =
      on_either_arm CodedOutcome (overflow && overflow_enabled x.cpu) (coded_exception _ (exception_of fixed_point_overflow) (omega arith)) completes

  coded_execute : (class : Class) → CodedOutcome (execute class x)
  unfolding execute load_register add subtract branch_register branch_indexed supervisor_call load_address store load load_psw
      store_control load_control store_clock set_timer store_timer intercept_instruction branch finish
  coded_execute Lr = completes
  coded_execute Ar = coded_summed _ _
  coded_execute Sr = coded_summed _ _
  coded_execute Bcr = completes
  coded_execute Svc = coded_interrupt _ _ _ _
  coded_execute La = completes
  coded_execute Bc = completes
  coded_execute St = coded_storing _ _ _
  coded_execute L = coded_fetching _ _ _
  coded_execute Lpsw = coded_fetching _ _ _
  coded_execute Stctl = coded_storing _ _ _
  coded_execute Lctl = coded_fetching _ _ _
  coded_execute Stck = coded_storing _ _ _
  coded_execute Spt = coded_fetching _ _ _
  coded_execute Stpt = coded_storing _ _ _
  coded_execute Mandatory = exits
  coded_execute Unassigned = coded_exception _ (exception_of operation) (omega arith)

  coded_decoded : (o : Opcode) → CodedOutcome (decoded x o)
  unfolding decoded intercept_instruction
  coded_decoded o =
      on_either_arm CodedOutcome (same_class o.class Unassigned) (coded_exception _ (exception_of operation) (omega arith))
      (on_either_arm CodedOutcome (o.privileged && problem_state x.cpu) (coded_exception _ (exception_of privileged_operation) (omega arith))
      (on_either_arm CodedOutcome (intercepts o.class x) exits
      (on_either_arm CodedOutcome (misaligned o.alignment (operand_address x)) (coded_exception _ (exception_of specification) (omega arith))
      (coded_execute o.class))))

  coded_halfword : (n : ℕ) → CodedAccesses (halfword x n)
  unfolding halfword
  coded_halfword n = coded_accesses _ (coded_access x.guest x.view cells x.cpu false) _

coded_third : (x : Progress) → ((a : ℕ) → CodedCell (x.view a)) → CodedOutcome (fetch_third x)
unfolding fetch_third reading
coded_third x cells =
    on_either_arm CodedOutcome (ltb x.text.ilc 3) (coded_decoded x cells _)
    (reached_or_not _ (coded_halfword x cells 2) (coded_exception x cells x.cpu) λ third. coded_decoded _ cells _)

coded_second : (x : Progress) → ((a : ℕ) → CodedCell (x.view a)) → CodedOutcome (fetch_second x)
unfolding fetch_second reading
coded_second x cells =
    on_either_arm CodedOutcome (ltb x.text.ilc 2) (coded_decoded x cells _)
    (reached_or_not _ (coded_halfword x cells 1) (coded_exception x cells x.cpu) λ second. coded_third _ cells)

coded_instruction : (x : Progress) → ((a : ℕ) → CodedCell (x.view a)) → CodedOutcome (instruction x)
unfolding instruction reading
coded_instruction x cells =
    on_either_arm CodedOutcome (eqb (instruction_address x.cpu % 2) 1) (coded_exception x cells x.cpu (exception_of specification) (omega arith))
    (reached_or_not _ (coded_halfword x cells 0) (coded_exception x cells x.cpu) λ first. coded_second _ cells)

coded_unit : (g : Guest) (clock : ℕ) (requested : Bool) (v : ℕ → Cell) (c : Cpu) → ((a : ℕ) → CodedCell (v a)) → CodedOutcome (unit g clock requested v c)
unfolding unit
coded_unit g clock requested v c cells =
    search (on_either_arm CodedOutcome, exits, coded_exception (started g clock v c 0) cells c (exception_of specification) (omega arith), coded_instruction (started g clock v c 1) cells) depth 10

-- the run

abbrev pub CodedEnd : End → Type 0
CodedEnd (Intercepted r) = Unit {0}
CodedEnd (HostFault f) = Coded f
CodedEnd BudgetUsed = Unit {0}

-- the interval timer's word
coded_word : (n : Numbers) (m : Machine) → CodedAccesses (word_accesses n m)
unfolding word_accesses
coded_word n m = coded_accesses _ (coded_real_access (guest_of m.description) _ (coded_view _ _) true) _

pub coded_run : (b : ℕ) (n : Numbers) (m : Machine) → CodedEnd (run b n m).end
unfolding run step onward step_of ticked when_reached counted unit_from
coded_run zero n m = tt
coded_run (suc b) n m = by_outcome (λ after. coded_run b n after) (unit_from n m) (coded_unit _ _ _ _ _ (coded_view _ _))
  where
    Later : Type 0
    Later = (after : Machine) → CodedEnd (run b n after).end

    by_word : Later → (after : Machine) (a : Accesses) → CodedAccesses a
        → CodedEnd (onward (run b n) (when_reached a (λ f. ends (HostFault f) m) λ at. goes (fallen_to n m after at))).end
    by_word later after (stopped f) small = small
    by_word later after (all at) small = later (fallen_to n m after at)

    by_tick : Later → (after : Machine) → CodedEnd (onward (run b n) (ticked n m after)).end
    by_tick later after =
        on_either_arm (λ s. CodedEnd (onward (run b n) s).end) (not (active (guest_of m.description))) (later after)
        (on_either_arm (λ s. CodedEnd (onward (run b n) s).end) (not (falls (residue_of m.description) n.time)) (later (risen_to n m after))
        (by_word later after (word_accesses n m) (coded_word n m)))

    by_outcome : Later → (o : Outcome) → CodedOutcome o → CodedEnd (onward (run b n) (step_of n m o)).end
    by_outcome later (completed c e) completes = by_tick later (after_unit n m c e)
    by_outcome later (intercepted r c) exits = tt
    by_outcome later (faulted f) (faults small) = small
