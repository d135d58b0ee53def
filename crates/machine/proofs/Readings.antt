-- Two readings of one clock: the value that a unit at STCK stores, the clock at each unit of a run, and that the values of two units differ.
-- Assumes nothing.
use Prim.Native.Nat.{ℕ, zero, suc, ◌+◌, ◌*◌, ◌%◌, ◌^◌, ◌≤◌, ◌<◌}
use native.Mathlib.Omega.{arith}
use native.Mathlib.Nat.{mul-le-mul, mul-lt-mul_of_pos_right}
use mathlib.Core.Path.{◌≡◌, refl, ap, sym, ◌∙◌}
use mathlib.Core.Bool.{Bool, true, false, cond, false≢true}
use mathlib.Core.List.{List, [], ◌∷◌}
use lib.ListN.{length}
use borrow.Author.Tests.{eq-eqb}
use Rattle.machine.specs.declared.Class.TheVariants.{Stck}
use Rattle.machine.specs.declared.Cpu.{Cpu}
use Rattle.machine.specs.declared.Guest.{Guest}
use Rattle.machine.specs.declared.Numbers.{Numbers}
use Rattle.machine.specs.declared.Reason.{Reason}
use Rattle.machine.specs.Words.{double_at, double_bytes}
use Rattle.machine.specs.Record.{guest_of, cpu_of}
use Rattle.machine.specs.Psw.{instruction_address, malformed, with_condition_code}
use Rattle.machine.specs.Time.{guest_clock}
use Rattle.machine.specs.Host.{Located}
use Rattle.machine.specs.Addresses.{Access, reached, denied, Accesses, all, stopped, and_then, access, accesses, span, when_reached}
use Rattle.machine.specs.Opcodes.{length_of, number_of, has, find, opcode_of}
use Rattle.machine.specs.Outcomes.{Effects, Outcome, completed, intercepted, faulted, Progress}
use Rattle.machine.specs.Interruptions.{with_bytes, bytes_of}
use Rattle.machine.specs.Execute.{address_part, operand_address, next, finish, storing, store_clock, execute}
use Rattle.machine.specs.Units.{intercepts, misaligned, decoded, halfword, half_of, reading, fetch_third, fetch_second, instruction, unit}
use Rattle.machine.specs.Run.{Machine, Step, goes, ends, step, counted, onward, unit_from, run}
use Rattle.machine.specs.Refusals.{most_units, most_time, run_verdict, no_refusal}
use Rattle.machine.specs.Operations.{Result, result_of, machine_of, run_of}
use Rattle.machine.specs.Readings.{begun, with_first, with_second, StoresClock, before_unit, ReadingsAreTheGuestClock, TwoReadingsDiffer}
use Rattle.machine.specs.Courses.{units_in}
use Rattle.machine.proofs.Tests.{on_either_arm}
use Rattle.machine.proofs.Laws.{double_of_double_bytes, guest_of-with_results}
use Rattle.machine.proofs.Verdicts.{accepted_budget, accepted_time, accepted-some_time}
use Rattle.machine.proofs.Runs.{run_keeps_steps, units_within, run_of_cases}
use Rattle.machine.proofs.Resumption.{Clocked, step_clocked}
use Rattle.machine.proofs.Backed.{step-guest}

-- STCK by the table of opcodes, in both architectures
stck_opcode : (system370 : Bool) → opcode_of system370 0xb205 ≡ record { length = 2; privileged = false; alignment = 1; class = Stck }
unfolding opcode_of length_of number_of has find
stck_opcode system370 = refl

-- its operand may stand anywhere
unaligned : (a : ℕ) → misaligned 1 a ≡ false
unfolding misaligned
unaligned a = rw (eq-eqb (a % 1) 0 (omega arith))

-- what a unit with a PSW that is well formed comes to: an exit, or its instruction
data Comes (x : Progress) : Outcome → Type 0 where
  exits : {r : Reason} {c : Cpu} → Comes x (intercepted r c)
  goes_on : Comes x (instruction x)

past_test : (x : Progress) (b : Bool) (u v : Outcome) → b ≡ false → Comes x v → Comes x (cond b u v)
past_test x true u v none later = absurd (false≢true (sym none))
past_test x false u v none later = later

by_list : (n : Numbers) (m : Machine) → malformed (cpu_of m.description) ≡ false → Comes (begun n m) (unit_from n m)
unfolding unit_from unit
by_list n m well = search (past_test, on_either_arm (Comes (begun n m)), exits, goes_on, well) depth 12

-- where it completes, it is its instruction
past_list : (x : Progress) {o : Outcome} (d : Cpu) (e : Effects) → Comes x o → o ≡ completed d e → instruction x ≡ completed d e
past_list x d e exits is = cc
past_list x d e goes_on is = is

-- the instruction, where it is an STCK whose operand is reached
at_stck : (x : Progress) (first second operand : List Located) → instruction_address x.cpu % 2 ≡ 0 → halfword x 0 ≡ all first
    → half_of first ≡ 0xb205 → halfword (with_first x first) 1 ≡ all second
    → accesses (access x.guest x.view x.cpu true) (span x.cpu (operand_address (with_second (with_first x first) second)) 8) ≡ all operand
    → instruction x
    ≡ finish (with_second (with_first x first) second) (next (with_second (with_first x first) second) (with_condition_code x.cpu 0)) []
    (with_bytes operand (double_bytes (guest_clock x.guest x.clock)))
unfolding instruction fetch_second fetch_third decoded intercepts execute store_clock storing when_reached reading halfword
    operand_address address_part
at_stck x first second operand even one stck two there =
    rw (even, one, stck, stck_opcode x.cpu.psw.system370) (rw (two, unaligned (operand_address (with_second (with_first x first) second)), there))

-- as many bytes are reached as were asked for
length_of-reached : (one : ℕ → Access) (asked : List ℕ) (ls : List Located) → accesses one asked ≡ all ls → length ls ≡ length asked
unfolding accesses and_then
length_of-reached one [] ls e = let none : ls ≡ [] = cc in rw none
length_of-reached one (a ∷ more) ls e = by_first (λ ls is. length_of-reached one more ls is) (one a) (accesses one more) refl ls e
  where
    by_first : ((ls : List Located) → accesses one more ≡ all ls → length ls ≡ length more) → (first : Access) (rest : Accesses)
        → accesses one more ≡ rest → (ls : List Located) → and_then first rest ≡ all ls → length ls ≡ suc (length more)
    by_first later (denied f) rest is ls e = cc
    by_first later (reached l) (stopped f) is ls e = cc
    by_first later (reached l) (all rest) is ls e = let same : ls ≡ l ∷ rest = cc in rw same (ap suc (later rest is))

length_of-span : (c : Cpu) (a n : ℕ) → length (span c a n) ≡ n
unfolding span
length_of-span c a zero = refl
length_of-span c a (suc n) = ap suc (length_of-span c (a + 1) n)

bytes_of-with_bytes : (ls : List Located) (bytes : List ℕ) → length ls ≡ length bytes → bytes_of (with_bytes ls bytes) ≡ bytes
unfolding with_bytes
bytes_of-with_bytes [] [] e = refl
bytes_of-with_bytes [] (b ∷ bytes) e = absurd (omega arith)
bytes_of-with_bytes (l ∷ ls) [] e = absurd (omega arith)
bytes_of-with_bytes (l ∷ ls) (b ∷ bytes) e = ap (λ (more : List ℕ). b ∷ more) (bytes_of-with_bytes ls bytes (omega arith))

stores_of : Outcome → List Located
stores_of (completed c e) = e.stores
stores_of (intercepted r c) = []
stores_of (faulted f) = []

-- a unit that executes STCK stores the guest clock of its start, at its operand
module _ (n : Numbers) (m : Machine) (value : ℕ) (s : StoresClock n m value) where
  abbrev clock_now : ℕ
  clock_now = guest_clock (guest_of m.description) m.clock

  stores_now : s.effects.stores ≡ with_bytes s.operand (double_bytes clock_now)
  unfolding finish stores_of
  stores_now =
      ap stores_of
      (sym (past_list (begun n m) s.cpu s.effects (by_list n m s.well_formed) s.completes)
      ∙ at_stck (begun n m) s.first s.second s.operand s.even s.first_read s.stck s.second_read s.reached)

  stored_now : value ≡ clock_now
  unfolding guest_clock
  stored_now =
      let eight : length s.operand ≡ 8 = length_of-reached _ _ s.operand s.reached ∙ length_of-span _ _ 8 in
      let bytes = bytes_of-with_bytes s.operand (double_bytes clock_now) eight in
      sym s.stored ∙ ap (λ (ls : List Located). double_at (bytes_of ls) 0) stores_now ∙ ap (λ bs. double_at bs 0) bytes
      ∙ double_of_double_bytes clock_now ∙ omega arith

  stores_value : s.effects.stores ≡ with_bytes s.operand (double_bytes value)
  stores_value = stores_now ∙ ap (λ v. with_bytes s.operand (double_bytes v)) (sym stored_now)

-- the clock and the guest at each unit of a run
run_clocked : (i b : ℕ) (n : Numbers) (m : Machine) → i ≤ (run b n m).units
    → (run i n m).machine.clock % 2 ^ 64 ≡ (m.clock + i * n.time) % 2 ^ 64
unfolding run onward counted
run_clocked zero b n m h = omega arith
run_clocked (suc i) zero n m h = absurd (omega arith)
run_clocked (suc i) (suc b) n m h = by_step (λ next. run_clocked i b n next) (step n m) (step_clocked n m) h
  where
    by_step : ((next : Machine) → i ≤ (run b n next).units → (run i n next).machine.clock % 2 ^ 64 ≡ (next.clock + i * n.time) % 2 ^ 64)
        → (s : Step) → Clocked n m s → suc i ≤ (onward (run b n) s).units
        → (onward (run i n) s).machine.clock % 2 ^ 64 ≡ (m.clock + suc i * n.time) % 2 ^ 64
    by_step later (goes next) clocked h = later next (omega arith) ∙ omega arith
    by_step later (ends end next) other h = absurd (omega arith)

run-guest : (i : ℕ) (n : Numbers) (m : Machine) → guest_of (run i n m).machine.description ≡ guest_of m.description
run-guest i n m =
    run_keeps_steps n (λ (k : Machine). guest_of k.description ≡ guest_of m.description) (λ k same. step-guest n k ∙ same) i m refl

-- in a run of so many units, a unit that executes STCK stores the guest clock of the run's start and its own units' time
reading_in_run : (n : Numbers) (m : Machine) (i value : ℕ) → i ≤ (run n.budget n m).units → StoresClock n (run i n m).machine value
    → value ≡ (m.clock + i * n.time + (guest_of m.description).epoch) % 2 ^ 64
unfolding guest_clock
reading_in_run n m i value within s =
    stored_now n _ value s ∙ ap (λ (g : Guest). ((run i n m).machine.clock + g.epoch) % 2 ^ 64) (run-guest i n m)
    ∙ omega (arith, run_clocked i n.budget n m within)

module _ (n : Numbers) (r storage keys : List ℕ) where
  abbrev start : Machine
  start = machine_of n r storage keys

  -- a run that counts units was accepted, and they are the definition's
  abbrev Ran : ℕ → Result → Type 0
  Ran i result = i < units_in result.answer → (run_verdict n r storage keys ≡ no_refusal) × (units_in result.answer ≡ (run n.budget n start).units)

  ran : (i : ℕ) → Ran i (run_of n r storage keys)
  unfolding result_of
  ran i =
      run_of_cases n r storage keys (Ran i) (λ number refused h. absurd (omega arith)) (λ accepted bad h. absurd (omega arith))
      (λ accepted good h. (accepted, refl))

  -- what a unit of it that executes STCK stores
  pub reading_of_run : (i value : ℕ) → i < units_in (run_of n r storage keys).answer → StoresClock n (before_unit n r storage keys i) value
      → value ≡ (n.clock + i * n.time + (guest_of r).epoch) % 2 ^ 64
  unfolding machine_of
  reading_of_run i value within s =
      reading_in_run n start i value (omega (arith, (ran i within).1)) s
      ∙ ap (λ (g : Guest). (n.clock + i * n.time + g.epoch) % 2 ^ 64) (guest_of-with_results _ r)

  -- before the clock would come round
  pub short : (i : ℕ) → i < units_in (run_of n r storage keys).answer → (0 < n.time) × (i * n.time < 2 ^ 64)
  short i within =
      let accepted = (ran i within).0 in
      let few : i ≤ most_units = omega (arith, (ran i within).1, units_within n.budget n start, accepted_budget n r storage keys accepted) in
      let product : i * n.time ≤ most_units * most_time = mul-le-mul few (accepted_time n r storage keys accepted) in
      (accepted-some_time n r storage keys accepted, omega arith)

pub readings_are_the_guest_clock : ReadingsAreTheGuestClock
unfolding guest_clock
readings_are_the_guest_clock n r storage keys end units ended i value within s =
    let same : units_in (run_of n r storage keys).answer ≡ units = ap units_in ended in
    (reading_of_run n r storage keys i value (omega arith) s, stores_value n _ value s)

-- two clocks less than 2^64 apart
pub apart : (clock epoch s t : ℕ) → s < t → t < 2 ^ 64 → (clock + s + epoch) % 2 ^ 64 ≡ (clock + t + epoch) % 2 ^ 64 → ⊥
apart clock epoch s t before soon same = omega arith

pub two_readings_differ : TwoReadingsDiffer
two_readings_differ n r storage keys end units ended i j v w before within first second same =
    let all-units : units_in (run_of n r storage keys).answer ≡ units = ap units_in ended in
    let soon = short n r storage keys j (omega arith) in
    apart n.clock (guest_of r).epoch (i * n.time) (j * n.time) (mul-lt-mul_of_pos_right before soon.0) soon.1
    (sym (reading_of_run n r storage keys i v (omega arith) first) ∙ same ∙ reading_of_run n r storage keys j w (omega arith) second)
