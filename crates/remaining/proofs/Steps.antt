-- A run with its state in hand, unit by unit.
-- Assumes nothing.
use Prim.Native.Nat.{ℕ, ◌+◌, ◌-◌, ◌≤◌}
use native.Mathlib.Omega.{arith}
use mathlib.Core.Path.{◌≡◌, refl, ap, sym, ◌∙◌}
use mathlib.Core.Bool.{Bool, true, false, cond, not, ◌&&◌, false≢true}
use mathlib.Core.List.{List}
use lib.ListN.{length}
use Rattle.machine.specs.declared.Cpu.{Cpu}
use Rattle.machine.specs.declared.Guest.{Guest}
use Rattle.machine.specs.declared.Numbers.{Numbers}
use Rattle.machine.specs.declared.Reason.{Reason}
use Rattle.machine.specs.Words.{bit}
use Rattle.machine.specs.Record.{record_length, system370_mode, is_system370, guest_of, cpu_of, with_cpu, request_of, with_request, with_interval, Bounded}
use Rattle.machine.specs.Interval.{active, pending, without_t}
use Rattle.machine.specs.Time.{clock_after, charged}
use Rattle.machine.specs.Host.{Host, host, backing, view, stored}
use Rattle.machine.specs.Outcomes.{Outcome, completed, intercepted, faulted}
use Rattle.machine.specs.Units.{unit}
use Rattle.machine.specs.Run.{Machine, host_of, requested_by, unit_from, behind_of, marked_by, after_unit, after_interception, clears_t, answered, goes, ends, ticked, step_of, step, run}
use Rattle.machine.proofs.Laws.{guest_of-with_cpu}
use Rattle.machine.proofs.Runs.{more}
use Rattle.machine.proofs.Timer.{asked_for}
use Rattle.laws.proofs.Lens.{cpu_of-with_cpu, with_cpu-with_cpu}
use Rattle.interruptions.specs.declared.Done.{Done}
use Rattle.interruptions.specs.declared.Event.{Event}
use Rattle.interruptions.specs.After.{event_of, cpu_after, storage_after, keys_after, left_by, Left}
use Rattle.execute.proofs.Reaching.{not_both}
use Rattle.charging.specs.Ending.{is_completed, end_of, of_xa}
use Rattle.charging.proofs.States.{record_of_xa}
use Rattle.remaining.specs.Remaining.{plain_at, machine_at, Remains}

-- the interval timer of a 370-XA guest is not active
pub never_active : (g : Guest) → system370_mode g.mode ≡ false → active g ≡ false
unfolding active
never_active g xa = ap (λ b. b && not (bit 8 7 g.mode)) xa

-- the machine in hand, where the timer is not active
pub machine_off : (g : Guest) (d : List ℕ) → active g ≡ false → (c : Cpu) (request residue clock : ℕ) (s k : List ℕ)
    → machine_at g d c request residue clock s k ≡ plain_at d c clock s k
machine_off g d off c request residue clock s k =
    λ i. record { description = cond (off i) (with_interval request residue (with_cpu c d)) (with_cpu c d); clock = clock; storage = s; keys = k }

module _ (n : Numbers) (d : List ℕ) {g : Guest} (long : record_length ≤ length d) (here : guest_of d ≡ g) (off : active g ≡ false)
    (c : Cpu) (bounded : Bounded c) (kind : c.psw.system370 ≡ system370_mode g.mode) (clock : ℕ) (storage keys : List ℕ) where
  abbrev h : Host
  h = host n.designation storage keys

  abbrev m : Machine
  m = plain_at d c clock storage keys

  guest_here : guest_of (with_cpu c d) ≡ g
  guest_here = guest_of-with_cpu c d ∙ here

  idle : active (guest_of (with_cpu c d)) ≡ false
  idle = ap active guest_here ∙ off

  unasked : requested_by (with_cpu c d) ≡ false
  unfolding requested_by
  unasked = ap (λ b. b && pending (request_of (with_cpu c d))) idle

  own_mode : is_system370 d ≡ system370_mode g.mode
  unfolding guest_of
  own_mode = ap (λ k. system370_mode k.mode) here

  cpu_here : cpu_of (with_cpu c d) ≡ c
  cpu_here = cpu_of-with_cpu c d long bounded (kind ∙ sym own_mode)

  unit_here : unit_from n m ≡ unit g clock false (view g h) c
  unfolding unit_from host_of
  unit_here = λ i. unit (guest_here i) clock (unasked i) (view (guest_here i) h) (cpu_here i)

  -- the interval timer does nothing
  stays : (after : Machine) → ticked n m after ≡ goes after
  unfolding ticked
  stays after = rw idle

  module _ (to : Cpu) (lasting : Bounded to) (s k : List ℕ) where
    -- the state put into the record a second time
    again : (j : Cpu) → of_xa j ≡ of_xa to → with_cpu j (with_cpu c d) ≡ with_cpu to d
    again j same =
        sym (record_of_xa j (with_cpu c d)) ∙ ap (λ k. with_cpu k (with_cpu c d)) same ∙ record_of_xa to (with_cpu c d)
        ∙ with_cpu-with_cpu c to d (bounded.control.long ∙ sym lasting.control.long) (bounded.general.long ∙ sym lasting.general.long)

    -- no exit clears the request of a timer that is not active
    unanswered : (r : Reason) (c' : Cpu) → unit_from n m ≡ intercepted r c' → of_xa c' ≡ of_xa to → (b : Bool) → clears_t r ≡ b
        → cond b (with_request (without_t (request_of (with_cpu c' (with_cpu c d)))) (with_cpu c' (with_cpu c d))) (with_cpu c' (with_cpu c d)) ≡ with_cpu to d
    unanswered r c' is state true clears = absurd (false≢true (sym unasked ∙ asked_for n m r c' is clears))
    unanswered r c' is state false other = again c' state

    module _ (e : Event) where
      -- a completed unit
      goes_on : (o : Outcome) → e ≡ event_of o → is_completed e ≡ true → of_xa to ≡ of_xa (charged (cpu_after c o) n.time)
          → s ≡ storage_after (backing g h) o storage → k ≡ keys_after (backing g h) o keys
          → step_of n m o ≡ goes (plain_at d to (clock_after clock n.time) s k)
      unfolding event_of is_completed cpu_after storage_after keys_after step_of after_unit behind_of host_of
      goes_on (completed c' effects) ended whole state bytes marks =
          let same : after_unit n m c' effects ≡ plain_at d to (clock_after clock n.time) s k =
          λ i. record {
            description = again (charged c' n.time) (sym state) i;
            clock = clock_after clock n.time;
            storage = ((λ j. stored (backing (guest_here j) h) effects.stores storage) ∙ sym bytes) i;
            keys = ((λ j. marked_by (backing (guest_here j) h) effects keys) ∙ sym marks) i;
          }
          in
          stays (after_unit n m c' effects) ∙ ap goes same
      goes_on (intercepted r c') ended whole state bytes marks = not_both whole (ap is_completed ended)
      goes_on (faulted f) ended whole state bytes marks = not_both whole (ap is_completed ended)

      -- an exit
      stops_at : (o : Outcome) → unit_from n m ≡ o → e ≡ event_of o → is_completed e ≡ false → of_xa to ≡ of_xa (cpu_after c o) → s ≡ storage_after (backing g h) o storage → k ≡ keys_after (backing g h) o keys
          → step_of n m o ≡ ends (end_of e) (plain_at d to clock s k)
      unfolding event_of is_completed end_of cpu_after storage_after keys_after step_of answered after_interception
      stops_at (completed c' effects) is ended exits state bytes marks = not_both (ap is_completed ended) exits
      stops_at (intercepted r c') is ended exits state bytes marks = λ i. ends (ap end_of (sym ended) i) (record {
        description = unanswered r c' is (sym state) (clears_t r) refl i;
        clock = clock;
        storage = sym bytes i;
        keys = sym marks i;
      })
      stops_at (faulted f) is ended exits state bytes marks = λ i. ends (ap end_of (sym ended) i) (record {
        description = (sym (record_of_xa c d) ∙ ap (λ j. with_cpu j d) (sym state) ∙ record_of_xa to d) i;
        clock = clock;
        storage = sym bytes i;
        keys = sym marks i;
      })

    module _ (done : Done) (left : Left h g c (unit g clock false (view g h) c) done s k) where
      pub off_goes : is_completed done.event ≡ true → of_xa to ≡ of_xa (charged (left_by c done) n.time)
          → step n m ≡ goes (plain_at d to (clock_after clock n.time) s k)
      unfolding step
      off_goes whole state =
          ap (step_of n m) unit_here
          ∙ goes_on done.event (unit g clock false (view g h) c) left.event whole (state ∙ ap (λ j. of_xa (charged j n.time)) left.cpu) left.bytes left.marks

      pub off_stops : is_completed done.event ≡ false → of_xa to ≡ of_xa (left_by c done) → step n m ≡ ends (end_of done.event) (plain_at d to clock s k)
      unfolding step
      off_stops exits state =
          ap (step_of n m) unit_here
          ∙ stops_at done.event (unit g clock false (view g h) c) unit_here left.event exits (state ∙ ap of_xa left.cpu) left.bytes left.marks

pub remains_start : (n : Numbers) (budget : ℕ) (start : Machine) → Remains n budget start 0 start
remains_start n budget start =
    (λ i. record {
      end = (run budget n start).end;
      units = none_on_top (run budget n start).units i;
      machine = (run budget n start).machine;
    })
    ∙ ap (λ b. more 0 (run b n start)) all
  where
    none_on_top : (u : ℕ) → u ≡ 0 + u
    none_on_top u = omega arith

    all : budget ≡ budget - 0
    all = omega arith
