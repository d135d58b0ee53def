-- A unit with its tick, and the rest of the run behind it.
-- Assumes nothing.
use Prim.Native.Nat.{ℕ, ◌<◌}
use mathlib.Core.Path.{◌≡◌, refl, ap, sym, ◌∙◌}
use mathlib.Core.Bool.{Bool, true, false, cond, ◌&&◌}
use mathlib.Core.List.{List}
use lib.ListN.{length}
use lib.Seq.{sets}
use Rattle.machine.specs.declared.Cpu.{Cpu}
use Rattle.machine.specs.declared.End.TheVariants as end
use Rattle.machine.specs.declared.Failure.{Failure}
use Rattle.machine.specs.declared.Guest.{Guest}
use Rattle.machine.specs.declared.Numbers.{Numbers}
use Rattle.machine.specs.Words.{word_at, word_bytes}
use Rattle.machine.specs.Record.{long_length, system370_mode, guest_of, with_cpu, with_interval, Bounded}
use Rattle.machine.specs.Interval.{active, period, falls, residue_after, word_after, pending, without_t, request_after}
use Rattle.machine.specs.Time.{clock_after, charged}
use Rattle.machine.specs.Host.{Host, host, backing, view, stored}
use Rattle.machine.specs.Addresses.{stopped}
use Rattle.machine.specs.Outcomes.{Outcome, completed, intercepted, faulted}
use Rattle.machine.specs.Units.{unit}
use Rattle.machine.specs.Run.{Machine, host_of, behind_of, marked_by, after_unit, after_interception, clears_t, answered, Step, goes, ends, word_accesses, ticked, step_of, step}
use Rattle.interruptions.specs.declared.Done.{Done}
use Rattle.interruptions.specs.declared.Event.{Event}
use Rattle.interruptions.specs.declared.Event.TheVariants.{Completed, Intercepted, Faulted}
use Rattle.interruptions.specs.After.{event_of, cpu_after, storage_after, keys_after, left_by, Left}
use Rattle.execute.proofs.Reaching.{not_both}
use Rattle.charging.specs.Ending.{is_completed, of_xa}
use Rattle.remaining.specs.Remaining.{timed_at}
use Rattle.interval.specs.Standing.{StandsAt}
use Rattle.charging.specs.Ticking.{request_behind}
use Rattle.charging.proofs.States.{record_of_xa}
use Rattle.remaining.proofs.Ticks as here

-- what a unit leaves: how it ended, and the state, time charged where it completed
pub record Unit : Type 0 where
  pub event : Event
  pub cpu : Cpu

-- and with its tick
pub record Ticked : Type 0 where
  pub event : Event
  pub cpu : Cpu
  pub request : ℕ
  pub residue : ℕ

-- what an outcome leaves, time charged where it completes a unit
pub record LeftBy (h : Host) (g : Guest) (c : Cpu) (o : Outcome) (time : ℕ) (u : Unit) (storage keys : List ℕ) : Type 0 where
  pub event : u.event ≡ event_of o
  pub cpu : of_xa u.cpu ≡ of_xa (cond (is_completed (event_of o)) (charged (cpu_after c o) time) (cpu_after c o))
  pub bytes : storage ≡ storage_after (backing g h) o h.storage
  pub marks : keys ≡ keys_after (backing g h) o h.keys

-- what a unit leaves that no update of the timer follows
abbrev pub untouched : Unit → ℕ → ℕ → Ticked
untouched u request residue = record { event = u.event; cpu = u.cpu; request = request_behind u.event request; residue = residue }

-- the step of the definition that a unit with its tick is
unfoldable pub step_to : List ℕ → ℕ → ℕ → Ticked → List ℕ → List ℕ → Event → Step
step_to d clock time r storage keys Completed = goes (timed_at d r.cpu r.request r.residue (clock_after clock time) storage keys)
step_to d clock time r storage keys (Intercepted why) = ends (end.Intercepted why) (timed_at d r.cpu r.request r.residue clock storage keys)
step_to d clock time r storage keys (Faulted f) = ends (end.HostFault f) (timed_at d r.cpu r.request r.residue clock storage keys)

-- what a unit that is done leaves, time charged where it completed
pub leaves : (h : Host) (g : Guest) (c : Cpu) (o : Outcome) (time : ℕ) (done : Done) (s k : List ℕ) → Left h g c o done s k → (b : Bool) → is_completed done.event ≡ b
    → (to : Cpu) → of_xa to ≡ of_xa (cond b (charged (left_by c done) time) (left_by c done)) → LeftBy h g c o time (record { event = done.event; cpu = to }) s k
leaves h g c o time done s k left b told to state = record {
  event = left.event;
  cpu = state ∙ (λ i. of_xa (cond ((sym told ∙ ap is_completed left.event) i) (charged (left.cpu i) time) (left.cpu i)));
  bytes = left.bytes;
  marks = left.marks;
}

module _ (n : Numbers) (d : List ℕ) {g : Guest} (long : length d ≡ long_length) (own : guest_of d ≡ g) (c : Cpu) (bounded : Bounded c)
    (architecture : c.psw.system370 ≡ system370_mode g.mode) (request residue : ℕ) (small : residue < period) (clock : ℕ) (storage keys : List ℕ) where
  abbrev h : Host
  h = host n.designation storage keys

  abbrev m : Machine
  m = timed_at d c request residue clock storage keys

  module _ (u : Unit) (lasting : Bounded u.cpu) (s k : List ℕ) where
    -- the machine that a completed unit leaves
    abbrev pub after : Machine
    after = timed_at d u.cpu request residue (clock_after clock n.time) s k

    -- what the unit leads to, by how it ended
    abbrev pub leads : Event → Step
    leads Completed = ticked n m after
    leads (Intercepted r) = ends (end.Intercepted r) (timed_at d u.cpu (cond (clears_t r) (without_t request) request) residue clock s k)
    leads (Faulted f) = ends (end.HostFault f) (timed_at d u.cpu request residue clock s k)

    again : (j : Cpu) → of_xa u.cpu ≡ of_xa j → with_cpu j m.description ≡ after.description
    again j state =
        sym (record_of_xa j m.description) ∙ ap (λ k. with_cpu k m.description) (sym state) ∙ record_of_xa u.cpu m.description
        ∙ here.again n d long own c bounded architecture request residue small clock storage keys u.cpu lasting

    by_outcome : (o : Outcome) → LeftBy h g c o n.time u s k → step_of n m o ≡ leads (event_of o)
    unfolding step_of event_of is_completed cpu_after storage_after keys_after after_unit behind_of host_of answered after_interception
    by_outcome (completed c' e) left =
        ap (ticked n m) (λ i. record {
          description = again (charged c' n.time) left.cpu i;
          clock = clock_after clock n.time;
          storage = ((λ j. stored (backing (here.guest_here n d long own c bounded architecture request residue small clock storage keys j) h) e.stores storage) ∙ sym left.bytes) i;
          keys = ((λ j. marked_by (backing (here.guest_here n d long own c bounded architecture request residue small clock storage keys j) h) e keys) ∙ sym left.marks) i;
        })
    by_outcome (intercepted r c') left =
        ap (ends (end.Intercepted r))
        ((λ i. answered r (record { description = again c' left.cpu i; clock = clock; storage = storage; keys = keys }))
        ∙ (λ i. answered r (record {
          description = sym (here.again n d long own c bounded architecture request residue small clock storage keys u.cpu lasting) i;
          clock = clock;
          storage = storage;
          keys = keys;
        }))
        ∙ here.exit_here n d long own c bounded architecture request residue small clock storage keys u.cpu lasting r
        ∙ (λ i. timed_at d u.cpu (cond (clears_t r) (without_t request) request) residue clock (sym left.bytes i) (sym left.marks i)))
    by_outcome (faulted f) left =
        ap (ends (end.HostFault f))
        (λ i. record {
          description = (sym (ap (with_interval request residue) (record_of_xa c d)) ∙ ap (λ (j : Cpu). with_interval request residue (with_cpu j d)) (sym left.cpu)
              ∙ ap (with_interval request residue) (record_of_xa u.cpu d)) i;
          clock = clock;
          storage = sym left.bytes i;
          keys = sym left.marks i;
        })

    pub step-leads : {asked : Bool} → asked ≡ (active g && pending request) → LeftBy h g c (unit g clock asked (view g h) c) n.time u s k → step n m ≡ leads u.event
    unfolding step
    step-leads {asked} told left =
        ap (step_of n m) (here.unit_here n d long own c bounded architecture request residue small clock storage keys ∙ ap (λ b. unit g clock b (view g h) c) (sym told))
        ∙ by_outcome (unit g clock asked (view g h) c) left
        ∙ ap leads (sym left.event)

    -- a unit that no update follows
    pub exit_steps : is_completed u.event ≡ false → leads u.event ≡ step_to d clock n.time (untouched u request residue) s k u.event
    unfolding step_to request_behind is_completed
    exit_steps = by_event u.event
      where
        by_event : (e : Event) → is_completed e ≡ false
            → leads e ≡ step_to d clock n.time (record { event = e; cpu = u.cpu; request = request_behind e request; residue = residue }) s k e
        by_event Completed exits = not_both refl exits
        by_event (Intercepted r) exits = refl
        by_event (Faulted f) exits = refl

    module _ (on : active g ≡ true) (whole : is_completed u.event ≡ true) where
      completes : (P : Event → Type 0) → P Completed → P u.event
      unfolding is_completed
      completes P p = by_event u.event whole
        where
          by_event : (e : Event) → is_completed e ≡ true → P e
          by_event Completed w = p
          by_event (Intercepted r) w = not_both w refl
          by_event (Faulted f) w = not_both w refl

      pub rise_steps : falls residue n.time ≡ false
          → leads u.event ≡ step_to d clock n.time (record { event = u.event; cpu = u.cpu; request = request; residue = residue_after residue n.time }) s k u.event
      unfolding step_to
      rise_steps short =
          completes (λ e. leads e ≡ step_to d clock n.time (record { event = e; cpu = u.cpu; request = request; residue = residue_after residue n.time }) s k e)
          (here.rises_here n d long own c bounded architecture request residue small clock storage keys u.cpu (clock_after clock n.time) s k on short)

      pub fall_steps : falls residue n.time ≡ true → {p : ℕ} → StandsAt n m p
          → leads u.event ≡ step_to d clock n.time
          (record { event = u.event; cpu = u.cpu; request = request_after request (word_at s p); residue = residue_after residue n.time })
          (sets s p (word_bytes (word_after (word_at s p)))) k u.event
      unfolding step_to
      fall_steps full {p} stands =
          completes (λ e. leads e ≡ step_to d clock n.time
          (record { event = e; cpu = u.cpu; request = request_after request (word_at s p); residue = residue_after residue n.time })
          (sets s p (word_bytes (word_after (word_at s p)))) k e)
          (here.fell_here n d long own c bounded architecture request residue small clock storage keys u.cpu (clock_after clock n.time) s k on full stands)

  -- a unit that completes, with its word out of reach
  pub fault_steps : active g ≡ true → falls residue n.time ≡ true → (f : Failure) → word_accesses n m ≡ stopped f
      → is_completed (event_of (unit g clock (active g && pending request) (view g h) c)) ≡ true → step n m ≡ ends (end.HostFault f) m
  unfolding step step_of event_of is_completed
  fault_steps on full f stop whole =
      ap (step_of n m) (here.unit_here n d long own c bounded architecture request residue small clock storage keys)
      ∙ by_whole (unit g clock (active g && pending request) (view g h) c) whole
    where
      by_whole : (o : Outcome) → is_completed (event_of o) ≡ true → step_of n m o ≡ ends (end.HostFault f) m
      by_whole (completed c' e) w = here.faults_here n d long own c bounded architecture request residue small clock storage keys (after_unit n m c' e) on full f stop
      by_whole (intercepted r c') w = not_both w refl
      by_whole (faulted f') w = not_both w refl
