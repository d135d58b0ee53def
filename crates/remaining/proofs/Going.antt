-- A completed unit with its tick, from the machine in hand to the machine in hand, where the interval timer's word does not fall.
-- Assumes nothing.
use Prim.Native.Nat.{ℕ, ◌<◌}
use mathlib.Core.Path.{◌≡◌, refl, ap, sym, subst, ◌∙◌}
use mathlib.Core.Bool.{Bool, true, false, cond, ◌&&◌}
use mathlib.Core.List.{List}
use Rattle.machine.specs.declared.Cpu.{Cpu}
use Rattle.machine.specs.declared.Guest.{Guest}
use Rattle.machine.specs.declared.Numbers.{Numbers}
use Rattle.machine.specs.Record.{system370_mode, with_cpu, with_interval, Bounded}
use Rattle.machine.specs.Interval.{active, period, falls, residue_after, pending}
use Rattle.machine.specs.Host.{Host, host, view}
use Rattle.machine.specs.Outcomes.{Outcome}
use Rattle.machine.specs.Units.{unit}
use Rattle.machine.specs.Time.{clock_after, charged}
use Rattle.machine.specs.Run.{goes, ends, step}
use Rattle.interruptions.specs.declared.Done.{Done}
use Rattle.interruptions.specs.declared.Event.{Event}
use Rattle.interruptions.specs.declared.Event.TheVariants.{Completed, Intercepted, Faulted}
use Rattle.interruptions.specs.After.{left_by, Left}
use Rattle.execute.proofs.Reaching.{not_both}
use Rattle.charging.specs.Ending.{is_completed, end_of, of_xa}
use Rattle.remaining.specs.Remaining.{timed_at, machine_at, OfGuest}
use Rattle.remaining.proofs.Steps.{machine_off, off_goes}
use Rattle.remaining.proofs.Stepping.{Unit, Ticked, step_to, leaves, step-leads, rise_steps}

-- the machine in hand, where the timer is active
pub machine_on : (g : Guest) (d : List ℕ) → active g ≡ true → (c : Cpu) (request residue clock : ℕ) (s k : List ℕ)
    → machine_at g d c request residue clock s k ≡ timed_at d c request residue clock s k
machine_on g d on c request residue clock s k =
    λ i. record { description = cond (on i) (with_interval request residue (with_cpu c d)) (with_cpu c d); clock = clock; storage = s; keys = k }

-- the residue means nothing where the timer is not active
pub residue_any : (g : Guest) (d : List ℕ) (c : Cpu) (request : ℕ) {residue other : ℕ} (clock : ℕ) (s k : List ℕ) → (active g ≡ true → residue ≡ other)
    → machine_at g d c request residue clock s k ≡ machine_at g d c request other clock s k
residue_any g d c request {residue} {other} clock s k same = by_active (active g) refl
  where
    by_active : (b : Bool) → active g ≡ b → machine_at g d c request residue clock s k ≡ machine_at g d c request other clock s k
    by_active true on = ap (λ r. machine_at g d c request r clock s k) (same on)
    by_active false off = machine_off g d off c request residue clock s k ∙ sym (machine_off g d off c request other clock s k)

-- a unit with its tick goes on where it completed, and otherwise ends the run
module _ (d : List ℕ) (clock time : ℕ) (r : Ticked) (s k : List ℕ) where
  pub goes_on : (e : Event) → is_completed e ≡ true
      → step_to d clock time r s k e ≡ goes (timed_at d r.cpu r.request r.residue (clock_after clock time) s k)
  unfolding step_to is_completed
  goes_on Completed whole = refl
  goes_on (Intercepted why) whole = not_both whole refl
  goes_on (Faulted f) whole = not_both whole refl

  pub ends_there : (e : Event) → is_completed e ≡ false → step_to d clock time r s k e ≡ ends (end_of e) (timed_at d r.cpu r.request r.residue clock s k)
  unfolding step_to is_completed end_of
  ends_there Completed exits = not_both refl exits
  ends_there (Intercepted why) exits = refl
  ends_there (Faulted f) exits = refl

module _ (n : Numbers) (g : Guest) (d : List ℕ) (of : OfGuest g d) (c : Cpu) (bounded : Bounded c) (kind : c.psw.system370 ≡ system370_mode g.mode)
    (request residue : ℕ) (small : active g ≡ true → residue < period) (clock : ℕ) (storage keys : List ℕ) (requested : Bool) (told : requested ≡ (active g && pending request)) where
  abbrev h : Host
  h = host n.designation storage keys

  abbrev o : Outcome
  o = unit g clock requested (view g h) c

  module _ (done : Done) (s k : List ℕ) (left : Left h g c o done s k) where
    -- no request stands where the timer is not active
    pub left_off : active g ≡ false → Left h g c (unit g clock false (view g h) c) done s k
    left_off off = subst (λ b. Left h g c (unit g clock b (view g h) c) done s k) (told ∙ ap (λ b. b && pending request) off) left

    module _ (whole : is_completed done.event ≡ true) (to : Cpu) (lasting : Bounded to) (state : of_xa to ≡ of_xa (charged (left_by c done) n.time)) where
      -- the timer is not active
      pub goes_off : active g ≡ false → (request' residue' : ℕ)
          → step n (machine_at g d c request residue clock storage keys) ≡ goes (machine_at g d to request' residue' (clock_after clock n.time) s k)
      goes_off off request' residue' =
          ap (step n) (machine_off g d off c request residue clock storage keys)
          ∙ off_goes n d of.long of.own off c bounded kind clock storage keys to lasting s k done (left_off off) whole state
          ∙ ap goes (sym (machine_off g d off to request' residue' (clock_after clock n.time) s k))

      -- it is, and its word does not fall
      pub goes_rising : active g ≡ true → falls residue n.time ≡ false
          → step n (timed_at d c request residue clock storage keys) ≡ goes (timed_at d to request (residue_after residue n.time) (clock_after clock n.time) s k)
      goes_rising on short =
          step-leads n d (of.timed on) of.own c bounded kind request residue (small on) clock storage keys u lasting s k told
          (leaves h g c o n.time done s k left true whole to state)
          ∙ rise_steps n d (of.timed on) of.own c bounded kind request residue (small on) clock storage keys u lasting s k on whole short
          ∙ goes_on d clock n.time (record { event = done.event; cpu = to; request = request; residue = residue_after residue n.time }) s k done.event whole
        where
          u : Unit
          u = record { event = done.event; cpu = to }

      pub goes_later : (active g ≡ true → falls residue n.time ≡ false) → (residue' : ℕ) → (active g ≡ true → residue' ≡ residue_after residue n.time)
          → step n (machine_at g d c request residue clock storage keys) ≡ goes (machine_at g d to request residue' (clock_after clock n.time) s k)
      goes_later short residue' rises = by_active (active g) refl
        where
          by_active : (b : Bool) → active g ≡ b
              → step n (machine_at g d c request residue clock storage keys) ≡ goes (machine_at g d to request residue' (clock_after clock n.time) s k)
          by_active false off = goes_off off request residue'
          by_active true on =
              ap (step n) (machine_on g d on c request residue clock storage keys)
              ∙ goes_rising on (short on)
              ∙ (λ i. goes (timed_at d to request (sym (rises on) i) (clock_after clock n.time) s k))
              ∙ ap goes (sym (machine_on g d on to request residue' (clock_after clock n.time) s k))
