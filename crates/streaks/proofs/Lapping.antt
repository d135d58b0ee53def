-- The units of a lap, one by one, are steps of the definition, and so is a unit that a lap does not do.
-- Assumes nothing.
use Rattle.std.specs.Prelude.{Some}
use Prim.Native.Nat.{ℕ, suc, ◌+◌, ◌^◌, ◌≤◌, ◌<◌}
use native.Mathlib.Omega.{arith}
use native.Mathlib.Numerals.{add-one}
use mathlib.Core.Path.{◌≡◌, refl, ap, sym, subst, ◌∙◌}
use mathlib.Core.Bool.{Bool, true, false, cond, ◌&&◌}
use mathlib.Core.List.{List}
use Rattle.machine.specs.declared.Cpu.{Cpu}
use Rattle.machine.specs.declared.Guest.{Guest}
use Rattle.machine.specs.declared.Numbers.{Numbers}
use Rattle.machine.specs.declared.Psw.{Psw}
use Rattle.machine.specs.Record.{system370_mode, Bounded}
use Rattle.machine.specs.Psw.{basic_control, instruction_address, condition_code, with_timer}
use Rattle.machine.specs.Words.{bits}
use Rattle.machine.specs.Interval.{active, period, falls, residue_after, pending}
use Rattle.machine.specs.Time.{clock_after, timer_after, charged}
use Rattle.machine.specs.Host.{host, view}
use Rattle.machine.specs.Units.{started, instruction, unit}
use Rattle.machine.specs.Run.{Machine, goes, step}
use Rattle.interruptions.specs.declared.Done.{Done}
use Rattle.interruptions.specs.declared.Event.TheVariants.{Completed}
use Rattle.interruptions.specs.After.{left_by, Left}
use Rattle.interruptions.proofs.Leaving.{none_set}
use Rattle.charging.specs.Ending.{is_completed, of_xa}
use Rattle.remaining.specs.Remaining.{machine_at, OfGuest, Remains}
use Rattle.remaining.proofs.Remaining.{one_more}
use Rattle.remaining.proofs.Going.{goes_later}
use Rattle.psws.specs.Psws.{state, Wrapped}
use Rattle.psws.proofs.Placed.{fits_left, fits_right, system370_at, at_start}
use Rattle.calm.specs.Calming.{clocks, timers, residues, Calm}
use Rattle.calm.proofs.Charging.{clock_more, clock_start, timer_more, timer_start, residue-start, residue_more, not_falling}
use Rattle.steps.specs.Texting.{done_as}
use Rattle.turns.proofs.Rising.{residue_below}
use Rattle.lap.specs.Lapping.{Stance, stance, Turns, Near, Goes, none, more}

pub small_clock : (clock time k : ℕ) → clocks clock time k < 2 ^ 64
unfolding clocks
small_clock clock time k = omega arith

pub small_timer : (timer time k : ℕ) → timers timer time k < 2 ^ 64
unfolding timers
small_timer timer time k = omega arith

-- one unit
one_clock : (clock time : ℕ) → clock_after clock time ≡ clocks clock time 1
unfolding clock_after clocks
one_clock clock time = omega arith

one_timer : (timer time : ℕ) → timer_after timer time ≡ timers timer time 1
unfolding timer_after timers
one_timer timer time = omega arith

one_residue : (residue time : ℕ) → falls residue time ≡ false → residue_after residue time ≡ residues residue time 1
unfolding residue_after residues
one_residue residue time rises = rw rises (omega arith)

-- a condition code is a number of two bits
small_code : (c : Cpu) → condition_code c < 4
small_code c = by_form (basic_control c)
  where
    by_form : (b : Bool) → cond b (bits 32 2 3 c.psw.right) (bits 32 18 19 c.psw.left) < 4
    by_form true = omega arith
    by_form false = omega arith

module _ (n : Numbers) (g : Guest) (d : List ℕ) (of : OfGuest g d) {designation time : ℕ} (designated : n.designation ≡ designation) (timed : n.time ≡ time)
    (request : ℕ) (requested : Bool) (told : requested ≡ (active g && pending request)) (keys : List ℕ) (c : Cpu) (bounded : Bounded c)
    (kind : c.psw.system370 ≡ system370_mode g.mode) (residue clock : ℕ) (most : ℕ) (calm : Calm g clock time requested c most)
    (rising : active g ≡ true → residues residue time most < period) where
  -- the state at a stance after so many units
  abbrev pub state_at : Stance → ℕ → Cpu
  state_at at k = record { psw = at.psw; timer = timers c.timer time k; control = c.control; general = record { words = at.words } }

  abbrev pub standing : Stance → ℕ → Machine
  standing at k = machine_at g d (state_at at k) request (residues residue time k) (clocks clock time k) at.storage keys

  bounded_at : (at : Stance) (k : ℕ) → Near c.psw at → Bounded (state_at at k)
  bounded_at at k near = record {
    left = rw near.own (fits_left c.psw bounded.left bounded.right near.address near.code near.small);
    right = rw near.own (fits_right c.psw bounded.left bounded.right near.address near.code near.small);
    timer = small_timer c.timer time k;
    control = bounded.control;
    general = near.sixteen;
  }

  -- one of them
  turn : (at to : Stance) (k : ℕ) → k < most → Near c.psw at → Near c.psw to → Turns g designation keys c.control at to
      → step n (standing at k) ≡ goes (standing to (suc k))
  unfolding is_completed left_by charged with_timer
  turn at to k less here there turns =
      goes_later n g d of (state_at at k) (bounded_at at k here)
      (system370_at c.psw bounded.left bounded.right here.address here.code here.small (state_at at k) here.own ∙ kind) request (residues residue time k)
      (λ on. residue_below residue time k most (omega arith) (rising on)) (clocks clock time k) at.storage keys requested told done to.storage keys left refl (state_at to (suc k))
      (bounded_at to (suc k) there)
      (λ i. of_xa (record { psw = to.psw; timer = (sym (ap (timers c.timer time) (add-one k)) ∙ sym (timer_more c.timer time k) ∙ ap (timer_after (timers c.timer time k)) (sym timed)) i; control = c.control; general = record { words = turns.words i } }))
      (λ on. ap (falls (residues residue time k)) timed ∙ short on) (residues residue time (suc k))
      (λ on. sym (ap (residues residue time) (add-one k)) ∙ sym (residue_more residue time k (short on)) ∙ ap (residue_after (residues residue time k)) (sym timed))
      ∙ ap (λ t. goes (machine_at g d (state_at to (suc k)) request (residues residue time (suc k)) t to.storage keys))
      (ap (clock_after (clocks clock time k)) timed ∙ clock_more clock time k ∙ ap (clocks clock time) (add-one k))
    where
      done : Done
      done = record {
        event = Completed;
        psw = to.psw;
        timer = timers c.timer time k;
        control = c.control;
        set = Some (turns.register, turns.value);
      }

      short : active g ≡ true → falls (residues residue time k) time ≡ false
      short on = not_falling residue time k most less (rising on)

      listed : (e : ℕ) → unit g (clocks clock time k) requested (view g (host e at.storage keys)) (state_at at k)
          ≡ instruction (started g (clocks clock time k) (view g (host e at.storage keys)) (state_at at k) 1)
      listed e = calm k less _ (state_at at k) (record { address = here.address; code = here.code; small = here.small; psw = here.own; control = refl }) refl

      left : Left (host n.designation at.storage keys) g (state_at at k)
          (unit g (clocks clock time k) requested (view g (host n.designation at.storage keys)) (state_at at k)) done to.storage keys
      left =
          subst (λ e. Left (host e at.storage keys) g (state_at at k) (unit g (clocks clock time k) requested (view g (host e at.storage keys)) (state_at at k)) done to.storage keys)
          (sym designated)
          (subst (λ o. Left (host designation at.storage keys) g (state_at at k) o done to.storage keys) (sym (listed designation))
          (turns.left (clocks clock time k) (state_at at k) refl refl refl))

  module _ (word : clock < 2 ^ 64) (storage : List ℕ) (budget : ℕ) (start : Machine) (before : ℕ) (within : before + most ≤ budget)
      (remains : Remains n budget start before (machine_at g d c request residue clock storage keys)) where
    abbrev from : Stance
    from = stance c.psw c.general.words storage

    no_time : machine_at g d c request residue clock storage keys ≡ standing from 0
    no_time = λ i. machine_at g d (record { psw = c.psw; timer = sym (timer_start c.timer time bounded.timer) i; control = c.control; general = c.general }) request
        (sym (residue-start residue time) i) (sym (clock_start clock time word) i) storage keys

    pub units_on : {units : ℕ} {to : Stance} → Goes c.psw g designation keys c.control from units to → units ≤ most → Near c.psw to
        → Remains n budget start (before + units) (standing to units)
    units_on none few there = subst (λ u. Remains n budget start u (standing from 0)) (omega arith) (subst (Remains n budget start before) no_time remains)
    units_on (more {units = k} {at = at} {to = to} goes-there here turns) few there =
        subst (λ u. Remains n budget start u (standing to (suc k))) (omega arith)
        (one_more n budget start (before + k) (standing at k) (units_on goes-there (omega arith) here) (omega arith)
        (turn at to k (omega arith) here there turns))

    -- a unit that a lap does not do
    module _ (some : 0 < most) (wrapped : Wrapped c.psw (instruction_address (state c.psw))) (psw' : Psw) (timer' : ℕ) (control' storage' : List ℕ)
        (left : Left (host designation storage keys) g c (instruction (started g clock (view g (host designation storage keys)) c 1))
        (done_as psw' timer' (record { words = control' })) storage' keys) where
      abbrev next : Cpu
      next = record { psw = psw'; timer = timers timer' time 1; control = record { words = control' }; general = c.general }

      abbrev done : Done
      done = done_as psw' timer' (record { words = control' })

      listed_now : (e : ℕ) → unit g clock requested (view g (host e storage keys)) c ≡ instruction (started g clock (view g (host e storage keys)) c 1)
      listed_now e =
          subst (λ t. unit g t requested (view g (host e storage keys)) c ≡ instruction (started g t (view g (host e storage keys)) c 1)) (clock_start clock time word)
          (calm 0 some (view g (host e storage keys)) c
          (record { address = instruction_address (state c.psw); code = condition_code (state c.psw); small = small_code (state c.psw); psw = sym (at_start c.psw bounded.left bounded.right wrapped); control = refl })
          (sym (timer_start c.timer time bounded.timer)))

      short_now : active g ≡ true → falls residue time ≡ false
      short_now on = ap (λ r. falls r time) (sym (residue-start residue time)) ∙ not_falling residue time 0 most some (rising on)

      small_now : active g ≡ true → residue < period
      small_now on = subst (λ r. r < period) (residue-start residue time) (residue_below residue time 0 most (omega arith) (rising on))

      left_now : Left (host n.designation storage keys) g c (unit g clock requested (view g (host n.designation storage keys)) c) done storage' keys
      left_now =
          subst (λ e. Left (host e storage keys) g c (unit g clock requested (view g (host e storage keys)) c) done storage' keys) (sym designated)
          (subst (λ o. Left (host designation storage keys) g c o done storage' keys) (sym (listed_now designation)) left)

      single_step : Bounded next
          → step n (machine_at g d c request residue clock storage keys) ≡ goes (machine_at g d next request (residues residue time 1) (clocks clock time 1) storage' keys)
      unfolding is_completed charged with_timer
      single_step lasting =
          goes_later n g d of c bounded kind request residue small_now clock storage keys requested told done storage' keys left_now refl next lasting
          ((λ i. of_xa (record { psw = psw'; timer = (sym (one_timer timer' time) ∙ ap (timer_after timer') (sym timed)) i; control = record { words = control' }; general = c.general }))
          ∙ ap (λ k. of_xa (charged k n.time)) (sym (none_set c Completed psw' timer' (record { words = control' }))))
          (λ on. ap (falls residue) timed ∙ short_now on) (residues residue time 1)
          (λ on. sym (one_residue residue time (short_now on)) ∙ ap (residue_after residue) (sym timed))
          ∙ ap (λ t. goes (machine_at g d next request (residues residue time 1) t storage' keys)) (ap (clock_after clock) timed ∙ one_clock clock time)

      pub single_on : Bounded next → Remains n budget start (before + 1) (machine_at g d next request (residues residue time 1) (clocks clock time 1) storage' keys)
      single_on lasting = one_more n budget start before (machine_at g d c request residue clock storage keys) remains (omega arith) (single_step lasting)
