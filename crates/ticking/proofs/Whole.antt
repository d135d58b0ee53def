-- A unit with its tick, as the loop holds it, by what the interval timer does.
-- Assumes nothing.
use Rattle.std.specs.Prelude.{Err, Ok, None, Some}
use Prim.Native.Nat.{ℕ, ◌<◌}
use mathlib.Core.Path.{◌≡◌, refl, ap, sym, subst, ◌∙◌}
use mathlib.Core.Bool.{Bool, true, false, ◌&&◌, false≢true}
use mathlib.Core.List.{List}
use Rattle.machine.specs.declared.Cpu.{Cpu}
use Rattle.machine.specs.declared.Failure.{Failure}
use Rattle.machine.specs.declared.Guest.{Guest}
use Rattle.machine.specs.declared.Numbers.{Numbers}
use Rattle.machine.specs.Words.{word_at}
use Rattle.machine.specs.Record.{system370_mode, guest_of, Bounded}
use Rattle.machine.specs.Interval.{active, period, residue_after, pending, request_after}
use Rattle.machine.specs.Host.{Host, host, view}
use Rattle.machine.specs.Outcomes.{Outcome, completed, intercepted, faulted}
use Rattle.machine.specs.Units.{unit}
use Rattle.machine.specs.Time.{clock_after, charged}
use Rattle.machine.specs.Run.{host_of, word_accesses, goes, ends, step}
use Rattle.interruptions.specs.declared.Done.{Done}
use Rattle.interruptions.specs.After.{event_of, left_by, Left}
use Rattle.execute.proofs.Reaching.{not_both}
use Rattle.ahead.specs.Completing.{is_complete, WordShut}
use Rattle.unit.specs.Foretelling.{Comes}
use Rattle.unit.proofs.Foretelling.{left_of}
use Rattle.charging.specs.Ending.{is_completed, end_of, of_xa}
use Rattle.remaining.specs.Remaining.{timed_at, machine_at, OfGuest}
use Rattle.charging.specs.Ticking.{Due, request_behind, WordFound, DueFound, is_shut, fault_end, Fallen}
use Rattle.remaining.proofs.Ticks.{guest_here}
use Rattle.remaining.proofs.Steps.{machine_off, off_stops}
use Rattle.remaining.proofs.Stepping.{Unit, untouched, leaves, step-leads, exit_steps, fall_steps, fault_steps}
use Rattle.remaining.proofs.Going.{machine_on, goes_on, ends_there, left_off, goes_off, goes_rising}

-- an outcome that completes a unit
complete_event : (o : Outcome) → is_completed (event_of o) ≡ is_complete o
unfolding is_completed event_of is_complete
complete_event (completed c e) = refl
complete_event (intercepted r c) = refl
complete_event (faulted f) = refl

-- the word is shut for the unit's host too
word_shut : (designation : ℕ) (g : Guest) (storage keys : List ℕ) (f : Failure) → WordFound designation g storage (Err f)
    → (n : Numbers) (d : List ℕ) → n.designation ≡ designation → guest_of d ≡ g → WordShut g (host designation storage keys) f
unfolding word_accesses host_of
word_shut designation g storage keys f found n d designated own =
    subst (λ j. WordShut j (host designation storage keys) f) own
    (subst (λ e. WordShut (guest_of d) (host e storage keys) f) designated
    (found.stands n (record { description = d; clock = 0; storage = storage; keys = keys }) designated refl own))

-- the tick that a unit begins with
pub record Begun (designation time : ℕ) (g : Guest) (request residue : ℕ) (storage : List ℕ) (due : Due) (asked : Bool) : Type 0 where
  pub found : DueFound designation g storage residue time due
  pub told : asked ≡ (active g && pending request)

pub begun_at : {designation time e t : ℕ} → e ≡ designation → t ≡ time → (g : Guest) (request residue : ℕ) (storage : List ℕ) (due : Due) (asked : Bool)
    → Begun designation time g request residue storage due asked → Begun e t g request residue storage due asked
begun_at {time = time} {e = e} designated timed g request residue storage due asked begun =
    subst (λ t. Begun e t g request residue storage due asked) (sym timed)
    (subst (λ e. Begun e time g request residue storage due asked) (sym designated) begun)

pub comes_at : {designation e : ℕ} → e ≡ designation → (g : Guest) (c : Cpu) (clock : ℕ) (storage keys : List ℕ) (due : Due) (asked : Bool) (done : Done) (s k : List ℕ)
    {shut : Bool} → shut ≡ is_shut due → Comes shut (host designation storage keys) g c (unit g clock asked (view g (host designation storage keys)) c) done s k
    → Comes (is_shut due) (host e storage keys) g c (unit g clock asked (view g (host e storage keys)) c) done s k
comes_at {e = e} designated g c clock storage keys due asked done s k {shut = shut} is comes =
    subst (λ b. Comes b (host e storage keys) g c (unit g clock asked (view g (host e storage keys)) c) done s k) is
    (subst (λ e. Comes shut (host e storage keys) g c (unit g clock asked (view g (host e storage keys)) c) done s k) (sym designated) comes)

module _ (n : Numbers) (g : Guest) (d : List ℕ) (of : OfGuest g d) (c : Cpu) (bounded : Bounded c) (kind : c.psw.system370 ≡ system370_mode g.mode)
    (request residue : ℕ) (small : residue < period) (clock : ℕ) (storage keys : List ℕ) (due : Due) (asked : Bool) where
  abbrev h : Host
  h = host n.designation storage keys

  abbrev o : Outcome
  o = unit g clock asked (view g h) c

  module _ (begun : Begun n.designation n.time g request residue storage due asked) (done : Done) (s k : List ℕ) (comes : Comes (is_shut due) h g c o done s k) where
    -- a unit that was not told ahead is put into effect
    clear_left : (is_shut due && is_completed done.event) ≡ false → Left h g c o done s k
    clear_left = by_due due begun.found comes
      where
        by_due : (due : Due) → DueFound n.designation g storage residue n.time due → Comes (is_shut due) h g c o done s k
            → (is_shut due && is_completed done.event) ≡ false → Left h g c o done s k
        by_due None found comes clear = comes.0 refl
        by_due (Some (Ok p)) found comes clear = comes.0 refl
        by_due (Some (Err f)) (on, full, place) comes clear =
            let told = comes.1 refl f (word_shut n.designation g storage keys f place n d refl of.own) in
            left_of h g c o done (sym (complete_event o) ∙ sym (ap is_completed told.event) ∙ clear) told

    module _ (clear : (is_shut due && is_completed done.event) ≡ false) (to : Cpu) (lasting : Bounded to) where
      abbrev u : Unit
      u = record { event = done.event; cpu = to }

      left : Left h g c o done s k
      left = clear_left clear

      -- a completed unit
      pub goes_to : is_completed done.event ≡ true → of_xa to ≡ of_xa (charged (left_by c done) n.time) → (request' residue' : ℕ) (s' : List ℕ)
          → (active g ≡ true → Fallen due request s request' s' × (residue' ≡ residue_after residue n.time)) → (active g ≡ false → s' ≡ s)
          → step n (machine_at g d c request residue clock storage keys) ≡ goes (machine_at g d to request' residue' (clock_after clock n.time) s' k)
      goes_to whole state request' residue' s' falls-on stays = by_active (active g) refl
        where
          by_due : (due : Due) → (on : active g ≡ true) → DueFound n.designation g storage residue n.time due → (is_shut due && is_completed done.event) ≡ false → Fallen due request s request' s'
              → residue' ≡ residue_after residue n.time
              → step n (timed_at d c request residue clock storage keys) ≡ goes (timed_at d to request' residue' (clock_after clock n.time) s' k)
          by_due None on found seen (same, stored) rises =
              goes_rising n g d of c bounded kind request residue (λ _. small) clock storage keys asked begun.told done s k left whole to lasting state on (found on)
              ∙ (λ i. goes (timed_at d to (sym same i) (sym rises i) (clock_after clock n.time) (sym stored i) k))
          by_due (Some (Ok p)) on (on', full, place) seen (same, stored) rises =
              step-leads n d (of.timed on) of.own c bounded kind request residue small clock storage keys u lasting s k begun.told
              (leaves h g c o n.time done s k left true whole to state)
              ∙ fall_steps n d (of.timed on) of.own c bounded kind request residue small clock storage keys u lasting s k on whole full
              (place.stands n (timed_at d c request residue clock storage keys) refl refl (guest_here n d (of.timed on) of.own c bounded kind request residue small clock storage keys))
              ∙ goes_on d clock n.time (record { event = done.event; cpu = to; request = request_after request (word_at s p); residue = residue_after residue n.time }) _ k done.event whole
              ∙ (λ i. goes (timed_at d to (sym same i) (sym rises i) (clock_after clock n.time) (sym stored i) k))
          by_due (Some (Err f)) on found seen fallen rises = not_both whole seen

          by_active : (b : Bool) → active g ≡ b
              → step n (machine_at g d c request residue clock storage keys) ≡ goes (machine_at g d to request' residue' (clock_after clock n.time) s' k)
          by_active false off =
              goes_off n g d of c bounded kind request residue (λ _. small) clock storage keys asked begun.told done s k left whole to lasting state off request' residue'
              ∙ ap (λ s. goes (machine_at g d to request' residue' (clock_after clock n.time) s k)) (sym (stays off))
          by_active true on =
              ap (step n) (machine_on g d on c request residue clock storage keys)
              ∙ by_due due on begun.found clear (falls-on on).0 (falls-on on).1
              ∙ ap goes (sym (machine_on g d on to request' residue' (clock_after clock n.time) s' k))

      -- an exit
      pub stops_to : is_completed done.event ≡ false → of_xa to ≡ of_xa (left_by c done) → (request' : ℕ) → (active g ≡ true → request' ≡ request_behind done.event request)
          → step n (machine_at g d c request residue clock storage keys) ≡ ends (end_of done.event) (machine_at g d to request' residue clock s k)
      stops_to exits state request' behind = by_active (active g) refl
        where
          by_active : (b : Bool) → active g ≡ b
              → step n (machine_at g d c request residue clock storage keys) ≡ ends (end_of done.event) (machine_at g d to request' residue clock s k)
          by_active false off =
              ap (step n) (machine_off g d off c request residue clock storage keys)
              ∙ off_stops n d of.long of.own off c bounded kind clock storage keys to lasting s k done
              (left_off n g d of c bounded kind request residue (λ _. small) clock storage keys asked begun.told done s k left off) exits state
              ∙ ap (ends (end_of done.event)) (sym (machine_off g d off to request' residue clock s k))
          by_active true on =
              ap (step n) (machine_on g d on c request residue clock storage keys)
              ∙ step-leads n d (of.timed on) of.own c bounded kind request residue small clock storage keys u lasting s k begun.told
              (leaves h g c o n.time done s k left false exits to state)
              ∙ exit_steps n d (of.timed on) of.own c bounded kind request residue small clock storage keys u lasting s k exits
              ∙ ends_there d clock n.time (untouched u request residue) s k done.event exits
              ∙ (λ i. ends (end_of done.event) (timed_at d to (sym (behind on) i) residue clock s k))
              ∙ ap (ends (end_of done.event)) (sym (machine_on g d on to request' residue clock s k))

    -- a unit that would complete, with its word out of reach
    pub faults_to : (is_shut due && is_completed done.event) ≡ true
        → step n (machine_at g d c request residue clock storage keys) ≡ ends (fault_end due) (machine_at g d c request residue clock s k)
    faults_to = by_due due begun.found comes
      where
        by_due : (due : Due) → DueFound n.designation g storage residue n.time due → Comes (is_shut due) h g c o done s k
            → (is_shut due && is_completed done.event) ≡ true
            → step n (machine_at g d c request residue clock storage keys) ≡ ends (fault_end due) (machine_at g d c request residue clock s k)
        by_due None found comes seen = absurd (false≢true seen)
        by_due (Some (Ok p)) found comes seen = absurd (false≢true seen)
        by_due (Some (Err f)) (on, full, place) comes whole =
            let told = comes.1 refl f (word_shut n.designation g storage keys f place n d refl of.own) in
            ap (step n) (machine_on g d on c request residue clock storage keys)
            ∙ fault_steps n d (of.timed on) of.own c bounded kind request residue small clock storage keys on full f
            (place.stands n (timed_at d c request residue clock storage keys) refl refl (guest_here n d (of.timed on) of.own c bounded kind request residue small clock storage keys))
            (ap (λ b. is_completed (event_of (unit g clock b (view g h) c))) (sym begun.told) ∙ sym (ap is_completed told.event) ∙ whole)
            ∙ ap (ends (fault_end (Some (Err f)))) (sym (machine_on g d on c request residue clock storage keys))
            ∙ (λ i. ends (fault_end (Some (Err f))) (machine_at g d c request residue clock (sym told.bytes i) (sym told.marks i)))
