-- A unit of the definition from the state in hand, and its tick.
-- Assumes nothing.
use Prim.Native.Nat.{ℕ, ◌%◌, ◌^◌, ◌<◌}
use native.Mathlib.Omega.{arith}
use mathlib.Core.Path.{◌≡◌, refl, ap, sym, ◌∙◌}
use mathlib.Core.Bool.{Bool, true, false, cond, ◌&&◌}
use mathlib.Core.List.{List}
use mathlib.Core.Logic.{inl}
use lib.ListN.{length}
use lib.Seq.{sets}
use Rattle.machine.specs.declared.Cpu.{Cpu}
use Rattle.machine.specs.declared.End.TheVariants.{HostFault}
use Rattle.machine.specs.declared.Failure.{Failure}
use Rattle.machine.specs.declared.Guest.{Guest}
use Rattle.machine.specs.declared.Numbers.{Numbers}
use Rattle.machine.specs.declared.Reason.{Reason}
use Rattle.machine.specs.Words.{word_at, word_bytes}
use Rattle.machine.specs.Record.{system370_mode, guest_of, cpu_of, with_cpu, request_of, residue_of, with_request, with_interval, Bounded}
use Rattle.machine.specs.Interval.{active, period, falls, residue_after, word_after, pending, without_t, request_after}
use Rattle.machine.specs.Host.{Host, host, view}
use Rattle.machine.specs.Addresses.{stopped, when_reached}
use Rattle.machine.specs.Units.{unit}
use Rattle.machine.specs.Run.{Machine, host_of, requested_by, unit_from, after_interception, clears_t, answered, goes, ends, with_tick, with_word, word_accesses, residue_from, risen_to, fallen_to, ticked}
use Rattle.machine.proofs.Laws.{byte_of-with_interval, guest_of-with_cpu, guest_of-with_interval, length-with_cpu, length-with_interval}
use Rattle.machine.proofs.Ticks.{request_of-with_interval, residue_of-with_interval}
use Rattle.laws.proofs.Lens.{cpu_of-with_cpu, with_cpu-with_cpu}
use Rattle.interval.specs.Standing.{StandsAt}
use Rattle.remaining.specs.Remaining.{timed_at}
use Rattle.remaining.proofs.Fields.{with_interval-with_cpu, with_request-with_interval, with_interval-with_interval}

module _ (n : Numbers) (d : List ℕ) {g : Guest} (long : length d ≡ 208) (here : guest_of d ≡ g) (c : Cpu) (bounded : Bounded c)
    (architecture : c.psw.system370 ≡ system370_mode g.mode) (request residue : ℕ) (small : residue < period) (clock : ℕ) (storage keys : List ℕ) where
  abbrev pub h : Host
  h = host n.designation storage keys

  abbrev pub m : Machine
  m = timed_at d c request residue clock storage keys

  pub guest_here : guest_of m.description ≡ g
  guest_here = guest_of-with_interval request residue (with_cpu c d) ∙ guest_of-with_cpu c d ∙ here

  request_here : request_of m.description ≡ request
  request_here = request_of-with_interval request residue (with_cpu c d) (omega (arith, length-with_cpu c d, long))

  residue_here : residue_of m.description ≡ residue
  residue_here =
      let fits : residue % 2 ^ 32 ≡ residue = omega (arith, small) in
      residue_of-with_interval request residue (with_cpu c d) (omega (arith, length-with_cpu c d, long)) ∙ fits

  cpu_here : cpu_of m.description ≡ c
  unfolding guest_of
  cpu_here =
      ap cpu_of (with_interval-with_cpu request residue c bounded d)
      ∙ cpu_of-with_cpu c (with_interval request residue d) (omega (arith, length-with_interval request residue d, long)) bounded
      (architecture ∙ sym (ap (λ (k : Guest). system370_mode k.mode) here) ∙ sym (ap system370_mode (byte_of-with_interval request residue d 4 (inl (omega arith)))))

  -- the unit that starts here
  pub unit_here : unit_from n m ≡ unit g clock (active g && pending request) (view g h) c
  unfolding unit_from host_of requested_by
  unit_here = λ i. unit (guest_here i) clock (active (guest_here i) && pending (request_here i)) (view (guest_here i) h) (cpu_here i)

  module _ (to : Cpu) (lasting : Bounded to) where
    -- another state put into the record
    pub again : with_cpu to m.description ≡ with_interval request residue (with_cpu to d)
    again =
        ap (with_cpu to) (with_interval-with_cpu request residue c bounded d)
        ∙ with_cpu-with_cpu c to (with_interval request residue d) (bounded.control.long ∙ sym lasting.control.long) (bounded.general.long ∙ sym lasting.general.long)
        ∙ sym (with_interval-with_cpu request residue to lasting d)

    -- an interception: T is cleared by the exit that it makes
    pub exit_here : (r : Reason) → answered r (after_interception m to) ≡ timed_at d to (cond (clears_t r) (without_t request) request) residue clock storage keys
    unfolding answered after_interception
    exit_here r = λ i. record { description = ended i; clock = clock; storage = storage; keys = keys }
      where
        by_clearing : (b : Bool) → cond b (with_request (without_t (request_of (with_cpu to m.description))) (with_cpu to m.description)) (with_cpu to m.description)
            ≡ with_interval (cond b (without_t request) request) residue (with_cpu to d)
        by_clearing true =
            (λ i. with_request (without_t (request_of (again i))) (again i))
            ∙ with_request-with_interval (without_t (request_of (with_interval request residue (with_cpu to d)))) request residue (with_cpu to d)
            ∙ ap (λ q. with_interval (without_t q) residue (with_cpu to d)) (request_of-with_interval request residue (with_cpu to d) (omega (arith, length-with_cpu to d, long)))
        by_clearing false = again

        ended : cond (clears_t r) (with_request (without_t (request_of (with_cpu to m.description))) (with_cpu to m.description)) (with_cpu to m.description)
            ≡ with_interval (cond (clears_t r) (without_t request) request) residue (with_cpu to d)
        ended = by_clearing (clears_t r)

  -- the tick behind a completed unit, which left this

  active_here : active (guest_of m.description) ≡ active g
  active_here = ap active guest_here

  falls_here : falls (residue_of m.description) n.time ≡ falls residue n.time
  falls_here = ap (λ r. falls r n.time) residue_here

  pub faults_here : (after : Machine) → active g ≡ true → falls residue n.time ≡ true → (f : Failure) → word_accesses n m ≡ stopped f
      → ticked n m after ≡ ends (HostFault f) m
  unfolding ticked when_reached
  faults_here after on full f stop = rw (active_here, on, falls_here, full, stop) refl

  module _ (to : Cpu) (later : ℕ) (s k : List ℕ) where
    abbrev after : Machine
    after = timed_at d to request residue later s k

    pub rises_here : active g ≡ true → falls residue n.time ≡ false
        → ticked n m after ≡ goes (timed_at d to request (residue_after residue n.time) later s k)
    unfolding ticked risen_to with_tick residue_from
    rises_here on short =
        rw (active_here, on, falls_here, short)
        (λ i. goes (record {
          description = ((λ j. with_interval (request_here j) (residue_after (residue_here j) n.time) after.description)
              ∙ with_interval-with_interval request (residue_after residue n.time) request residue (with_cpu to d)) i;
          clock = later;
          storage = s;
          keys = k;
        }))

    pub fell_here : active g ≡ true → falls residue n.time ≡ true → {p : ℕ} → StandsAt n m p
        → ticked n m after
        ≡ goes (timed_at d to (request_after request (word_at s p)) (residue_after residue n.time) later (sets s p (word_bytes (word_after (word_at s p)))) k)
    unfolding ticked when_reached fallen_to with_tick with_word residue_from
    fell_here on full {p} stands =
        rw (active_here, on, falls_here, full, stands.reached)
        (λ i. goes (record {
          description = ((λ j. with_interval (request_after (request_here j) (stands.read after j)) (residue_after (residue_here j) n.time) after.description)
              ∙ with_interval-with_interval (request_after request (word_at s p)) (residue_after residue n.time) request residue (with_cpu to d)) i;
          clock = later;
          storage = (stands.put _ s ∙ ap (λ (w : ℕ). sets s p (word_bytes (word_after w))) (stands.read after)) i;
          keys = k;
        }))
