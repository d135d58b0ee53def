-- Two runs from one record, unit by unit: what they find and do is the same.
use Prim.Native.Nat.{ℕ, zero, suc, ◌+◌, ◌/◌, ◌≤◌, ◌<◌}
use mathlib.Core.Path.{◌≡◌, refl, sym, ap, ◌∙◌, subst}
use mathlib.Core.Bool.{Bool, true, false, cond, not}
use mathlib.Core.List.{List}
use mathlib.Core.Logic.{◌⊎◌, inl, inr}
use native.Mathlib.Omega.{arith}
use Rattle.machine.specs.declared.Cpu.{Cpu}
use Rattle.machine.specs.declared.End.{End}
use Rattle.machine.specs.declared.End.TheVariants.{HostFault}
use Rattle.machine.specs.declared.Failure.{Failure}
use Rattle.machine.specs.declared.Numbers.{Numbers}
use Rattle.machine.specs.declared.Reason.{Reason}
use Rattle.machine.specs.Words.{word_at, word_bytes}
use Rattle.machine.specs.Record.{guest_of, cpu_of, with_cpu, request_of, residue_of, with_interval}
use Rattle.machine.specs.Interval.{word_place, active, falls, residue_after, word_after, request_after}
use Rattle.machine.specs.Sizes.{frame_bytes}
use Rattle.machine.specs.Refusals.{run_verdict, no_refusal}
use Rattle.machine.specs.Entry.{entry_good}
use Rattle.machine.specs.Frames.{segment_place, page_place, SegmentInReach, PageInReach, Describes}
use Rattle.machine.specs.Host.{host, backing, view, Located}
use Rattle.machine.specs.Addresses.{real_access, Accesses, all, stopped, accesses, up_from, when_reached}
use Rattle.machine.specs.Sought.{fault_sought}
use Rattle.machine.specs.Interruptions.{with_bytes}
use Rattle.machine.specs.Outcomes.{Effects, Outcome, completed, intercepted, faulted}
use Rattle.machine.specs.Units.{unit}
use Rattle.machine.specs.Run.{Machine, host_of, requested_by, unit_from, behind_of, after_unit, after_interception, answered, with_tick, with_word, word_accesses, word_in, residue_from, risen_to, fallen_to, ticked, Step, goes, ends, step_of, step, Ended, counted, onward, run}
use Rattle.machine.specs.Isolation.{RunFrame, Agree}
use Rattle.machine.proofs.Laws.{guest_of-with_cpu, guest_of-with_request, guest_of-with_interval}
use Rattle.machine.proofs.Runs.{exit_keeps}
use Rattle.machine.proofs.FrameBytes.{In}
use Rattle.machine.proofs.Backing.{SameEntries, OfExtent, same_sought, same_backing, backed_by_guest_frame, same_view}
use Rattle.machine.proofs.Effects.{Outside, Alike, stored-alike, bytes-alike, marked_by-alike}
use Rattle.machine.specs.Walk.{Walk, at_frame}

module _ (n : Numbers) (r s₁ k₁ s₂ k₂ : List ℕ) where
  -- the machines of two runs that started with this record, these storages and these keys, after as many units
  pub record Twins (m₁ m₂ : Machine) : Type 0 where
    pub guest : guest_of m₁.description ≡ guest_of r
    pub description : m₁.description ≡ m₂.description
    pub clock : m₁.clock ≡ m₂.clock
    pub storage : Alike (In (RunFrame n r s₁ k₁)) s₁ s₂ m₁.storage m₂.storage
    pub keys : Alike (RunFrame n r s₁ k₁) k₁ k₂ m₁.keys m₂.keys

  pub record SameEnd (e₁ e₂ : Ended) : Type 0 where
    pub end : e₁.end ≡ e₂.end
    pub units : e₁.units ≡ e₂.units
    pub machine : Twins e₁.machine e₂.machine

  -- two steps that go on or end alike
  data SameStep : Step → Step → Type 0 where
    both_go : {a₁ a₂ : Machine} → Twins a₁ a₂ → SameStep (goes a₁) (goes a₂)
    both_end : {e : End} {a₁ a₂ : Machine} → Twins a₁ a₂ → SameStep (ends e a₁) (ends e a₂)

  module _ (agree : Agree n r s₁ k₁ s₂ k₂) (accepted : run_verdict n r s₁ k₁ ≡ no_refusal) where
    pub same_start : SameEntries (guest_of r) n.designation s₁ s₂
    same_start = record { lengths = agree.alike.lengths.0; entries = λ at i h. agree.alike.entries at i (record { accepted = accepted; describes = h }) }

    -- no entry that describes the extent lies in a guest frame
    entry-outside : (at i : ℕ) → Describes (guest_of r) n.designation s₁ at → at ≤ i → i < at + 4 → In (RunFrame n r s₁ k₁) i → ⊥
    entry-outside at i h low high frame = agree.apart at _ (record { accepted = accepted; describes = h }) frame (go h.which)
      where
        go : ((at ≡ segment_place n.designation h.page) × SegmentInReach n.designation s₁ h.page)
            ⊎ ((at ≡ page_place n.designation s₁ h.page) × PageInReach n.designation s₁ h.page) → at / frame_bytes ≡ i / frame_bytes
        go (inl w) = omega arith
        go (inr w) = omega arith

    entries_kept : (s l : List ℕ) → SameEntries (guest_of r) n.designation s₁ s → Outside (In (RunFrame n r s₁ k₁)) s l
        → SameEntries (guest_of r) n.designation s₁ l
    entries_kept s l start outside = record {
      lengths = start.lengths ∙ outside.kept;
      entries = λ at i h low high. start.entries at i h low high ∙ sym (outside.rest i (entry-outside at i h low high));
    }

    module _ (good : entry_good (guest_of r) ≡ true) where
      -- the host pages that the first run starts with
      abbrev pub pages : ℕ → Walk
      pages = backing (guest_of r) (host n.designation s₁ k₁)

      pub into_frames : (a f : ℕ) (p : Bool) → pages a ≡ at_frame f p → RunFrame n r s₁ k₁ f
      into_frames a f p e = record { accepted = accepted; guest = backed_by_guest_frame (guest_of r) n.designation s₁ k₁ good a e }

      pages_kept : (m : Machine) → guest_of m.description ≡ guest_of r → SameEntries (guest_of r) n.designation s₁ m.storage → behind_of n m ≡ pages
      unfolding behind_of host_of
      pages_kept m guest entries = ap (λ g. backing g (host_of n m)) guest ∙ sym (same_backing (guest_of r) n.designation s₁ m.storage entries good k₁ m.keys)

      module _ (m₁ m₂ : Machine) (t : Twins m₁ m₂) where
        entries₁ : SameEntries (guest_of r) n.designation s₁ m₁.storage
        entries₁ = entries_kept s₁ _ (record { lengths = refl; entries = λ _ _ _ _ _. refl }) t.storage.outside₁

        entries₂ : SameEntries (guest_of r) n.designation s₁ m₂.storage
        entries₂ = entries_kept s₂ _ same_start t.storage.outside₂

        -- both name the same table for a fault of the extent
        pub same_table : (f : Failure) → OfExtent (guest_of r) f
            → fault_sought n.designation m₁.storage f ≡ fault_sought n.designation m₂.storage f
        same_table f place =
            sym (same_sought (guest_of r) n.designation s₁ m₁.storage entries₁ good f place)
            ∙ same_sought (guest_of r) n.designation s₁ m₂.storage entries₂ good f place

        pub pages₁ : behind_of n m₁ ≡ pages
        pages₁ = pages_kept m₁ t.guest entries₁

        pages₂ : behind_of n m₂ ≡ pages
        pages₂ = pages_kept m₂ (ap guest_of (sym t.description) ∙ t.guest) entries₂

        same_views : view (guest_of m₁.description) (host_of n m₁) ≡ view (guest_of m₂.description) (host_of n m₂)
        unfolding behind_of host_of
        same_views =
            same_view (RunFrame n r s₁ k₁) _ _ _ _ (pages₁ ∙ sym pages₂) (λ a f p e. into_frames a f p (ap (λ behind. behind a) (sym pages₁) ∙ e))
            t.storage.inside t.keys.inside

        -- whatever a unit is, both find the same one
        same_unit : unit_from n m₁ ≡ unit_from n m₂
        unfolding unit_from
        same_unit =
            λ j. unit (guest_of (t.description j)) (t.clock j) (requested_by (t.description j)) (same_views j) (cpu_of (t.description j))

        same_word-accesses : word_accesses n m₁ ≡ word_accesses n m₂
        unfolding word_accesses
        same_word-accesses = λ j. accesses (real_access (guest_of (t.description j)) (same_views j) true) (up_from word_place 4)

        after-unit : (c : Cpu) (e : Effects) → Twins (after_unit n m₁ c e) (after_unit n m₂ c e)
        unfolding after_unit
        after-unit c e = record {
          guest = guest_of-with_cpu _ _ ∙ t.guest;
          description = ap (with_cpu _) t.description;
          clock = cc t.clock;
          storage = rw (pages₁, pages₂) (stored-alike (RunFrame n r s₁ k₁) _ into_frames s₁ s₂ e.stores _ _ t.storage);
          keys = rw (pages₁, pages₂) (marked_by-alike (RunFrame n r s₁ k₁) _ into_frames k₁ k₂ e _ _ t.keys);
        }

        after_interception_lem : (r : Reason) (c : Cpu) → Twins (answered r (after_interception m₁ c)) (answered r (after_interception m₂ c))
        unfolding answered after_interception
        after_interception_lem reason c = record {
          guest =
              exit_keeps (λ d. guest_of d ≡ guest_of r) (λ c d same. guest_of-with_cpu c d ∙ same)
              (λ q d same. guest_of-with_request q d ∙ same) reason m₁ c
              t.guest;
          description = cc t.description;
          clock = t.clock;
          storage = t.storage;
          keys = t.keys;
        }

        -- the interval timer's update of what a unit left
        module _ (a₁ a₂ : Machine) (u : Twins a₁ a₂) where
          after_tick : (request₁ request₂ residue₁ residue₂ : ℕ) → request₁ ≡ request₂ → residue₁ ≡ residue₂
              → Twins (with_tick request₁ residue₁ a₁) (with_tick request₂ residue₂ a₂)
          unfolding with_tick
          after_tick request₁ request₂ residue₁ residue₂ p q = record {
            guest = guest_of-with_interval request₁ residue₁ a₁.description ∙ u.guest;
            description = λ j. with_interval (p j) (q j) (u.description j);
            clock = u.clock;
            storage = u.storage;
            keys = u.keys;
          }

          same_word : (at : List Located) → word_in n m₁ at a₁ ≡ word_in n m₂ at a₂
          unfolding word_in
          same_word at =
              rw (pages₁, pages₂)
              (ap (λ (bytes : List ℕ). word_at bytes 0) (bytes-alike (RunFrame n r s₁ k₁) _ into_frames s₁ s₂ at _ _ u.storage))

          after-word : (at : List Located) (w₁ w₂ : ℕ) → w₁ ≡ w₂
              → Twins (with_word (behind_of n m₁) at w₁ a₁) (with_word (behind_of n m₂) at w₂ a₂)
          unfolding with_word
          after-word at w₁ w₂ p = record {
            guest = u.guest;
            description = u.description;
            clock = u.clock;
            storage =
                rw (pages₁, pages₂, p)
                (stored-alike (RunFrame n r s₁ k₁) _ into_frames s₁ s₂ (with_bytes at (word_bytes w₂)) _ _ u.storage);
            keys = u.keys;
          }

        same_residue : residue_from n m₁ ≡ residue_from n m₂
        unfolding residue_from
        same_residue = ap (λ d. residue_after (residue_of d) n.time) t.description

        after_rise : (a₁ a₂ : Machine) → Twins a₁ a₂ → Twins (risen_to n m₁ a₁) (risen_to n m₂ a₂)
        unfolding risen_to
        after_rise a₁ a₂ u = after_tick a₁ a₂ u _ _ _ _ (ap request_of t.description) same_residue

        after-fall : (a₁ a₂ : Machine) (at : List Located) → Twins a₁ a₂ → Twins (fallen_to n m₁ a₁ at) (fallen_to n m₂ a₂ at)
        unfolding fallen_to
        after-fall a₁ a₂ at u =
            after_tick _ _ (after-word a₁ a₂ u at _ _ (ap word_after (same_word a₁ a₂ u at))) _ _ _ _
            (λ j. request_after (request_of (t.description j)) (same_word a₁ a₂ u at j)) same_residue

        same_tick : (a₁ a₂ : Machine) → Twins a₁ a₂ → SameStep (ticked n m₁ a₁) (ticked n m₂ a₂)
        unfolding ticked when_reached
        same_tick a₁ a₂ u =
            subst (SameStep (ticked n m₁ a₁)) same_tests
            (by_tests (active (guest_of m₁.description)) (falls (residue_of m₁.description) n.time) (word_accesses n m₁))
          where
            update : Machine → Machine → (List Located → Machine) → Machine → Bool → Bool → Accesses → Step
            update after risen fallen m on full reach =
                cond (not on) (goes after)
                (cond (not full) (goes risen) (when_reached reach (λ f. ends (HostFault f) m) λ at. goes (fallen at)))

            update₂ : Bool → Bool → Accesses → Step
            update₂ = update a₂ (risen_to n m₂ a₂) (fallen_to n m₂ a₂) m₂

            same_tests : update₂ (active (guest_of m₁.description)) (falls (residue_of m₁.description) n.time) (word_accesses n m₁)
                ≡ ticked n m₂ a₂
            same_tests =
                λ j. update₂ (active (guest_of (t.description j))) (falls (residue_of (t.description j)) n.time) (same_word-accesses j)

            by_tests : (b c : Bool) (x : Accesses)
                → SameStep (update a₁ (risen_to n m₁ a₁) (fallen_to n m₁ a₁) m₁ b c x) (update₂ b c x)
            by_tests false c x = both_go u
            by_tests true false x = both_go (after_rise a₁ a₂ u)
            by_tests true true (all at) = both_go (after-fall a₁ a₂ at u)
            by_tests true true (stopped f) = both_end t

        same_step_of : (o : Outcome) → SameStep (step_of n m₁ o) (step_of n m₂ o)
        unfolding step_of
        same_step_of (completed c e) = same_tick _ _ (after-unit c e)
        same_step_of (intercepted reason c) = both_end (after_interception_lem reason c)
        same_step_of (faulted f) = both_end t

        same_onward : (rest : Machine → Ended) → ((a b : Machine) → Twins a b → SameEnd (rest a) (rest b)) → {x₁ x₂ : Step} → SameStep x₁ x₂
            → SameEnd (onward rest x₁) (onward rest x₂)
        unfolding onward counted
        same_onward rest same (both_go u) =
            let s = same _ _ u in
            record { end = s.end; units = ap suc s.units; machine = s.machine }
        same_onward rest same (both_end u) = record { end = refl; units = refl; machine = u }

      pub same_run : (budget : ℕ) (m₁ m₂ : Machine) → Twins m₁ m₂ → SameEnd (run budget n m₁) (run budget n m₂)
      unfolding run step
      same_run zero m₁ m₂ t = record { end = refl; units = refl; machine = t }
      same_run (suc budget) m₁ m₂ t =
          rw (same_unit m₁ m₂ t) (same_onward m₁ m₂ t (run budget n) (λ a b. same_run budget a b) (same_step_of m₁ m₂ t (unit_from n m₂)))
