-- The interval timer: its update at the end of a unit, by cases (the timer is not active, the residue rises, the word falls, or the word is
-- out of reach), its fields read back, and T at an exit.
-- Assumes nothing.
use Prim.Native.Nat.{ℕ, ◌%◌, ◌^◌, ◌≤◌, ◌<◌}
use native.Mathlib.Omega.{arith}
use mathlib.Core.Path.{◌≡◌, refl, ◌∙◌}
use mathlib.Core.Bool.{Bool, true, false, cond, not, ◌&&◌}
use mathlib.Core.List.{List}
use mathlib.Core.Logic.{inl, inr}
use lib.Dec.{leb}
use lib.ListN.{length}
use lib.Seq.{get_or-set_same}
use borrow.Author.Tests.{leb-false}
use Rattle.machine.specs.declared.Cpu.{Cpu}
use Rattle.machine.specs.declared.End.{End}
use Rattle.machine.specs.declared.End.TheVariants.{HostFault}
use Rattle.machine.specs.declared.Failure.{Failure}
use Rattle.machine.specs.declared.Numbers.{Numbers}
use Rattle.machine.specs.declared.Reason.{Reason}
use Rattle.machine.specs.Words.{word_bytes}
use Rattle.machine.specs.Record.{long_length, request_at, residue_at, guest_of, with_cpu, with_results, request_of, residue_of, with_request, with_interval}
use Rattle.machine.specs.Interval.{active, period, risen, falls, residue_after, pending}
use Rattle.machine.specs.Refusals.{most_time}
use Rattle.machine.specs.Host.{Located}
use Rattle.machine.specs.Addresses.{Accesses, all, stopped, when_reached}
use Rattle.machine.specs.Run.{Machine, requested_by, behind_of, Step, goes, ends, with_tick, with_word, clears_t, answered, word_accesses, residue_from, risen_to, fallen_to, ticked}
use Rattle.machine.specs.Answers.{end_results}
use Rattle.machine.proofs.Tests.{on_either_arm, by_either_test}
use Rattle.machine.proofs.Laws.{get_d_sets_beside, word_of_bytes, byte_of-with_cpu, byte_of-with_results, byte_of-with_request, length-with_request, length-with_interval, length-end_results}
use Rattle.machine.proofs.Words.{word_of_sets, word_of_word_bytes}

module _ (n : Numbers) (m after : Machine) where
  -- the timer of the guest is active
  abbrev pub Active : Bool → Type 0
  Active b = active (guest_of m.description) ≡ b

  -- the word falls in this unit
  abbrev pub Falls : Bool → Type 0
  Falls b = falls (residue_of m.description) n.time ≡ b

  -- what the update makes of the machine that the unit from `m` left
  pub data Update : Machine → Type 0 where
    still : Active false → Update after
    rises : Active true → Falls false → Update (risen_to n m after)
    fell : Active true → Falls true → (at : List Located) → word_accesses n m ≡ all at → Update (fallen_to n m after at)

  pub ticked_cases : (P : Step → Type 0) → ((next : Machine) → Update next → P (goes next))
      → (Active true → Falls true → (f : Failure) → word_accesses n m ≡ stopped f → P (ends (HostFault f) m)) → P (ticked n m after)
  unfolding ticked when_reached
  ticked_cases P goes_on faults = by_active (active (guest_of m.description)) refl
    where
      by_accesses : Active true → Falls true → (a : Accesses) → word_accesses n m ≡ a
          → P (when_reached a (λ f. ends (HostFault f) m) λ at. goes (fallen_to n m after at))
      by_accesses on full (all at) e = goes_on _ (fell on full at e)
      by_accesses on full (stopped f) e = faults on full f e

      by_fall : Active true → (b : Bool) → Falls b
          → P (cond (not b) (goes (risen_to n m after))
          (when_reached (word_accesses n m) (λ f. ends (HostFault f) m) λ at. goes (fallen_to n m after at)))
      by_fall on true full = by_accesses on full (word_accesses n m) refl
      by_fall on false short = goes_on _ (rises on short)

      by_active : (b : Bool) → Active b
          → P (cond (not b) (goes after) (cond (not (falls (residue_of m.description) n.time)) (goes (risen_to n m after))
          (when_reached (word_accesses n m) (λ f. ends (HostFault f) m) λ at. goes (fallen_to n m after at))))
      by_active true on = by_fall on (falls (residue_of m.description) n.time) refl
      by_active false off = goes_on _ (still off)

  -- each case, as an equation

  -- what a new request byte and residue keep, and a store of the word, the update keeps
  pub update_keeps : (P : Machine → Type 0) → ((request residue : ℕ) (k : Machine) → P k → P (with_tick request residue k))
      → ((at : List Located) (w : ℕ) (k : Machine) → P k → P (with_word (behind_of n m) at w k)) → P after → {next : Machine} → Update next
      → P next
  unfolding risen_to fallen_to
  update_keeps P by_tick by_word_lem p (still off) = p
  update_keeps P by_tick by_word_lem p (rises on short) = by_tick _ _ _ p
  update_keeps P by_tick by_word_lem p (fell on full at e) = by_tick _ _ _ (by_word_lem at _ _ p)

-- a request is that of an active timer
pub requested_active : (r : List ℕ) → requested_by r ≡ true → active (guest_of r) ≡ true
unfolding requested_by
requested_active r = both (active (guest_of r))
  where
    both : (a : Bool) → (a && pending (request_of r)) ≡ true → a ≡ true
    both true e = refl
    both false e = e

-- the interval timer's fields, read back
pub request_of-with_interval : (request residue : ℕ) (r : List ℕ) → request_at < length r
    → request_of (with_interval request residue r) ≡ request
unfolding with_interval with_request
request_of-with_interval request residue r long =
    get_d_sets_beside (with_request request r) residue_at (word_bytes residue) request_at 0 (inl (omega arith))
    ∙ get_or-set_same r request_at request 0 long

pub residue_of-with_interval : (request residue : ℕ) (r : List ℕ) → long_length ≤ length r
    → residue_of (with_interval request residue r) ≡ residue % 2 ^ 32
unfolding with_interval
residue_of-with_interval request residue r long =
    word_of_sets (with_request request r) residue_at (word_bytes residue) (omega arith) (omega (arith, length-with_request request r))
    ∙ word_of_word_bytes residue

pub residue_of-with_cpu : (c : Cpu) (r : List ℕ) → residue_of (with_cpu c r) ≡ residue_of r
residue_of-with_cpu c r = word_of_bytes _ _ residue_at (λ i l h. byte_of-with_cpu c r i (inr (inr (omega arith))))

pub request_of-with_cpu : (c : Cpu) (r : List ℕ) → request_of (with_cpu c r) ≡ request_of r
request_of-with_cpu c r = byte_of-with_cpu c r request_at (inr (inr (omega arith)))

pub residue_of-with_request : (request : ℕ) (r : List ℕ) → residue_of (with_request request r) ≡ residue_of r
residue_of-with_request request r = word_of_bytes _ _ residue_at (λ i l h. byte_of-with_request request r i (inr (omega arith)))

pub residue_of-with_results : (e : End) (r : List ℕ) → residue_of (with_results (end_results e) r) ≡ residue_of r
residue_of-with_results e r =
    word_of_bytes _ _ residue_at (λ i l h. byte_of-with_results (end_results e) r i (length-end_results e) (inr (omega arith)))

pub request_of-with_results : (e : End) (r : List ℕ) → request_of (with_results (end_results e) r) ≡ request_of r
request_of-with_results e r = byte_of-with_results (end_results e) r request_at (length-end_results e) (inr (omega arith))

-- the residue stays in range: a unit's time is far below a period
pub residue-small : (residue time : ℕ) → residue < period → time ≤ most_time → residue_after residue time < period
unfolding residue_after falls
residue-small residue time small short =
    by_either_test (λ left. left < period) (leb period (risen residue time)) (λ full. omega arith) (leb-false period (risen residue time))

-- the record has the interval timer's fields, with a residue in range
pub record InRange (m : Machine) : Type 0 where
  pub long : length m.description ≡ long_length
  pub range : residue_of m.description < period

-- and so has the record after the update
pub update_in_range : (n : Numbers) (m after : Machine) → n.time ≤ most_time → InRange m → InRange after → {next : Machine}
    → Update n m after next → InRange next
unfolding risen_to fallen_to with_tick with_word residue_from
update_in_range n m after short before unit (still idle) = unit
update_in_range n m after short before unit (rises on low) = record {
  long = length-with_interval _ _ after.description ∙ unit.long;
  range =
      rw (residue_of-with_interval _ (residue_after (residue_of m.description) n.time) after.description (omega (arith, unit.long)))
      (omega (arith, residue-small (residue_of m.description) n.time before.range short));
}
update_in_range n m after short before unit (fell on full at reach) = record {
  long = length-with_interval _ _ after.description ∙ unit.long;
  range =
      rw (residue_of-with_interval _ (residue_after (residue_of m.description) n.time) after.description (omega (arith, unit.long)))
      (omega (arith, residue-small (residue_of m.description) n.time before.range short));
}

-- what an exit does of itself to the record

-- an exit that T does not make leaves it
pub answered_same : (reason : Reason) (m : Machine) → clears_t reason ≡ false → answered reason m ≡ m
unfolding answered
answered_same reason m e = rw e

-- what a new request byte keeps, an exit keeps
pub answered_keeps : (P : List ℕ → Type 0) → ((request : ℕ) (r : List ℕ) → P r → P (with_request request r))
    → (reason : Reason) (m : Machine)
    → P m.description → P (answered reason m).description
unfolding answered
answered_keeps P by_request reason m p = on_either_arm P (clears_t reason) (by_request _ _ p) p
