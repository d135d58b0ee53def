-- Good calls are done.
use Prim.Native.Nat.{ℕ, ◌+◌}
use mathlib.Core.Path.{◌≡◌, refl, ◌∙◌}
use mathlib.Core.Bool.{Bool, true, false}
use mathlib.Core.List.{List}
use borrow.Author.Tests.{eqb-true, eqb-false, lt-leb, le-ltb}
use lib.Dec.{lit≤}
use Rattle.machine.specs.Record.{guest_of}
use Rattle.machine.specs.Refusals.{frames_of, translate_verdict, wrong_access, Verdict, no_refusal}
use Rattle.machine.specs.Frames.{ValidPage}
use Rattle.machine.specs.Theorems.{GoodInput}
use Rattle.machine.proofs.Accepted.{good_input_is_accepted}
use Rattle.desk.specs.declared.Change.{Change}
use Rattle.desk.specs.declared.Change.TheVariants.{Add, Remove, Protect}
use Rattle.desk.specs.Reach.{page_valid}
use Rattle.desk.specs.Extent.{first_page, page_count, entry_in_frame, serves_second_page, serves_as_segment}
use Rattle.desk.specs.Desk.{storage_after, out_of_reach, state_verdict, entangled, change_verdict, desk_verdict, change_as, change_of, desk_as, desk_of, list_for, list_as, list_of}
use Rattle.desk.specs.Theorems.{Allows, GoodChange, GoodCallsAreDone}
use Rattle.desk.proofs.Tables.{both, was_false, segment_in_reach, page_in-reach, page-reached, page_is_valid, page-valid}
use Rattle.desk.proofs.Extents.{some_below_lem}
use Rattle.desk.proofs.Terms.{entry-in_frame_of_test}

pub not_true_is_false : (b : Bool) → (b ≡ true → ⊥) → b ≡ false
not_true_is_false true h = absurd (h refl)
not_true_is_false false h = refl

pub input_accepted : (r s k : List ℕ) → GoodInput r s k → desk_verdict r s k ≡ no_refusal
unfolding desk_verdict translate_verdict wrong_access
input_accepted r s k good = good_input_is_accepted.by_translate r s k 0 good (lit≤ tt)

state-accepted : (c : Change) (d : ℕ) (s : List ℕ) (page : ℕ) (later : Verdict) → Allows c s (ValidPage d s page)
    → state_verdict c s (page_valid d s page) later ≡ later
unfolding state_verdict Allows
state-accepted (Add frame) d s page later (notYet, present) =
    rw (not_true_is_false (page_valid d s page) (λ e. notYet (page_is_valid d s page e)), lt-leb (frames_of s) frame present)
state-accepted Remove d s page later valid = rw (page-valid d s page valid)
state-accepted Protect d s page later valid = rw (page-valid d s page valid)

module _ (c : Change) (r : List ℕ) (d : ℕ) (s : List ℕ) (p : ℕ) (good : GoodChange c r d s p) where
  not_entangled : entangled c (first_page (guest_of r)) (page_count (guest_of r)) d s p ≡ false
  unfolding entangled serves_second_page serves_as_segment
  not_entangled =
      rw (
        not_true_is_false (entry_in_frame (first_page (guest_of r)) (page_count (guest_of r)) d (storage_after c d s (first_page (guest_of r) + p)))
            (λ e. let (at, (f, (entry, (guest, is)))) = entry-in_frame_of_test (guest_of r) d _ good.entry e in good.apart at f entry guest is),
        not_true_is_false (serves_second_page (first_page (guest_of r)) (page_count (guest_of r)) d s p)
            (λ e.
            let (q, found) = some_below_lem (page_count (guest_of r)) _ e in
            let (differs, rest) = both _ _ found.1 in
            let (near, is) = both _ _ rest in
            good.alone q found.0 (eqb-false q p (was_false _ differs)) (page_in-reach d s _ near) (eqb-true _ _ is)),
        not_true_is_false (serves_as_segment (first_page (guest_of r)) (page_count (guest_of r)) d s p)
            (λ e.
            let (q, found) = some_below_lem (page_count (guest_of r)) _ e in
            let (near, is) = both _ _ found.1 in
            good.no_segment q found.0 (segment_in_reach d s _ near) (eqb-true _ _ is)),
      )

  change_accepted : change_verdict c (first_page (guest_of r)) (page_count (guest_of r)) d s p ≡ no_refusal
  unfolding change_verdict out_of_reach
  change_accepted =
      rw (lt-leb (page_count (guest_of r)) p good.inside, page-reached d s (first_page (guest_of r) + p) good.reach)
      (state-accepted c d s (first_page (guest_of r) + p) _ good.state ∙ rw not_entangled)

pub good_calls_are_done : GoodCallsAreDone
unfolding desk_of desk_as change_of change_as list_of list_as list_for
good_calls_are_done = record {
  changes = λ c r d s k p number input good. rw (input_accepted r s k input, good.entry, change_accepted c r d s p good);
  listings = λ r d s k ws input entry enough. rw (input_accepted r s k input, entry, le-ltb _ _ enough);
}
