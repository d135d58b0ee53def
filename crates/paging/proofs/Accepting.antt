-- What is known of an input that is accepted, of a guest that entry lets through, and of a change that is.
use Rattle.std.specs.Prelude.{Err}
use Prim.Native.Nat.{ℕ, ◌+◌, ◌*◌, ◌≤◌, ◌<◌}
use native.Mathlib.Omega.{arith}
use mathlib.Core.Path.{◌≡◌, refl, ap, ◌∙◌}
use mathlib.Core.Bool.{Bool, true, false, cond, ◌||◌}
use mathlib.Core.List.{List}
use borrow.Author.Tests.{leb-false, ltb-false, le-leb, lt-leb, eqb-true, not-false}
use lib.Dec.{eqb, leb, ltb}
use lib.ListN.{length}
use Rattle.machine.specs.declared.Guest.{Guest}
use Rattle.machine.specs.declared.Refusal.TheVariants.{WrongVersion, WrongStorage, WrongKeys, ReservedUsed, OutOfReach, Entangled}
use Rattle.machine.specs.Words.{byte_at, word_at}
use Rattle.machine.specs.Record.{record_length, long_length, GoodLength, version_for, guest_of}
use Rattle.machine.specs.Sizes.{frame_bytes}
use Rattle.machine.specs.Refusals.{most_frames, refuse, wrong_length, wrong_version, wrong_storage, wrong_keys, reserved_used, wrong_access, translate_verdict, Verdict, no_refusal}
use Rattle.machine.specs.Entry.{entry_good}
use Rattle.machine.specs.Frames.{page_of}
use Rattle.machine.proofs.Entry.{entry-placed}
use Rattle.machine.proofs.Verdicts.{accepted_test, length_of_right}
use Rattle.machine.proofs.Laws.{good_length}
use Rattle.refusals.specs.Parts.{first_refusal}
use Rattle.desk.specs.declared.Change.{Change}
use Rattle.desk.specs.declared.Change.TheVariants.{Add, Remove, Protect}
use Rattle.desk.specs.Reach.{page_reached, page_valid}
use Rattle.desk.specs.Extent.{first_page, page_count}
use Rattle.desk.specs.Desk.{out_of_reach, state_verdict, entangled, change_verdict, desk_verdict}
use Rattle.desk.proofs.Changes.{neither, StateFits, state_fits}
use Rattle.tables.specs.Tabling.{PageThere, word_valid}
use Rattle.changes.specs.Changing.{FrameFits}
use Rattle.paging.specs.Giving.{Placed, Ready}

-- the verdict on a desk's input is that on a fetch's
pub desk_verdict_lem : (r s k : List ℕ) → desk_verdict r s k ≡ translate_verdict r s k 0
unfolding desk_verdict translate_verdict wrong_access
desk_verdict_lem r s k = refl

module _ (r s k : List ℕ) (accepted : desk_verdict r s k ≡ no_refusal) where
  after-length : refuse WrongVersion (wrong_version r) (refuse WrongStorage (wrong_storage s) (refuse WrongKeys (wrong_keys s k) (refuse ReservedUsed (reserved_used r) no_refusal))) ≡ no_refusal
  unfolding desk_verdict
  after-length = (accepted_test _ (wrong_length r) _ accepted).1

  right_length : GoodLength r
  unfolding desk_verdict
  right_length = length_of_right r (accepted_test _ (wrong_length r) _ accepted).0

  pub accepted-long : record_length ≤ length r
  accepted-long = good_length r right_length

  -- the version is 2 where the record is the longer one
  pub accepted_version : eqb (length r) long_length ≡ eqb (guest_of r).version 2
  unfolding wrong_version guest_of
  accepted_version =
      let is : byte_at r 2 ≡ version_for (length r) = eqb-true _ _ (not-false _ (accepted_test _ (wrong_version r) _ after-length).0) in
      rw is (by_length (eqb (length r) long_length))
    where
      by_length : (b : Bool) → b ≡ eqb (cond b 2 1) 2
      by_length true = refl
      by_length false = refl

  pub accepted-small : length s ≤ 16777216
  unfolding wrong_storage
  accepted-small =
      let right = (accepted_test _ (wrong_storage s) _ (accepted_test _ (wrong_version r) _ after-length).1).0 in
      let two = (neither (eqb (length s) 0 || ltb (most_frames * frame_bytes) (length s)) _ right).0 in
      ltb-false _ _ (neither (eqb (length s) 0) _ two).1

-- a guest that entry lets through lies below 2 GiB
pub entered-low : (g : Guest) → entry_good g ≡ true → first_page g + page_count g ≤ 524288
entered-low g good = let sum = (entry-placed g good).sum in omega arith

-- a change that is let through
module _ (c : Change) (first pages d : ℕ) (s : List ℕ) (p : ℕ) (placed : Placed first pages s) where
  pub let_through : change_verdict c first pages d s p ≡ no_refusal
      → ((first + p < 524288) × (length s ≤ 16777216)) × ((page_reached d s (first + p) ≡ true) × FrameFits c)
  unfolding change_verdict out_of_reach
  let_through accepted =
      let (near, second) = accepted_test _ (out_of_reach first pages d s p) _ accepted in
      let (inside, reached) = neither (leb pages p) _ near in
      let below : p < pages = leb-false _ _ inside in
      ((omega (arith, placed.low), placed.small), (not-false _ reached, frame_fits c (state_fits c s (page_valid d s (first + p)) _ second).0))
    where
      frame_fits : (x : Change) → StateFits x s (page_valid d s (first + p)) → FrameFits x
      frame_fits (Add frame) h = omega (arith, h.1, placed.small)
      frame_fits Remove h = tt
      frame_fits Protect h = tt

-- a page whose entry is in reach is valid where its entry says so
valid_of_reached : (d : ℕ) (s : List ℕ) (page : ℕ) → page_reached d s page ≡ true → page_valid d s page ≡ word_valid (page_of d s page)
unfolding page_valid word_valid
valid_of_reached d s page reached = rw reached

-- the verdict on a change, by the page's entry
module _ (c : Change) (first pages d : ℕ) (s : List ℕ) (p at : ℕ) (placed : Placed first pages s) (inside : p < pages) (told : PageThere d s (first + p) at)
    (v : Verdict) (judged : (later : Verdict) → state_verdict c s (word_valid (word_at s at)) later ≡ first_refusal v later) where
  valid_there : page_valid d s (first + p) ≡ word_valid (word_at s at)
  valid_there = valid_of_reached d s (first + p) told.reached ∙ ap (λ a. word_valid (word_at s a)) told.place

  pub ready_to_change : v ≡ no_refusal → Ready c first pages d s p at
  unfolding first_refusal
  ready_to_change accepted = record {
    placed = placed;
    inside = inside;
    reached = told.reached;
    is = told.place;
    fits = told.fits;
    state = rw valid_there (state_fits c s (word_valid (word_at s at)) no_refusal (judged no_refusal ∙ rw accepted)).0;
  }

  pub verdict_by_state : change_verdict c first pages d s p ≡ first_refusal v (refuse Entangled (entangled c first pages d s p) no_refusal)
  unfolding change_verdict out_of_reach
  verdict_by_state = rw (lt-leb pages p inside, told.reached, valid_there) (judged _)

-- the verdict out of reach
module _ (c : Change) (first pages d : ℕ) (s : List ℕ) (p : ℕ) where
  pub outside_the_extent : pages ≤ p → change_verdict c first pages d s p ≡ Err OutOfReach
  unfolding change_verdict out_of_reach
  outside_the_extent h = rw (le-leb pages p h)

  pub not_in_reach : p < pages → page_reached d s (first + p) ≡ false → change_verdict c first pages d s p ≡ Err OutOfReach
  unfolding change_verdict out_of_reach
  not_in_reach inside missed = rw (lt-leb pages p inside, missed)
