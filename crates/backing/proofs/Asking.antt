-- The first unbacked page, by the lowest host page that is not valid.
use Rattle.std.specs.Prelude.{Err, Ok}
use Prim.Native.Nat.{ℕ, ◌+◌, ◌-◌, ◌≤◌, ◌<◌}
use native.Mathlib.Omega.{arith}
use mathlib.Core.Path.{◌≡◌, ◌∙◌}
use mathlib.Core.List.{List}
use borrow.Author.Tests.{lt-ltb}
use Rattle.machine.specs.declared.Refusal.TheVariants.{WrongRange}
use Rattle.machine.specs.declared.Guest.{Guest}
use Rattle.desk.specs.declared.Found.TheVariants.{None, Page}
use Rattle.desk.specs.Reach.{page_valid}
use Rattle.desk.specs.Extent.{first_page, page_count}
use Rattle.desk.specs.Unbacked.{unbacked_in, lowest, wrong_range, unbacked_for}
use Rattle.desk.proofs.Extents.{or_right}
use Rattle.desk.proofs.Surveys.{AllPass, FirstFails, survey_none, survey_page, right_range}

module _ (g : Guest) (d : ℕ) (s : List ℕ) (from to : ℕ) where
  pub wrong_order : to < from → unbacked_for g d s from to ≡ Err WrongRange
  unfolding unbacked_for wrong_range
  wrong_order above = rw (lt-ltb to from above)

  pub past_the_extent_lem : page_count g < to → unbacked_for g d s from to ≡ Err WrongRange
  unfolding unbacked_for wrong_range
  past_the_extent_lem past = rw (or_right _ (lt-ltb (page_count g) to past))

  module _ (order : from ≤ to) (inside : to ≤ page_count g) where
    surveyed : unbacked_for g d s from to ≡ lowest (unbacked_in (first_page g) d s from to)
    unfolding unbacked_for
    surveyed = rw (right_range (page_count g) from to order inside)

    module _ (first : ℕ) (is : first ≡ first_page g) where
      pub all_backed : AllPass (page_valid d s) (first + from) (first + to) → unbacked_for g d s from to ≡ Ok None
      all_backed all = surveyed ∙ survey_none (first_page g) d s from to order λ q low high. all (first_page g + q) (omega arith) (omega arith)

      pub one_unbacked : (page : ℕ) → FirstFails (page_valid d s) (first + from) (first + to) page → unbacked_for g d s from to ≡ Ok (Page (page - first))
      one_unbacked page h =
          let sum : first_page g + (page - first_page g) ≡ page = omega (arith, h.low) in
          rw is
          (surveyed
          ∙ survey_page (first_page g) d s from to order (page - first_page g) (record {
            low = omega (arith, h.low);
            high = omega (arith, h.low, h.high);
            fails = rw sum h.fails;
            passed = λ q low high. h.passed (first_page g + q) (omega arith) (omega arith);
          }))
