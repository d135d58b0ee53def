-- `sharing::span_shares` meets its contract.
use Prim.Native.Nat.{◌/◌}
use native.Mathlib.Omega.{arith}
use mathlib.Core.Path.{◌≡◌, refl, sym, ◌∙◌}
use mathlib.Core.Bool.{not, ◌&&◌}
use borrow.Author.Tests.{ne_eqb}
use lib.Dec.{eqb, leb, ltb}
use Rattle.survey.proofs.Marking.{tells_no, tells_as}
use Rattle.sharing.proofs.Sharing.{none_shared, tells_by_tests, in_another, in_own}
use Rattle.sharing.proofs.span_shares.Goals as goal
use Rattle.sharing.proofs.span_shares.Goals.{then-own-segment, else-own-segment}

pub returns-in_default : goal.returns-in_default
returns-in_default c = tells_no (none_shared _ _ c.args.span.from c.args.span.to _ _ c.args.span.some c.args.span.one_segment (rw c.segment.ensures at c.in_default.ensures))

pub returns-then-contains : goal.returns-then-contains
returns-then-contains c =
    let span = c.args.span in
    let place = c.args.place in
    let table = c.table_at-table.result in
    let segment = rw c.segment.ensures at c.in-Some.ensures in
    let index = c.segment-else-at-place.ensures in
    let within : c.if-own-segment.value ≡ (not (eqb (c.args.own / 256) (span.from / 256)) && (leb table.start place && ltb place table.end)) =
    elim c.if-own-segment.branch [
      | then-own-segment w ↦ in_another _ _ table.start table.end place _ (rw index at w.if-own-segment.true) (w.value-is ∙ w.contains.ensures.value)
      | else-own-segment w ↦ in_own _ _ table.start table.end place _ (rw index at w.if-own-segment.false) (rw index at w.value-is)
    ] in
    let tests = sym within ∙ c.if-contains.true in
    let other = ne_eqb c.in-Some.at place (λ e. c.if-at-place.false (omega (arith, e))) in
    tells_as (rw (other, tests))
    (tells_by_tests _ _ span.from span.to c.args.own place span.some span.one_segment _ segment table.start table.end (c.table_at-table.ensures.0 _ span.from span.to refl refl segment) c.requires.1)

pub returns-else-contains : goal.returns-else-contains
returns-else-contains c =
    let span = c.args.span in
    let place = c.args.place in
    let table = c.table_at-table.result in
    let segment = rw c.segment.ensures at c.in-Some.ensures in
    let index = c.segment-else-at-place.ensures in
    let within : c.if-own-segment.value ≡ (not (eqb (c.args.own / 256) (span.from / 256)) && (leb table.start place && ltb place table.end)) =
    elim c.if-own-segment.branch [
      | then-own-segment w ↦ in_another _ _ table.start table.end place _ (rw index at w.if-own-segment.true) (w.value-is ∙ w.contains.ensures.value)
      | else-own-segment w ↦ in_own _ _ table.start table.end place _ (rw index at w.if-own-segment.false) (rw index at w.value-is)
    ] in
    let tests = sym within ∙ c.if-contains.false in
    let other = ne_eqb c.in-Some.at place (λ e. c.if-at-place.false (omega (arith, e))) in
    tells_as (rw (other, tests, c.if-contains.false))
    (tells_by_tests _ _ span.from span.to c.args.own place span.some span.one_segment _ segment table.start table.end (c.table_at-table.ensures.0 _ span.from span.to refl refl segment) c.requires.1)
