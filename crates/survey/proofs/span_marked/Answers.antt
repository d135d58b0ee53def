-- `survey::span_marked` meets its contract.
use native.Mathlib.Omega.{arith}
use mathlib.Core.Path.{◌≡◌, refl}
use mathlib.Core.Bool.{true, false}
use lib.Dec.{ltb}
use Rattle.std.proofs.lemmas.Bool.Decides.{nat_tests}
use Rattle.survey.proofs.Marking.{none_marked, tells_no, tells_as, tells_by_tests}
use Rattle.survey.proofs.span_marked.Goals as goal

pub returns-in_default : goal.returns-in_default
returns-in_default c = tells_no (none_marked _ _ c.args.span.from c.args.span.to _ c.args.span.one_segment (rw c.segment.ensures at c.in_default.ensures))

pub returns-then-marked : goal.returns-then-marked
returns-then-marked c =
    let span = c.args.span in
    let segment = rw c.segment.ensures at c.in-Some.ensures in
    tells_as (rw (← c.marked.ensures, c.if-marked.true))
    (tells_by_tests _ _ span.from span.to _ _ _ span.some span.one_segment segment (c.table_at-table.ensures.0 _ span.from span.to refl refl segment) c.args.marks.now)

pub returns-then-marked-2 : goal.returns-then-marked-2
returns-then-marked-2 c =
    let span = c.args.span in
    let segment = rw c.segment.ensures at c.in-Some.ensures in
    let full : ltb c.table_at-table.result.start c.table_at-table.result.end ≡ true = grind (arith, nat_tests, c.is_empty.ensures, c.if-not-is_empty.true) in
    tells_as (rw (← c.marked.ensures, c.if-marked.false, full, ← c.marked-then-not-is_empty.ensures, c.if-marked-2.true))
    (tells_by_tests _ _ span.from span.to _ _ _ span.some span.one_segment segment (c.table_at-table.ensures.0 _ span.from span.to refl refl segment) c.args.marks.now)

pub returns-else-marked-2 : goal.returns-else-marked-2
returns-else-marked-2 c =
    let span = c.args.span in
    let segment = rw c.segment.ensures at c.in-Some.ensures in
    let full : ltb c.table_at-table.result.start c.table_at-table.result.end ≡ true = grind (arith, nat_tests, c.is_empty.ensures, c.if-not-is_empty.true) in
    tells_as (rw (← c.marked.ensures, c.if-marked.false, full, ← c.marked-then-not-is_empty.ensures, c.if-marked-2.false, ← c.marked-else-marked-2.ensures))
    (tells_by_tests _ _ span.from span.to _ _ _ span.some span.one_segment segment (c.table_at-table.ensures.0 _ span.from span.to refl refl segment) c.args.marks.now)

pub returns-else-not-is_empty : goal.returns-else-not-is_empty
returns-else-not-is_empty c =
    let span = c.args.span in
    let segment = rw c.segment.ensures at c.in-Some.ensures in
    let none : ltb c.table_at-table.result.start c.table_at-table.result.end ≡ false = grind (arith, nat_tests, c.is_empty.ensures, c.if-not-is_empty.false) in
    tells_as (rw (← c.marked.ensures, c.if-marked.false, none, c.if-not-is_empty.false))
    (tells_by_tests _ _ span.from span.to _ _ _ span.some span.one_segment segment (c.table_at-table.ensures.0 _ span.from span.to refl refl segment) c.args.marks.now)
