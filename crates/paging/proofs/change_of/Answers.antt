-- `paging::change_of` meets its contract.
use native.Mathlib.Omega.{arith}
use mathlib.Core.Path.{◌≡◌, refl, sym, ◌∙◌}
use Rattle.std.proofs.lemmas.Result.{err_from_is_err_and}
use Rattle.desk.specs.Extent.{first_page, page_count}
use Rattle.desk.specs.Desk.{change_of, change_as}
use Rattle.paging.proofs.Accepting.{let_through}
use Rattle.paging.proofs.change_of.Goals as goal

pub change_verdict-requires : goal.change_verdict-requires
change_verdict-requires c =
    let many : c.count.result ≡ page_count c.args.guest = omega arith in
    rw (c.of_extent-extent.ensures.0, many) c.requires

pub returns-in_err-change_verdict : goal.returns-in_err-change_verdict
unfolding change_of change_as
returns-in_err-change_verdict c =
    let p = err_from_is_err_and c.from_residual.result c.from_residual.ensures.1 in
    let first = c.of_extent-extent.ensures.0 in
    let many : c.count.result ≡ page_count c.args.guest = omega arith in
    let verdict = rw (first, many) at c.change_verdict.ensures in
    rw (p.1, p.2) (rw (← verdict, c.in_err-change_verdict.was) (record { answer = refl; bytes = refl; count = refl }))

pub overflow_add-extent : goal.overflow_add-extent
overflow_add-extent c =
    let first = c.of_extent-extent.ensures.0 in
    let many : c.count.result ≡ page_count c.args.guest = omega arith in
    let verdict = rw (first, many) at c.change_verdict.ensures in
    let h = let_through c.args.c (first_page c.args.guest) (page_count c.args.guest) c.args.designation c.args.storage.now c.args.p c.requires (sym verdict ∙ c.in_ok-change_verdict.was) in
    rw first (omega (arith, h.0.0))

pub put_change-requires : goal.put_change-requires
put_change-requires c =
    let first = c.of_extent-extent.ensures.0 in
    let many : c.count.result ≡ page_count c.args.guest = omega arith in
    let verdict = rw (first, many) at c.change_verdict.ensures in
    rw first (let_through c.args.c (first_page c.args.guest) (page_count c.args.guest) c.args.designation c.args.storage.now c.args.p c.requires (sym verdict ∙ c.in_ok-change_verdict.was))

pub returns : goal.returns
unfolding change_of change_as
returns c =
    let first = c.of_extent-extent.ensures.0 in
    let many : c.count.result ≡ page_count c.args.guest = omega arith in
    let verdict = rw (first, many) at c.change_verdict.ensures in
    rw (← verdict, c.in_ok-change_verdict.was) (record { answer = refl; bytes = rw first at c.put_change.ensures; count = c.number_after.ensures })
