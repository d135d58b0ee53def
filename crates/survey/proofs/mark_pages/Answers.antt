-- `survey::mark_pages` meets its contract.
use Prim.Native.Nat.{◌≤◌}
use native.Mathlib.Omega.{arith}
use mathlib.Core.Path.{◌≡◌, ap, ◌∙◌}
use Rattle.tables.specs.declared.spans.Spans.{Spans}
use Rattle.survey.proofs.Marking.{added_none, added_pages, added_front, some-nowhere}
use Rattle.survey.proofs.mark_pages.Goals as goal

pub loop-span-init : goal.loop-span-init
loop-span-init c =
    let same = c.into_iter-span-iterator.ensures.into_iter_gives in
    let from : c.into_iter-span-iterator.result.from ≡ c.args.pages.from = ap (λ (s : Spans). s.from) same ∙ c.spans-span-items.ensures.0 in
    let to : c.into_iter-span-iterator.result.to ≡ c.args.pages.to = ap (λ (s : Spans). s.to) same ∙ c.spans-span-items.ensures.1 in
    let begins : c.args.pages.from ≤ c.args.pages.from = omega arith in
    let order : c.args.pages.from ≤ c.args.pages.to = c.args.pages.order in
    rw from ((begins, order, to), added_none _ _ (λ f. some-nowhere _ _ f))

pub loop-span-preserved : goal.loop-span-preserved
loop-span-preserved c =
    let loop = c.loop-span in
    let step = c.in-Some.ensures.steps in
    let next : c.in-Some.span.to ≡ c.next.new.self.from = step.1.1 in
    let added = rw (step.1.0, next) at c.mark_span.ensures in (
      (omega (arith, step), omega (arith, step), omega (arith, step)),
      added_pages _ _ loop.span-iterator.from _ _ _ _ (omega arith) (omega (arith, step)) loop.invariant.1 added,
    )

pub returns : goal.returns
returns c =
    let all : c.loop-span.span-iterator.from ≡ c.args.pages.to = omega (arith, c.in-None.ensures.steps) in
    added_front _ _ c.args.marks.now c.loop-span.marks (omega arith) (λ f p. omega (arith, p.is.1.1)) (rw all at c.loop-span.invariant.1)
