-- `listings::list` meets its contract.
use Prim.Native.Nat.{◌+◌, ◌-◌, ◌≤◌}
use native.Mathlib.Omega.{arith}
use mathlib.Core.Path.{◌≡◌, refl, sym, ap, ◌∙◌}
use lib.ListN.{length, take, drop}
use Rattle.desk.specs.Reach.{page_valid}
use Rattle.desk.specs.Extent.{count_below, valid_pages, listing}
use Rattle.tables.specs.declared.spans.Spans.{Spans}
use Rattle.listings.proofs.Listing.{count_few, few_valid, valid_along, listed_along, after_part, length_of_part, first_words_by_place}
use Rattle.listings.proofs.list.Goals as goal

pub loop-span-init : goal.loop-span-init
unfolding valid_pages count_below
loop-span-init c =
    let same = c.into_iter-span-iterator.ensures.into_iter_gives in
    let from : c.into_iter-span-iterator.result.from ≡ c.args.pages.from = ap (λ (s : Spans). s.from) same ∙ c.spans-span-items.ensures.0 in
    let to : c.into_iter-span-iterator.result.to ≡ c.args.pages.to = ap (λ (s : Spans). s.to) same ∙ c.spans-span-items.ensures.1 in
    let none : c.into_iter-span-iterator.result.from - c.args.pages.from ≡ 0 = omega arith in
    let order : c.into_iter-span-iterator.result.from ≤ c.args.pages.to = omega (arith, c.args.pages.order) in
    let begins : c.args.pages.from ≤ c.into_iter-span-iterator.result.from = omega arith in
    rw none ((begins, order, to), refl, λ k h. absurd (omega arith), λ k h. refl)

pub overflow_add-valid : goal.overflow_add-valid
overflow_add-valid c =
    let step = c.in-Some.ensures.steps in
    let d = c.args.host.designation in
    let s = c.args.host.storage.now in
    let m = c.in-Some.span.from - c.args.pages.from in
    let n = m + c.count.result - m in
    let fits : m + n ≤ length c.loop-span.words = omega (arith, step) in
    let size : length (take n (drop m c.loop-span.words)) ≡ n = length_of_part m n c.loop-span.words fits in
    let more : c.list_span-valid.result ≡ count_below n (λ k. page_valid d s (c.in-Some.span.from + k)) =
    c.list_span-valid.ensures.0 ∙ ap (λ x. count_below x (λ k. page_valid d s (c.in-Some.span.from + k))) size in
    omega (arith, step, more, few_valid c.args.pages.from (c.loop-span.span-iterator.from - c.args.pages.from) d s, count_few n (λ k. page_valid d s (c.in-Some.span.from + k)))

pub loop-span-preserved : goal.loop-span-preserved
loop-span-preserved c =
    let loop = c.loop-span in
    let step = c.in-Some.ensures.steps in
    let d = c.args.host.designation in
    let s = c.args.host.storage.now in
    let first = c.args.pages.from in
    let from = c.in-Some.span.from in
    let m = from - first in
    let n = m + c.count.result - m in
    let ys = c.list_span-valid.new.words in
    let fits : m + n ≤ length loop.words = omega (arith, step) in
    let size : length (take n (drop m loop.words)) ≡ n = length_of_part m n loop.words fits in
    let long : length ys ≡ n = c.list_span-valid.auto.words ∙ size in
    let more : c.list_span-valid.result ≡ count_below n (λ k. page_valid d s (from + k)) =
    c.list_span-valid.ensures.0 ∙ ap (λ x. count_below x (λ k. page_valid d s (from + k))) size in
    let is : from ≡ first + m = omega (arith, step) in
    let passed : loop.span-iterator.from - first ≡ m = omega (arith, step) in
    let next : c.next.new.self.from - first ≡ m + n = omega (arith, step) in (
      (omega (arith, step), omega (arith, step), omega (arith, step)),
      rw (next, loop.invariant.1, passed, more) (sym (valid_along first m n from d s is)),
      λ k h. listed_along first m n from d s is loop.words ys long fits (λ j low. loop.invariant.2 j (omega arith)) (λ j low. c.list_span-valid.ensures.1 j (omega (arith, size))) k (omega arith),
      λ k h. after_part m n loop.words ys long fits k (omega arith) ∙ loop.invariant.3 k (omega arith),
    )

pub returns : goal.returns
unfolding listing
returns c =
    let all : c.loop-span.span-iterator.from - c.args.pages.from ≡ c.args.pages.to - c.args.pages.from = omega (arith, c.in-None.ensures.steps) in
    rw (← all) (
      c.loop-span.invariant.1,
      first_words_by_place _ _ c.args.words.now c.loop-span.words (omega arith) (omega arith) c.loop-span.invariant.2 c.loop-span.invariant.3,
    )
