-- `backing::first_unbacked` meets its contract.
use Prim.Native.Nat.{ℕ, ◌≤◌}
use native.Mathlib.Omega.{arith}
use borrow.Author.Rules.{rules}
use Rattle.std.specs.Prelude.{Some, None}
use Rattle.desk.specs.Reach.{page_valid}
use Rattle.desk.proofs.Surveys.{AllPass}
use Rattle.tables.proofs.Spanning.{found_over_spans}
use Rattle.backing.specs.Lowest.{Lowest}
use Rattle.backing.proofs.Lowest.{passes_along, found_along}
use Rattle.backing.proofs.first_unbacked.Goals as goal

pub returns : goal.returns
returns c =
    let test = page_valid c.args.host.designation c.args.host.storage.now in
    let from = c.args.pages.from in
    let passed : ℕ → Type 0 = λ page. (from ≤ page) × AllPass test from page in
    found_over_spans _ passed c.spans.result c.find_map.new.self _ c.find_map.result _ c.find_map.ensures.ran c.find_map.ensures.runs (λ x r q k. search rules)
    (λ x k at. let h : Lowest test x.from x.to None = search rules in (omega (arith, x.some, at.0), passes_along test from x.from x.to h at.1))
    (omega arith, λ k low high. absurd (omega arith))
    (λ page past at none. rw none (λ q low high. at.1 q low (omega arith)))
    (λ x page q inside at some k.
    let h : Lowest test x.from x.to (Some page) = search rules in
    rw some (found_along test from x.from x.to c.args.pages.to page at.0 (omega arith) at.1 h))
