-- `sharing::shares` meets its contract.
use Prim.Native.Nat.{ℕ, ◌≤◌}
use native.Mathlib.Omega.{arith}
use mathlib.Core.Path.{refl}
use mathlib.Core.Bool.{true, false}
use mathlib.Core.Logic.{⊎_elim}
use borrow.Author.Rules.{rules}
use Rattle.tables.proofs.Spanning.{over_spans}
use Rattle.survey.specs.Marking.{SomePage, Tells}
use Rattle.survey.proofs.Marking.{tells_yes, tells_no, some_left, some_right, some_either}
use Rattle.sharing.specs.Sharing.{SharedBy}
use Rattle.sharing.proofs.shares.Goals as goal

pub returns : goal.returns
returns c =
    let shared : ℕ → ℕ → Type 0 = SharedBy c.args.host.designation c.args.host.storage.now c.args.own in
    let place = c.args.place in
    let from = c.args.pages.from in
    let none : ℕ → Type 0 = λ page. (from ≤ page) × (SomePage shared from page place → ⊥) in
    over_spans _ false none c.spans.result c.any.new.self _ c.any.ensures.ran (λ x q k. search rules)
    (λ x q k at.
    let h : Tells (SomePage shared x.from x.to place) false = search rules in
    (omega (arith, x.some, at.0), λ m. ⊎_elim at.1 (h.never refl) (some_either shared from x.from x.to place m)))
    (omega arith, λ m. omega (arith, m.low, m.high))
    (λ page past at end. rw end (tells_no λ m. at.1 (some_left shared from c.args.pages.to page place (omega arith) m)))
    (λ x xs inside at stop.
    let h : Tells (SomePage shared x.from x.to place) true = search rules in
    rw stop.0 (tells_yes (some_left shared from x.to c.args.pages.to place (omega arith) (some_right shared from x.from x.to place at.0 (h.so refl)))))
