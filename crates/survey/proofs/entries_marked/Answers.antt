-- `survey::entries_marked` meets its contract.
use Prim.Native.Nat.{ℕ, ◌≤◌}
use native.Mathlib.Omega.{arith}
use mathlib.Core.Bool.{true, false}
use mathlib.Core.Path.{refl}
use mathlib.Core.Logic.{⊎_elim}
use borrow.Author.Rules.{rules}
use Rattle.tables.proofs.Spanning.{over_spans}
use Rattle.survey.specs.Marking.{Tells, EntryMarked}
use Rattle.survey.proofs.Marking.{tells_yes, tells_no, marked_left, marked_right, marked_either}
use Rattle.survey.proofs.entries_marked.Goals as goal

pub returns : goal.returns
returns c =
    let d = c.args.host.designation in
    let s = c.args.host.storage.now in
    let marks = c.args.marks.now in
    let from = c.args.pages.from in
    let none : ℕ → Type 0 = λ page. (from ≤ page) × (EntryMarked d s from page marks → ⊥) in
    over_spans _ false none c.spans.result c.any.new.self _ c.any.ensures.ran (λ x q k. search rules)
    (λ x q k at.
    let h : Tells (EntryMarked d s x.from x.to marks) false = search rules in
    (omega (arith, x.some, at.0), λ m. ⊎_elim at.1 (h.never refl) (marked_either d s from x.from x.to marks m)))
    (omega arith, λ m. omega (arith, m.entry.low, m.entry.high))
    (λ page past at end. rw end (tells_no λ m. at.1 (marked_left d s from c.args.pages.to page marks (omega arith) m)))
    (λ x xs inside at stop.
    let h : Tells (EntryMarked d s x.from x.to marks) true = search rules in
    rw stop.0 (tells_yes (marked_left d s from x.to c.args.pages.to marks (omega arith) (marked_right d s from x.from x.to marks at.0 (h.so refl)))))
