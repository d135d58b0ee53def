-- `survey::mark_pages` meets its contract. The loop's invariant: the frames that the pages passed name are marked.
use Prim.Native.Nat.{◌≤◌}
use mathlib.Core.Path.{◌≡◌}
use Rattle.survey.specs.Marking.{Added, Names, SomePage}
use Rattle.survey.proofs.mark_pages.Given as goal

abbrev pub invariant-loop-span : goal.invariant-loop-span
invariant-loop-span l =
    let next = l.span-iterator.from in
    ((l.fn.pages.from ≤ next) × (next ≤ l.fn.pages.to) × (l.span-iterator.to ≡ l.fn.pages.to))
    × Added (SomePage (Names l.host.designation l.host.storage.now) l.fn.pages.from next) l.initial.marks l.marks
