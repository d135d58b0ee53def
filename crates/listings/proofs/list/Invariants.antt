-- `listings::list` meets its contract. The loop's invariant: the pages passed are listed and counted.
use Prim.Native.Nat.{ℕ, ◌+◌, ◌-◌, ◌≤◌, ◌<◌}
use mathlib.Core.Path.{◌≡◌}
use lib.ListN.{get_or}
use Rattle.desk.specs.Extent.{frame_listed, valid_pages}
use Rattle.listings.proofs.list.Given as goal

abbrev pub invariant-loop-span : goal.invariant-loop-span
invariant-loop-span l =
    let next = l.span-iterator.from in
    ((l.pages.from ≤ next) × (next ≤ l.pages.to) × (l.span-iterator.to ≡ l.pages.to))
    × (l.valid ≡ valid_pages l.pages.from (next - l.pages.from) l.host.designation l.host.storage.now)
    × ((k : ℕ) → k < next - l.pages.from → get_or l.words k 0 ≡ frame_listed l.host.designation l.host.storage.now (l.pages.from + k))
    × ((k : ℕ) → next - l.pages.from ≤ k → get_or l.words k 0 ≡ get_or l.initial.words k 0)
