-- `listings::list_span` meets its contract. The loop's invariant: the entries passed are shown and counted.
use Prim.Native.Nat.{ℕ, ◌<◌}
use mathlib.Core.Path.{◌≡◌}
use lib.ListN.{get_or}
use Rattle.desk.specs.Extent.{count_below}
use Rattle.tables.specs.Tabling.{entry_at, word_valid, word_shown}
use Rattle.listings.proofs.list_span.Given as goal

abbrev pub invariant-loop-k : goal.invariant-loop-k
invariant-loop-k l = (l.valid ≡ count_below l.k (λ j. word_valid (entry_at l.entries j)))
    × ((j : ℕ) → j < l.k → get_or l.words j 0 ≡ word_shown (entry_at l.entries j))
