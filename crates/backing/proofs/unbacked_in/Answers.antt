-- `backing::unbacked_in` meets its contract.
use mathlib.Core.Bool.{true, false}
use borrow.Author.Rules.{rules}
use borrow.Author.Tests.{tests}
use Rattle.std.proofs.lemmas.Iterator.{IsFirst-from_position, YieldsList-from_slice}
use Rattle.backing.proofs.Lowest.{Says, lowest_by_entry}
use Rattle.backing.proofs.unbacked_in.Goals as goal

pub returns : goal.returns
returns c =
    let entries = c.entries_of-entries.result.now in
    let found = IsFirst-from_position _ _ _ (Says false) (Says true) c.position.ensures.ran (YieldsList-from_slice entries cc)
    (λ x q k. search (rules, tests)) (λ x q k. search (rules, tests)) in
    rw (c.then_some.ensures, c.unwrap_or-valid.ensures) (lowest_by_entry _ _ _ _ entries c.entries_of-entries.ensures _ found)
