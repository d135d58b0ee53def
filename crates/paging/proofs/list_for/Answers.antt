-- `paging::list_for` meets its contract.
use Rattle.std.specs.Prelude.{Ok}
use Prim.Native.Nat.{◌-◌}
use native.Mathlib.Omega.{arith}
use mathlib.Core.Path.{◌≡◌, refl, ap}
use borrow.Author.Tests.{lt-ltb, le-ltb}
use Rattle.desk.specs.Extent.{page_count}
use Rattle.desk.specs.Desk.{list_for}
use Rattle.desk.specs.declared.Listed.TheVariants.{Pages}
use Rattle.paging.proofs.list_for.Goals as goal

pub returns-then-words-count : goal.returns-then-words-count
unfolding list_for
returns-then-words-count c =
    let many : c.count.result ≡ page_count c.args.guest = omega arith in
    rw (lt-ltb _ _ (rw many at c.if-words-count.true)) (record { answer = refl; shown = refl })

pub returns : goal.returns
unfolding list_for
returns c =
    let extent = c.of_extent-extent in
    let many : c.count.result ≡ page_count c.args.guest = omega arith in
    let size : extent.result.to - extent.result.from ≡ page_count c.args.guest = omega arith in
    let listed = rw (size, extent.ensures.0) at c.list.ensures in
    rw (le-ltb _ _ (rw many at c.if-words-count.false)) (record { answer = ap (λ n. Ok (Pages n)) listed.0; shown = listed.1 })
