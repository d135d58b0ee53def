-- `tables::Host::entry_at` meets its contract.
use Prim.Native.Nat.{◌+◌, ◌/◌}
use native.Mathlib.Omega.{arith}
use mathlib.Core.Path.{◌≡◌}
use mathlib.Core.Bool.{not}
use lib.Dec.{ltb}
use Rattle.std.proofs.lemmas.Bool.Decides.{nat_tests}
use Rattle.tables.proofs.Tabling.{none_of_missed, page_at}
use Rattle.tables.proofs.Host.entry_at.Goals as goal

pub returns-in_err-at : goal.returns-in_err-at
returns-in_err-at c = rw c.from_residual.ensures (none_of_missed _ _ _ c.in_err-at.ensures c.args.page (omega arith))

pub returns : goal.returns
returns c =
    let table = c.table_at-table.result in
    let some : not c.is_empty.result ≡ ltb table.start table.end = rw c.is_empty.ensures (grind (arith, nat_tests)) in
    let index : c.segment.result ≡ c.args.page / 256 = omega arith in
    let told = c.table_at-table.ensures.0 c.args.self.designation c.args.page (c.args.page + 1) (omega arith) (omega arith) (rw index at c.in_ok-at.ensures) in
    rw (c.then_some.ensures, some) (page_at _ _ c.args.page _ _ told)
