-- `address::by_table` meets its contract.
use Prim.Native.Nat.{◌+◌, ◌*◌, ◌/◌, ◌%◌, ◌^◌, ◌<◌}
use native.Mathlib.Omega.{arith}
use native.Mathlib.Nat.{div-one}
use borrow.Author.Tests.{lt-ltb}
use Rattle.machine.proofs.Tests.{tests}
use Rattle.storage.specs.Steps.{table_leads}
use Rattle.address.specs.Locating.{failure_in, place_in}
use Rattle.address.proofs.by_table.Goals as goal

pub returns-then-cr1-a : goal.returns-then-cr1-a
unfolding table_leads place_in failure_in
returns-then-cr1-a c = rw c.excepted.ensures (search (tests, div-one))

pub returns-else-cr1-a : goal.returns-else-cr1-a
unfolding table_leads place_in
returns-else-cr1-a c =
    let small : c.args.cr1 / 4096 % 524288 * 4096 + c.args.a / 1048576 * 4 < 2 ^ 32 = omega arith in
    search (tests, div-one, lt-ltb _ _ small)
