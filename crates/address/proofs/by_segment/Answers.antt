-- `address::by_segment` meets its contract.
use Prim.Native.Nat.{◌+◌, ◌*◌, ◌/◌, ◌%◌, ◌^◌, ◌<◌}
use native.Mathlib.Nat.{div-one}
use native.Mathlib.Omega.{arith}
use borrow.Author.Tests.{lt-ltb}
use Rattle.machine.proofs.Tests.{tests}
use Rattle.storage.specs.Steps.{segment_leads}
use Rattle.address.specs.Locating.{failure_in, place_in}
use Rattle.address.proofs.by_segment.Goals as goal

pub returns-then-word-eq1 : goal.returns-then-word-eq1
unfolding segment_leads place_in failure_in
returns-then-word-eq1 c = rw c.excepted.ensures (search (tests, div-one))

pub returns-then-word-eq1-2 : goal.returns-then-word-eq1-2
unfolding segment_leads place_in failure_in
returns-then-word-eq1-2 c = rw c.excepted-then-word-eq1-2.ensures (search (tests, div-one))

pub returns-then-word-index : goal.returns-then-word-index
unfolding segment_leads place_in failure_in
returns-then-word-index c = rw c.excepted-then-word-index.ensures (search (tests, div-one))

pub returns : goal.returns
unfolding segment_leads place_in
returns c =
    let small : c.args.word / 64 % 33554432 * 64 + c.args.a / 4096 % 256 * 4 < 2 ^ 32 = omega arith in
    search (tests, div-one, lt-ltb _ _ small)
