-- `writer::put_operand` meets its contract. A part, put back with the bytes, is the run of stores there; of a whole operand nothing is behind.
use native.Mathlib.Omega.{arith}
use Prim.Native.Nat.{◌+◌, ◌≤◌}
use mathlib.Core.Path.{◌≡◌}
use mathlib.Core.List.{[]}
use lib.ListN.{length, take, drop, drop_of_length-le}
use lib.Seq.{sets, length-sets, take_all}
use Rattle.words.proofs.Parts.{sets_of_part}
use Rattle.writer.proofs.put_operand.Goals as goal

pub returns-then-p-bytes : goal.returns-then-p-bytes
returns-then-p-bytes c =
    let a = c.args in
    let whole : take a.p.count a.bytes.now ≡ a.bytes.now = take_all a.p.count a.bytes.now (omega arith) in
    let none : drop a.p.count a.bytes.now ≡ [] = drop_of_length-le a.bytes.now (omega arith) in
    rw (c.put_part.ensures, whole, none) (sets_of_part a.storage.now a.p.first a.bytes.now (omega arith))

pub returns-else-p-bytes : goal.returns-else-p-bytes
returns-else-p-bytes c =
    let a = c.args in
    let front = c.split_at.result.0.now in
    let back = c.split_at.result.1.now in
    let one = sets_of_part a.storage.now a.p.first front (omega arith) in
    let fits : a.p.second + length back ≤ length (sets a.storage.now a.p.first front) = rw length-sets (omega arith) in
    rw (c.put_part-else-p-bytes-2.ensures, c.put_part-else-p-bytes.ensures, one, sets_of_part (sets a.storage.now a.p.first front) a.p.second back fits)
    (rw (c.split_at.ensures.front, c.split_at.ensures.back))
