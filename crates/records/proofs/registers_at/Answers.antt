-- `records::registers_at` meets its contract. One word more is the next of the definition.
use Prim.Native.Nat.{◌<◌}
use native.Mathlib.Numerals.{add-one}
use native.Mathlib.Omega.{arith}
use lib.ListN.{length}
use lib.Seq.{take-suc-set}
use Rattle.machine.proofs.Words.{words_at_more}
use Rattle.records.proofs.registers_at.Goals as goal

pub loop-i-preserved : goal.loop-i-preserved
loop-i-preserved c =
    let inside : c.loop-i.i < length c.loop-i.word-items = omega arith in
    rw (words_at_more, add-one, take-suc-set, c.loop-i.invariant, c.word_at.ensures)
