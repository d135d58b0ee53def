-- `records::registers_at` meets its contract. The loop's invariant: the first words of the array are the definition's first.
use mathlib.Core.Path.{◌≡◌}
use lib.ListN.{take}
use Rattle.machine.specs.Words.{words_at}
use Rattle.records.proofs.registers_at.Given as goal

abbrev pub invariant-loop-i : goal.invariant-loop-i
invariant-loop-i l = take l.i l.word-items ≡ words_at l.r l.a l.i
