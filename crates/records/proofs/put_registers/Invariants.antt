-- `records::put_registers` meets its contract. The loop's invariant: the bytes of the first words are stored.
use mathlib.Core.Path.{◌≡◌}
use lib.ListN.{take}
use lib.Seq.{sets}
use Rattle.machine.specs.Words.{words_bytes}
use Rattle.records.proofs.put_registers.Given as goal

abbrev pub invariant-loop-i : goal.invariant-loop-i
invariant-loop-i l = l.r ≡ sets l.initial.r l.a (words_bytes (take l.i l.fn.registers.words))
