-- `controls::load_words` meets its contract. The loop's invariant: the words that are left, loaded from the next register on, give what all
-- of them give.
use Prim.Native.Nat.{◌+◌, ◌%◌}
use mathlib.Core.Path.{◌≡◌}
use Rattle.machine.specs.declared.Cpu.{Cpu}
use Rattle.machine.specs.Record.{Sixteen}
use Rattle.loads.proofs.Loading.{rest}
use Rattle.controls.proofs.load_words.Given as goal

abbrev pub invariant-loop-k : goal.invariant-loop-k
invariant-loop-k l =
    Sixteen l.control × ((c : Cpu) → rest c l.control ((l.i + l.k) % 16) l.bytes l.k l.n ≡ rest c l.initial.control l.i l.bytes 0 l.n)
