-- `loads::load_words` meets its contract. The loop's invariant: the words that are left, loaded behind the first `k`, give what all of them give.
use Prim.Native.Nat.{◌+◌, ◌%◌}
use mathlib.Core.Path.{◌≡◌}
use lib.ListN.{length}
use Rattle.machine.specs.declared.Cpu.{Cpu}
use Rattle.loads.proofs.Loading.{rest}
use Rattle.loads.proofs.load_words.Given as goal

abbrev pub invariant-loop-k : goal.invariant-loop-k
invariant-loop-k l = (length l.control ≡ 16) × ((c : Cpu) → rest c l.control ((l.i + l.k) % 16) l.bytes l.k l.n ≡ rest c l.initial.control l.i l.bytes 0 l.n)
