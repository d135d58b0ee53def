-- `stores::put_controls` meets its contract. The loop's invariant: with the registers that are left stored behind the first `k`, all
use Prim.Native.Nat.{◌+◌, ◌-◌, ◌*◌, ◌%◌}
use mathlib.Core.Path.{◌≡◌}
use lib.ListN.{length}
use lib.Seq.{sets}
use Rattle.machine.specs.declared.Cpu.{Cpu}
use Rattle.machine.specs.Words.{words_bytes}
use Rattle.machine.specs.Execute.{controls_from}
use Rattle.stores.proofs.put_controls.Given as goal

abbrev pub invariant-loop-k : goal.invariant-loop-k
invariant-loop-k l = (length l.bytes ≡ length l.initial.bytes)
    × ((c : Cpu) → c.control.words ≡ l.control → sets l.bytes (4 * l.k) (words_bytes (controls_from c ((l.i + l.k) % 16) (l.n - l.k))) ≡ sets l.initial.bytes 0 (words_bytes (controls_from c l.i l.n)))
