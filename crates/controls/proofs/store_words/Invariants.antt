-- `controls::store_words` meets its contract. The loop's invariant: with the registers that are left stored behind the first `k`, all
-- are stored.
use Prim.Native.Nat.{◌+◌, ◌-◌, ◌*◌, ◌%◌}
use mathlib.Core.Path.{◌≡◌}
use lib.ListN.{length}
use lib.Seq.{sets}
use Rattle.machine.specs.declared.Cpu.{Cpu}
use Rattle.machine.specs.Words.{words_bytes}
use Rattle.machine.specs.Execute.{controls_from}
use Rattle.controls.proofs.store_words.Given as goal

abbrev pub invariant-loop-k : goal.invariant-loop-k
invariant-loop-k l = (length l.part ≡ length l.initial.part)
    × ((c : Cpu) → c.control.words ≡ l.control
    → sets l.part (4 * l.k) (words_bytes (controls_from c ((l.i + l.k) % 16) (l.n - l.k))) ≡ sets l.initial.part 0 (words_bytes (controls_from c l.i l.n)))
