-- General register j added to general register i: register and condition code together.
use Rattle.std.specs.Prelude.{ℕ}
use Rattle.machine.specs.declared.Cpu.{Cpu}
use Rattle.machine.specs.Psw.{general}
use Rattle.machine.specs.Execute.{sum_of, sum_overflows, with_sum}

abbrev pub added : Cpu → ℕ → ℕ → Cpu
added c i j = with_sum c i (sum_of (general c i) (general c j)) (sum_overflows (general c i) (general c j))
