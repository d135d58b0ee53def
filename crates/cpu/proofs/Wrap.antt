-- A wrapped address is wrapped.
-- Assumes nothing.
use Prim.Native.Nat.{ℕ}
use native.Mathlib.Omega.{arith}
use mathlib.Core.Path.{◌≡◌}
use Rattle.machine.specs.declared.Cpu.{Cpu}
use Rattle.machine.specs.Psw.{wrap}
use Rattle.laws.proofs.PageBytes.{wrap_by_mode}

pub wrap-wrap : (c : Cpu) (a : ℕ) → wrap c (wrap c a) ≡ wrap c a
wrap-wrap c a = wrap_by_mode (λ w. w (w a) ≡ w a) c (omega arith) (omega arith)
