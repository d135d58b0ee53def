-- `cpu::intercepts_lctl` meets its contract. The loop's invariant: the registers that are left ask as all do.
use Prim.Native.Nat.{◌-◌, ◌<◌}
use mathlib.Core.Path.{◌≡◌}
use Rattle.machine.specs.Units.{intercepts_lctl}
use Rattle.cpu.proofs.intercepts_lctl.Given as goal

abbrev pub invariant-loop : goal.invariant-loop
invariant-loop l = record {
  register : l.at < 16;
  others : intercepts_lctl l.guest l.at (l.n - l.counter) ≡ intercepts_lctl l.guest l.i l.n;
}
