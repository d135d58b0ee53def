-- `cpu::intercepts_lctl` meets its contract. The loop's invariant: the registers that are left ask as all do.
use Prim.Native.Nat.{◌-◌, ◌+◌}
use native.Mathlib.Omega.{arith}
use mathlib.Core.Path.{◌≡◌}
use Rattle.machine.specs.Units.{intercepts_lctl}
use Rattle.cpu.proofs.Lctl.{lctl_first}
use Rattle.cpu.proofs.intercepts_lctl.Goals as goal

pub returns-then-bit : goal.returns-then-bit
returns-then-bit c =
    rw (← c.loop.invariant.others, lctl_first c.args.guest c.loop.at (c.args.n - c.loop.counter) (omega arith), ← c.bit.ensures, c.if-bit.true)

pub loop-preserved : goal.loop-preserved
loop-preserved c =
    let less : c.args.n - (c.loop.counter + 1) ≡ c.args.n - c.loop.counter - 1 = omega arith in
    record {
      register = omega arith;
      others = rw (less, ← c.loop.invariant.others, lctl_first c.args.guest c.loop.at (c.args.n - c.loop.counter) (omega arith), ← c.bit.ensures, c.if-bit.false);
    }

pub returns : goal.returns
unfolding intercepts_lctl
returns c =
    let none : c.args.n - c.loop.counter ≡ 0 = omega arith in
    rw (← c.loop.invariant.others, none)
