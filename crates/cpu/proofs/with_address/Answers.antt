-- `cpu::with_address` meets its contract.
use Prim.Native.Nat.{◌*◌, ◌/◌, ◌%◌}
use native.Mathlib.Omega.{arith}
use mathlib.Core.Path.{◌≡◌}
use Rattle.machine.specs.Psw.{wrap, with_psw, with_address}
use Rattle.cpu.proofs.with_address.Goals as goal

pub returns-then-psw : goal.returns-then-psw
unfolding wrap with_psw with_address
returns-then-psw c =
    let right = c.args.psw.right in
    let before : right / 16777216 * 16777216 % 4294967296 ≡ right / 16777216 % 256 * 16777216 = omega arith in
    λ cpu same. rw (same, c.if-psw.true, before)
