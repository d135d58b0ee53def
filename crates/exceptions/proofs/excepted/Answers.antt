-- `exceptions::excepted` meets its contract.
use Prim.Native.Nat.{◌<◌}
use native.Mathlib.Omega.{arith}
use mathlib.Core.Path.{ap}
use Rattle.exceptions.proofs.Interrupting.{interrupts_so}
use Rattle.exceptions.proofs.excepted.Goals as goal

pub exception-new-requires : goal.exception-new-requires
exception-new-requires c =
    let placed : c.args.area < 2147483648 = omega (arith, c.if-area-ge2147483648.false) in
    (placed, c.requires.0 placed, omega (arith, c.requires.1), omega (arith, c.requires.2), c.requires.3)

pub returns-clause-interrupts : goal.returns-clause-interrupts
returns-clause-interrupts c =
    let taken = c.exception-new in
    let e = c.leaving.ensures in
    let quiet = c.intercepted.ensures c.if-intercepted.false in (
      ap (λ d. d.timer) e,
      omega (arith, c.if-area-ge2147483648.false),
      interrupts_so c.args.area c.args.psw c.args.guest c.args.ilc c.args.f c.args.storage.now taken.result taken.new.storage c.leaving.result
          (ap (λ d. d.left) e) (ap (λ d. d.right) e) quiet.0 quiet.1 taken.ensures,
      rw e tt,
    )
