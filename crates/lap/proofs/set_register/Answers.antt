-- `lap::set_register` meets its contract.
use Rattle.std.proofs.Common.{sym, refl, arith, rules}
use lib.Seq.{set_out}
use Rattle.laws.proofs.Lens.{sixteen_set}
use Rattle.lap.proofs.set_register.Goals as goal

pub returns-then-register-lt16 : goal.returns-then-register-lt16
returns-then-register-lt16 c = (refl, sixteen_set _ c.args.register c.args.value c.requires (search rules))

pub returns-else-register-lt16 : goal.returns-else-register-lt16
returns-else-register-lt16 c =
    (sym (set_out _ c.args.register c.args.value (omega (arith, c.requires.long, c.if-register-lt16.false))), c.requires)
