-- `changes::entry_after` meets its contract: a bit is set, and where it is set already nothing changes.
use Rattle.std.proofs.Common.{arith}
use Rattle.std.proofs.lemmas.Bool.Decides.{nat_tests}
use Rattle.desk.specs.Desk.{entry_after}
use Rattle.changes.proofs.Bits.{or_bit}
use Rattle.changes.proofs.entry_after.Goals as goal

pub returns-in-Remove : goal.returns-in-Remove
unfolding entry_after
returns-in-Remove c = rw (c.in-Remove.is, or_bit c.args.entry 10) (grind (arith, nat_tests))

pub returns-in-Protect : goal.returns-in-Protect
unfolding entry_after
returns-in-Protect c = rw (c.in-Protect.is, or_bit c.args.entry 9) (grind (arith, nat_tests))
