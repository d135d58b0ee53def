-- `marks::mark_frame` meets its contract. The bit of each mark, set by `|`, is the definition's sum, or is there already.
use mathlib.Core.Path.{ap}
use lib.ListN.{get_or, set}
use Rattle.machine.specs.Host.{referenced, changed}
use Rattle.marks.proofs.Bits.{or_bit}
use Rattle.marks.proofs.mark_frame.Goals as goal

pub returns-in-Referenced : goal.returns-in-Referenced
unfolding referenced
returns-in-Referenced c = let a = c.args in rw c.in-Referenced.is (ap (set a.keys.now a.frame) (or_bit (get_or a.keys.now a.frame 0) 2))

pub returns-in-Changed : goal.returns-in-Changed
unfolding changed
returns-in-Changed c = let a = c.args in rw c.in-Changed.is (ap (set a.keys.now a.frame) (or_bit (get_or a.keys.now a.frame 0) 1))
