-- `lap::units` meets its contract. The loop's invariant: so many units have led to the place of the next instruction.
use Rattle.lap.proofs.Lapping.{Lapped}
use Rattle.lap.proofs.units.Given as goal

abbrev pub invariant-loop-n : goal.invariant-loop-n
invariant-loop-n l = Lapped l.kept l.long l.trap l.address l.initial.sum l.initial.words l.initial.storage l.most l.storage l.words l.sum l.page l.base l.last l.at l.top l.target l.n

abbrev pub decreases-loop-n : goal.decreases-loop-n
decreases-loop-n l = l.n
