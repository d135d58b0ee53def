-- `pages::spare` meets its contract. The loop's invariant: some blocks are dropped, and of the entries passed none lies in a frame that
-- the guard names.
use Rattle.pages.specs.Tabling.{Fewer}
use Rattle.pages.proofs.Tabling.{FreeBelow}
use Rattle.pages.proofs.spare.Given as goal

abbrev pub invariant-loop-i : goal.invariant-loop-i
invariant-loop-i l = Fewer l.initial.kept l.kept × FreeBelow l.guard l.kept l.i
