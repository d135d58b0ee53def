-- `streaks::run_streak` meets its contract.
use Prim.Native.Nat.{◌+◌, ◌-◌, ◌*◌}
use Rattle.streaks.proofs.Streaking.{course, hold, Onward}
use Rattle.streaks.proofs.run_streak.Given as goal

abbrev pub invariant-loop-s : goal.invariant-loop-s
invariant-loop-s l =
    Onward (course l.designation l.guest l.clock l.time l.budget l.fn.start l.requested l.residue l.initial.storage l.keys)
    l.s (hold l.general.words l.control.words l.storage l.guard l.kept)

abbrev pub decreases-loop-s : goal.decreases-loop-s
decreases-loop-s l = 8 * (l.budget - l.s.units) + (8 - l.s.tries)
