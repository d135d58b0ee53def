-- `lap::load_step` meets its contract.
use Rattle.std.proofs.Common.{le-ltb, lt-ltb, rules}
use Rattle.lap.specs.Stepping.{load_step}
use Rattle.lap.proofs.load_step.Goals as goal

pub returns-then-d-gt2044 : goal.returns-then-d-gt2044
unfolding load_step
returns-then-d-gt2044 c = (rw (lt-ltb 2044 _ c.if-d-gt2044.true) c.wanting.ensures, search rules)

pub returns : goal.returns
unfolding load_step
returns c = (rw (le-ltb 2044 _ c.if-d-gt2044.false, ← c.word_at.ensures) c.stepped.ensures, search rules)
