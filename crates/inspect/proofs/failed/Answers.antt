-- `inspect::failed` meets its contract.
use Rattle.address.proofs.Located.{failed_place}
use Rattle.inspect.specs.Answering.{answered}
use Rattle.inspect.proofs.failed.Goals as goal

pub returns : goal.returns
unfolding answered
returns c =
    λ g x sees k store found.
    rw (failed_place c.args.a c.args.w c.requires, c.failure_of.ensures, c.sought.ensures g x sees k store found)
