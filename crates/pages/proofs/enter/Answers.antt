-- `pages::enter` meets its contract.
use Rattle.pages.specs.Tabling.{entered}
use Rattle.pages.proofs.enter.Goals as goal

pub returns : goal.returns
unfolding entered
returns c = rw c.entry_at-i.ensures.0
