-- `unit::foretells` meets its contract.
use Rattle.execute.proofs.Reaching.{not_both}
use Rattle.unit.proofs.foretells.Goals as goal

pub returns-then-shut : goal.returns-then-shut
returns-then-shut c = (λ no. not_both c.if-shut.true no, λ _. c.performs.ensures)

pub returns-else-shut : goal.returns-else-shut
returns-else-shut c = (λ no. no, λ yes. not_both yes c.if-shut.false)
