-- `keeping::keep_turn` meets its contract.
use Rattle.keeping.proofs.keep_turn.Goals as goal

pub returns-then-matches : goal.returns-then-matches
returns-then-matches c = c.keep_area.ensures c.args.control.now
