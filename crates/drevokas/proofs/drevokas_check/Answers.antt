-- `drevokas::drevokas_check` meets its contract.
use Rattle.drevokas.proofs.drevokas_check.Goals as goal

pub returns : goal.returns
returns c = rw (c.pack_check.ensures, c.check.ensures)
