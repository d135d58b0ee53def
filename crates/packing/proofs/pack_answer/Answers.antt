-- `packing::pack_answer` meets its contract.
use Rattle.packing.specs.Packing.{packed_answer}
use Rattle.packing.proofs.pack_answer.Goals as goal

pub returns-in-Err : goal.returns-in-Err
unfolding packed_answer
returns-in-Err c = rw c.in-Err.is c.pack_refusal.ensures

pub returns-in-Ok : goal.returns-in-Ok
unfolding packed_answer
returns-in-Ok c = rw c.in-Ok.is c.pack_end.ensures
