-- `packing::pack_refusal` meets its contract.
use Rattle.packing.specs.Kinds.{kind_number}
use Rattle.packing.proofs.Numbers.{refusal_tag}
use Rattle.packing.proofs.pack_refusal.Goals as goal

pub returns : goal.returns
unfolding kind_number
returns c = rw (← refusal_tag c.args.refusal) c.pack.ensures
