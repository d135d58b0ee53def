-- `words::put_bytes` meets its contract. The bytes, in the part's place, are the run of stores.
use Rattle.words.proofs.Parts.{sets_of_part}
use Rattle.words.proofs.put_bytes.Goals as goal

pub returns : goal.returns
returns c = rw c.copy_from_slice.ensures.after (sets_of_part c.args.s.now c.args.a c.args.bytes.now c.requires)
