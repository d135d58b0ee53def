-- `lap::part` meets its contract.
use Rattle.std.proofs.Common.{refl, get_or, rules}
use Rattle.lap.specs.Stepping.{flags}
use Rattle.lap.proofs.Contents.{part_is, part_small}
use Rattle.lap.proofs.part.Goals as goal

pub returns : goal.returns
returns c =
    let a = c.args in
    let content = get_or a.words.now a.r 0 in
    (part_is a.words.now flags a.r content c.requires refl refl, part_small a.words.now flags a.r content c.requires refl refl (search rules))
