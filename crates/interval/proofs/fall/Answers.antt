-- `interval::fall` meets its contract.
use Rattle.std.proofs.Common.{ap, ◌∙◌}
use lib.Seq.{sets}
use Rattle.machine.specs.Words.{word_bytes}
use Rattle.machine.specs.Interval.{word_after}
use Rattle.words.proofs.Numbers.{word_of_part}
use Rattle.interval.proofs.fall.Goals as goal

pub returns-clause-storage_after : goal.returns-clause-storage_after
returns-clause-storage_after c =
    let a = c.args in
    word_of_part a.storage.now c.put_part.new.part a.at c.word_after.result c.requires (c.put_part.ensures ∙ c.to_be_bytes.ensures)
    ∙ ap (λ w. sets a.storage.now a.at (word_bytes w)) (c.word_after.ensures ∙ ap word_after c.word_at-word.ensures)
