-- `calls::put` meets its contract. The word, in the part's place, is the run of stores.
use mathlib.Core.Path.{◌∙◌}
use Rattle.words.proofs.Numbers.{word_of_part}
use Rattle.calls.proofs.put.Goals as goal

pub returns : goal.returns
returns c =
    let a = c.args in
    word_of_part a.storage.now _ a.from a.value c.requires (c.put_part.ensures ∙ c.to_be_bytes.ensures)
