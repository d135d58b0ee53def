-- `drevokas::drevokas_protect_page` meets its contract.
use mathlib.Core.Path.{ap, ◌∙◌}
use Rattle.replies.specs.Replying.{packed_call}
use Rattle.drevokas.proofs.drevokas_protect_page.Goals as goal

pub returns : goal.returns
returns c =
    let given = c.change.ensures in
    record { answer = c.pack_call.ensures ∙ ap packed_call given.answer; bytes = given.bytes; count = given.count }
