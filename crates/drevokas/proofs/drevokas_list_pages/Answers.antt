-- `drevokas::drevokas_list_pages` meets its contract.
use mathlib.Core.Path.{ap, ◌∙◌}
use Rattle.replies.specs.Replying.{packed_listing}
use Rattle.drevokas.proofs.drevokas_list_pages.Goals as goal

pub returns : goal.returns
returns c =
    let given = c.list.ensures in
    record { answer = c.pack_listing.ensures ∙ ap packed_listing given.answer; shown = given.shown }
