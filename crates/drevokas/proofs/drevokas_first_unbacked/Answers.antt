-- `drevokas::drevokas_first_unbacked` meets its contract.
use mathlib.Core.Path.{ap, ◌∙◌}
use Rattle.replies.specs.Replying.{packed_found, place_after_found}
use Rattle.drevokas.proofs.drevokas_first_unbacked.Goals as goal

pub returns : goal.returns
returns c =
    let given = c.first_unbacked-found.ensures in (
      c.pack_found.ensures ∙ ap packed_found given,
      c.place_after_found.ensures ∙ ap (λ x. place_after_found x c.args.place.now) given,
    )
