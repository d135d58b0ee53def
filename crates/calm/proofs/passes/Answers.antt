-- `calm::passes` meets its contract: where it holds, each of its tests came to nothing.
use Rattle.std.proofs.Common.{◌≡◌, true, refl, sym, ◌∙◌, arith}
use borrow.Author.Tests.{not-true}
use Rattle.std.proofs.lemmas.Grind.{common_steps}
use Rattle.psws.specs.Psws.{state}
use Rattle.calm.proofs.Listing.{not_first, not_second, contrary}
use Rattle.calm.proofs.passes.Goals as goal
use Rattle.calm.proofs.passes.Goals.{then-not-malformed, then-bit, else-bit, else-not-malformed, then-not-external_enabled, then-bit-2, else-bit-2, else-not-external_enabled}

pub returns-then-not-io_enabled : goal.returns-then-not-io_enabled
returns-then-not-io_enabled c =
    let k = state c.args.psw in
    let silent : c.if-not-external_enabled.value ≡ true = c.if-not-io_enabled.true in
    let formed : c.if-not-malformed.value ≡ true =
    elim c.if-not-external_enabled.branch [
      | then-not-external_enabled w ↦ w.if-not-external_enabled.true
      | else-not-external_enabled w ↦ sym w.value-is ∙ silent
    ] in
    λ goes. record {
      goes = grind (arith, common_steps);
      installed = grind (arith, common_steps);
      formed = grind (arith, common_steps);
      external =
          elim c.if-not-malformed.branch [
            | then-not-malformed w ↦
                elim w.if-bit.branch [
                  | then-bit v ↦ not_second _ _
                      (sym (v.external_enabled.ensures k refl) ∙ sym v.value-is ∙ not-true _ (sym w.value-is ∙ formed))
                  | else-bit v ↦ not_first _ _ (sym w.bit-then-not-malformed.ensures ∙ v.if-bit.false)
                ]
            | else-not-malformed w ↦ contrary _ formed (w.value-is ∙ w.if-not-malformed.false)
          ];
      io =
          elim c.if-not-external_enabled.branch [
            | then-not-external_enabled w ↦
                elim w.if-bit-2.branch [
                  | then-bit-2 v ↦ not_second _ _
                      (sym (v.io_enabled.ensures k refl) ∙ sym v.value-is ∙ not-true _ (sym w.value-is ∙ silent))
                  | else-bit-2 v ↦ not_first _ _ (sym w.bit-then-not-external_enabled.ensures ∙ v.if-bit-2.false)
                ]
            | else-not-external_enabled w ↦ contrary _ silent (w.value-is ∙ w.if-not-external_enabled.false)
          ];
      awake = sym (c.waiting.ensures k refl) ∙ not-true _ goes;
    }
