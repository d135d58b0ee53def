-- `limits::framed` meets its contract: storage of whole frames, one for each key, is not refused.
use borrow.Author.Tests.{leb-true, eqb-true, eqb-false, not-true}
use mathlib.Core.Path.{sym, ◌∙◌}
use native.Mathlib.Omega.{arith}
use Rattle.limits.proofs.Parts.{storage_framed}
use Rattle.limits.proofs.framed.Goals as goal
use Rattle.limits.proofs.framed.Goals.{then-keys-le-MOST_FRAMES, else-keys-le-MOST_FRAMES}

pub returns-then-storage-keys : goal.returns-then-storage-keys
returns-then-storage-keys c some =
    elim c.if-keys-le-MOST_FRAMES.branch [
      | then-keys-le-MOST_FRAMES w ↦
          storage_framed _ _ w.if-keys-le-MOST_FRAMES.true
          (eqb-true _ _ (sym w.value-is ∙ c.if-storage-keys.true))
          (eqb-false _ 0 (not-true _ some))
      | else-keys-le-MOST_FRAMES w ↦ let few = leb-true _ _ (sym w.value-is ∙ c.if-storage-keys.true) in absurd (omega (arith, w.if-keys-le-MOST_FRAMES.false))
    ]
