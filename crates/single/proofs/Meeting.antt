-- What the contracts of a unit's parts say.
-- Assumes nothing.
use Rattle.special.specs.declared.Change.{Change}
use Rattle.special.specs.declared.Change.TheVariants.{Calm, Called, Changed}
use Rattle.special.specs.Performing.{IfCalm}

-- what follows where address, condition code and storage alone changed
pub calm_so : (change : Change) {P Q : Type 0} → (P → Q) → IfCalm change P → IfCalm change Q
calm_so Calm onward p = onward p
calm_so Called onward p = tt
calm_so Changed onward p = tt
