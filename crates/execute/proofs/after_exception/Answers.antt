-- `execute::after_exception` meets its contract.
use mathlib.Core.Logic.{⊎_elim}
use mathlib.Core.Path.{◌≡◌, refl}
use mathlib.Core.Bool.{true}
use borrow.Author.Tests.{eq-eqb, ne_eqb}
use Rattle.execute.proofs.Exceptions.{at_the_instruction, past_the_instruction}
use Rattle.execute.proofs.after_exception.Goals as goal

pub returns-then-ilc-eq0 : goal.returns-then-ilc-eq0
returns-then-ilc-eq0 c =
    λ x k f ilc code same.
    ⊎_elim (λ (stays : c.translation.result ≡ true). at_the_instruction x k f (rw (code, ← c.translation.ensures, stays) refl) same)
    (λ (goes, none). at_the_instruction x k f (rw (code, ← c.translation.ensures, goes, ilc, eq-eqb _ 0 none) refl) same) c.if-ilc-eq0.either

pub returns-else-ilc-eq0 : goal.returns-else-ilc-eq0
returns-else-ilc-eq0 c =
    let (goes, some) = c.if-ilc-eq0.false in
    λ x k f ilc code same.
    past_the_instruction x k f (rw (code, ← c.translation.ensures, goes, ilc, ne_eqb _ 0 some) refl)
    (rw ilc (c.advanced.ensures k same))
