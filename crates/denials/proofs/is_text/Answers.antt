-- `denials::is_text` meets its contract.
use mathlib.Core.Path.{refl, ◌∙◌}
use borrow.Author.Tests.{eqb-true}
use Rattle.psws.specs.Psws.{state}
use Rattle.denials.proofs.is_text.Goals as goal

pub returns-then-not-store : goal.returns-then-not-store
returns-then-not-store c = λ yes. (c.if-not-store.true, eqb-true _ _ yes ∙ c.instruction_address.ensures (state c.args.psw) refl)
