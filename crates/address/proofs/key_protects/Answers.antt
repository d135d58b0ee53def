-- `address::key_protects` meets its contract.
use mathlib.Core.Path.{◌≡◌, sym, ◌∙◌}
use mathlib.Core.Bool.{not, ◌&&◌}
use lib.Dec.{eqb}
use borrow.Author.Tests.{eq-eqb, ne_eqb}
use Rattle.machine.specs.Words.{bits}
use Rattle.machine.specs.Addresses.{key_protects}
use Rattle.address.proofs.key_protects.Goals as goal
use Rattle.address.proofs.key_protects.Goals.{Joined-access-ne0, then-access-ne0, else-access-ne0}

-- whether the access key is neither zero nor the byte's
other_key : (c : Joined-access-ne0) → c.if-access-ne0.value ≡ (not (eqb (bits 32 8 11 c.args.left) 0) && not (eqb (bits 32 8 11 c.args.left) (bits 8 0 3 c.args.key)))
other_key c =
    elim c.if-access-ne0.branch [
      | then-access-ne0 w ↦ rw (ne_eqb _ _ w.if-access-ne0.true) w.value-is
      | else-access-ne0 w ↦ rw (w.value-is, eq-eqb _ _ w.if-access-ne0.false)
    ]

pub returns-then-store : goal.returns-then-store
unfolding key_protects
returns-then-store c = λ x is. rw (← is, sym (other_key (goal.at.returns-then-store c).Joined-access-ne0) ∙ c.if-access-key.true, c.if-store.true)

pub returns-else-store : goal.returns-else-store
unfolding key_protects
returns-else-store c = λ x is. rw (← is, sym (other_key (goal.at.returns-else-store c).Joined-access-ne0) ∙ c.if-access-key.true, c.if-store.false)

pub returns-else-access-key : goal.returns-else-access-key
unfolding key_protects
returns-else-access-key c = λ x is. rw (← is, c.if-access-key.false, sym (other_key (goal.at.returns-else-access-key c).Joined-access-ne0) ∙ c.if-access-key.false)
