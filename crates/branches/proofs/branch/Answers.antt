-- `branches::branch` meets its contract.
use mathlib.Core.Path.{refl, ap, ◌∙◌}
use Rattle.machine.specs.Psw.{with_psw, with_address, advanced}
use Rattle.branches.proofs.branch.Goals as goal

pub returns-then-taken : goal.returns-then-taken
unfolding with_address with_psw
returns-then-taken c =
    let a = c.args in (
      c.with_psw.ensures.0,
      λ x cpu text.
          rw (c.if-taken.true, cpu) (c.with_psw.ensures.1 ∙ ap (with_psw a.cpu) (c.with_address.ensures a.cpu refl)),
    )

pub returns : goal.returns
unfolding advanced with_address with_psw
returns c =
    let a = c.args in (
      c.with_psw-2.ensures.0,
      λ x cpu text.
          rw (c.if-taken.false, cpu, text) (c.with_psw-2.ensures.1 ∙ ap (with_psw a.cpu) (c.advanced.ensures a.cpu refl)),
    )
