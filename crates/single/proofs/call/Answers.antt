-- `single::call` meets its contract.
use native.Mathlib.Omega.{arith}
use mathlib.Core.Path.{refl, sym, ◌∙◌}
use Rattle.single.proofs.Calling.{called_leaves}
use Rattle.single.proofs.call.Goals as goal

pub call-new-requires : goal.call-new-requires
call-new-requires c =
    (omega (arith, c.if-area-ge-NO_AREA.false), c.requires.1 (omega (arith, c.if-area-ge-NO_AREA.false)), c.requires.0)

pub returns-clause-calls : goal.returns-clause-calls
returns-clause-calls c =
    let new = c.call-new in
    let a = c.args in
    rw c.leaving.ensures (
      called_leaves a.guest a.area a.psw a.timer a.number a.storage.now new.result new.new.storage
          (sym c.intercepts_svc.ensures ∙ c.if-intercepts_svc.false) (omega (arith, c.if-area-ge-NO_AREA.false)) new.ensures,
      refl,
      refl,
    )
