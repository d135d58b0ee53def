-- `keeping::keep_area` meets its contract.
use mathlib.Core.Path.{sym, subst}
use Rattle.machine.specs.Host.{host}
use Rattle.area.specs.Keeping.{Area}
use Rattle.turns.specs.Turning.{Low}
use Rattle.keeping.proofs.keep_area.Goals.{then-found-ge-NO_AREA, else-found-ge-NO_AREA}
use Rattle.keeping.proofs.keep_area.Goals as goal

pub returns : goal.returns
returns c =
    let again = c.again in
    let a = c.args in
    let keep = c.keep_area-found in
    let low : Low c.if-found-ge-NO_AREA.next = elim c.if-found-ge-NO_AREA.branch [ then-found-ge-NO_AREA w ↦ subst Low (sym w.next-is) tt | else-found-ge-NO_AREA w ↦ subst Low (sym w.next-is) tt ] in
    λ words. record {
      stays = again.ensures.0;
      tables = keep.ensures.tables _ _;
      area = λ _. subst (Area keep.new.guard a.guest (host a.designation a.storage.now a.keys.now)) (sym again.ensures.2) keep.ensures.area;
      small = subst Low (sym again.ensures.1) low;
    }
