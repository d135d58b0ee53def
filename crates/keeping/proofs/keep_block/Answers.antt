-- `keeping::keep_block` meets its contract.
use mathlib.Core.Path.{sym, subst}
use Rattle.machine.specs.Host.{host}
use Rattle.area.specs.Keeping.{Area}
use Rattle.turns.specs.Turning.{Low}
use Rattle.keeping.proofs.keep_block.Goals as goal

pub returns : goal.returns
returns c =
    let again = c.again in
    let a = c.args in
    let keep = c.keep-good in
    record {
      stays = again.ensures.0;
      tables = keep.ensures;
      area = λ place. subst (Area keep.new.guard a.guest (host a.designation a.storage.now a.keys.now)) (sym again.ensures.2)
          (c.spared-place.ensures a.guard.now a.guest _ keep.ensures.wider place);
      small = subst Low (sym again.ensures.1) c.next_of-next.ensures;
    }
