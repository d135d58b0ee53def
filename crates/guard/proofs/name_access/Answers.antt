-- `guard::name_access` meets its contract.
use native.Mathlib.Omega.{arith}
use mathlib.Core.Path.{subst}
use mathlib.Core.List.{[]}
use Rattle.address.specs.Touching.{seen, Small}
use Rattle.address.proofs.Touches.{small-real_page}
use Rattle.guard.proofs.Guarded.{touch_alike}
use Rattle.guard.proofs.name_access.Goals as goal

pub overflow_mul-page : goal.overflow_mul-page
overflow_mul-page c = let small = subst Small c.in-Ok.is (rw (c.name_tables.ensures.by_index_2 []) (small-real_page _ _ _ _ (omega arith))) in omega arith

pub overflow_add-page : goal.overflow_add-page
overflow_add-page c = let small = subst Small c.in-Ok.is (rw (c.name_tables.ensures.by_index_2 []) (small-real_page _ _ _ _ (omega arith))) in omega arith

pub returns-then-at-guest : goal.returns-then-at-guest
returns-then-at-guest c =
    let tables = c.name_tables.ensures in
    let host = c.name_host.ensures in record {
      wider = λ frame named. host.wider frame (tables.wider frame named);
      by_index = touch_alike _ c.args.guest c.args.designation c.args.storage.now (seen c.args.psw c.args.control) c.args.a _ _
          host.wider
          (tables.by_index, tables.by_index_2)
          (rw (c.in-Ok.is, ← c.prefixed-at.ensures) (λ _. host.by_index));
    }

pub returns-else-at-guest : goal.returns-else-at-guest
returns-else-at-guest c =
    let tables = c.name_tables.ensures in
    let above = c.if-at-guest.false in record {
      wider = tables.wider;
      by_index = touch_alike _ c.args.guest c.args.designation c.args.storage.now (seen c.args.psw c.args.control) c.args.a _ _
          (λ frame named. named)
          (tables.by_index, tables.by_index_2)
          (rw (c.in-Ok.is, ← c.prefixed-at.ensures) (λ below. absurd (omega arith)));
    }

pub returns-in_default : goal.returns-in_default
returns-in_default c =
    let tables = c.name_tables.ensures in record {
      wider = tables.wider;
      by_index = touch_alike _ c.args.guest c.args.designation c.args.storage.now (seen c.args.psw c.args.control) c.args.a _ _
          (λ frame named. named)
          (tables.by_index, tables.by_index_2)
          (rw c.in_default.is tt);
    }
