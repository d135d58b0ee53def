-- `area::keep_area` meets its contract.
use Rattle.std.proofs.lemmas.Bool.{not-true}
use Prim.Native.Nat.{◌*◌}
use mathlib.Core.Path.{refl, sym, ap, ◌∙◌}
use Rattle.address.proofs.Touches.{backing_keyless}
use Rattle.area.proofs.Holding.{none_kept}
use Rattle.area.proofs.keep_area.Goals as goal
use Rattle.machine.specs.Walk.{at_frame}

pub keep_frame-requires : goal.keep_frame-requires
keep_frame-requires c =
    let x = c.args in (
      c.requires.0,
      c.requires.1,
      backing_keyless x.guest x.designation x.storage.now x.keys.now (x.guest.prefix * 4096)
          ∙ sym (c.backing.ensures x.guest refl refl) ∙ c.in-Ok.is ∙ ap (at_frame c.in-Ok.page.frame) (not-true _ c.if-not-page.true),
    )

pub returns-in_default : goal.returns-in_default
returns-in_default c =
    let x = c.args in
    let both = none_kept x.guest x.designation x.storage.now x.keys.now x.guard.now x.kept.now in record { tables = both.0; area = both.1 }

pub returns-in_default-2 : goal.returns-in_default-2
returns-in_default-2 c =
    let x = c.args in
    let both = none_kept x.guest x.designation x.storage.now x.keys.now x.guard.now x.kept.now in record { tables = both.0; area = both.1 }
