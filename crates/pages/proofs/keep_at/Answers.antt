-- `pages::keep_at` meets its contract.
use Prim.Native.Nat.{ℕ, ◌/◌, ◌%◌}
use mathlib.Core.Path.{◌≡◌, refl, sym, ◌∙◌}
use mathlib.Core.Bool.{true, false≢true}
use mathlib.Core.List.{List}
use lib.ListN.{get_or}
use Rattle.address.specs.Touching.{seen}
use Rattle.blocks.proofs.Holding.{touch_stands}
use Rattle.pages.proofs.Tabling.{block_of, tables_dropped, tables_entered}
use Rattle.pages.proofs.keep_at.Goals.{else-store-via-then-store+else-guard-frame-ne0, else-store-via-else-store}
use Rattle.pages.proofs.keep_at.Goals as goal

pub bounds-keys-frame : goal.bounds-keys-frame
bounds-keys-frame c =
    let x = c.args in
    (touch_stands x.guest x.designation x.storage.now x.keys.now (seen x.psw x.control) x.store x.a x.p c.requires.1 c.requires.2 (block_of x.a x.p) refl refl).1

pub returns-then-guard-frame-ne0 : goal.returns-then-guard-frame-ne0
returns-then-guard-frame-ne0 c =
    let x = c.args in
    tables_dropped x.designation x.guest x.psw x.control x.storage.now x.keys.now x.guard.now _ x.kept.now _
    c.name_access.ensures.wider c.spare.ensures.0 c.spare.ensures.1

pub returns : goal.returns
returns c =
    let x = c.args in
    let guard : List ℕ = c.name_access.new.guard in
    let clear : x.store ≡ true → get_or guard (x.p / 4096 % 64) 0 ≡ 0 =
    λ is.
    elim c.else-store.branch [
      | else-store-via-then-store+else-guard-frame-ne0 w ↦ w.if-guard-frame-ne0.false
      | else-store-via-else-store w ↦ absurd (false≢true (sym w.if-store.false ∙ is))
    ]
    in
    rw c.enter.ensures
    (tables_entered x.designation x.guest x.psw x.control x.storage.now x.keys.now x.guard.now guard x.kept.now _ x.store x.a x.p
    c.requires.1 c.requires.2 (c.has_marks.ensures c.if-not-has_marks.false) c.name_access.ensures.by_index clear c.spare.array_long
    (tables_dropped x.designation x.guest x.psw x.control x.storage.now x.keys.now x.guard.now guard x.kept.now _
    c.name_access.ensures.wider c.spare.ensures.0 c.spare.ensures.1))
