-- `pages::spare` meets its contract. The loop's invariant: some blocks are dropped, and of the entries passed none lies in a frame that
-- the guard names.
use Prim.Native.Nat.{◌+◌}
use native.Mathlib.Omega.{arith}
use mathlib.Core.Path.{◌≡◌, sym, ap, ◌∙◌}
use borrow.Author.Count.{below_more}
use lib.ListN.{length, length-set}
use Rattle.pages.proofs.Tabling.{FreeAt, fewer_none, fewer_trans, drop_one, free_dropped}
use Rattle.pages.proofs.spare.Goals.{then-guard-frame-ne0, else-guard-frame-ne0}
use Rattle.pages.proofs.spare.Goals as goal

pub loop-i-init : goal.loop-i-init
loop-i-init c = (fewer_none _, λ j none. absurd (omega arith))

pub loop-i-preserved : goal.loop-i-preserved
loop-i-preserved c =
    let loop = c.loop-i in
    let kept = loop.kept in
    let small = c.loop-i-test.true in
    elim c.if-guard-frame-ne0.branch [
      | then-guard-frame-ne0 w ↦
          let long : length kept ≡ 32 = sym (length-set kept (16 + loop.i) 2147483648) ∙ ap length (sym w.kept-is) ∙ c.if-guard-frame-ne0.array_long in
          rw w.kept-is
          (fewer_trans c.args.kept.now kept _ loop.invariant.0 (drop_one kept loop.i small long), free_dropped kept loop.i small c.args.guard.now long loop.invariant.1)
      | else-guard-frame-ne0 w ↦
          rw w.kept-is (loop.invariant.0, below_more (FreeAt c.args.guard.now kept) loop.i loop.invariant.1 (λ _. w.if-guard-frame-ne0.false))
    ]

pub returns : goal.returns
returns c =
    let inv = c.loop-i.invariant in
    (inv.0, λ i few. inv.1 i (omega arith))
