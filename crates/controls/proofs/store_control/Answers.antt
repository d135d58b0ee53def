-- `controls::store_control` meets its contract.
use Prim.Native.Nat.{◌+◌, ◌*◌, ◌≤◌}
use native.Mathlib.Omega.{arith}
use mathlib.Core.Path.{ap}
use lib.ListN.{length}
use borrow.Author.Rules.{rules}
use Rattle.special.specs.Performing.{psw_in}
use Rattle.special.proofs.Performing.{store_within}
use Rattle.special.proofs.Leaving.{in_calm, past_near}
use Rattle.controls.proofs.Controlling.{moved, controls_stored}
use Rattle.controls.proofs.store_control.Goals as goal

pub slice_bounds-store_words-end : goal.slice_bounds-store_words-end
slice_bounds-store_words-end c =
    let n = c.count_of-n.result in
    let p = c.in-Some.p in
    let fits : p + 4 * n ≤ length c.args.storage.now =
    store_within c.args.storage.now c.args.kept.now c.requires.0 c.args.a (4 * n) p c.requires.2
    (c.store_place.ensures c.in-Some.p c.in-Some.is) in
    omega (arith, fits)

pub returns-clause-performs : goal.returns-clause-performs
returns-clause-performs c =
    let a = c.args in
    let d = c.leaving.result in
    let done = c.leaving.ensures in
    let n = c.count_of-n.result in
    let p = c.in-Some.p in
    let spot = c.store_place.ensures p c.in-Some.is in
    let moves = moved a.psw c.advanced.result c.advanced.ensures d (ap (λ d. d.left) done) (ap (λ d. d.right) done) in (
      controls_stored a.kept.now a.storage.now a.control.now a.psw (psw_in d a.psw) moves a.a a.r1 a.r3 n p c.requires.2 c.count_of-n.ensures.2
          spot c.if-a-lt-LOW.false (store_within a.storage.now a.kept.now c.requires.0 a.a (4 * n) p c.requires.2 spot) _ c.store_words.ensures,
      ap (λ d. d.timer) done,
      in_calm d.change (λ wrapped. past_near a.psw (psw_in d a.psw) 2 (search rules) (search rules) wrapped moves),
    )
