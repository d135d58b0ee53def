-- `controls::load_control` meets its contract.
use Prim.Native.Nat.{◌+◌, ◌*◌, ◌≤◌}
use native.Mathlib.Omega.{arith}
use mathlib.Core.Path.{ap}
use lib.ListN.{length}
use Rattle.special.specs.Performing.{psw_in}
use Rattle.special.proofs.Performing.{fetch_within}
use Rattle.controls.proofs.Controlling.{moved, controls_fetched}
use Rattle.controls.proofs.load_control.Goals as goal

pub slice_bounds-load_words-end : goal.slice_bounds-load_words-end
slice_bounds-load_words-end c =
    let n = c.count_of-n.result in
    let p = c.in-Some.p in
    let fits : p + 4 * n ≤ length c.args.storage.now =
    fetch_within c.args.storage.now c.args.kept.now c.requires.0 c.args.a (4 * n) p c.requires.2
    (c.fetch_place.ensures c.in-Some.p c.in-Some.is) in
    omega (arith, fits)

pub returns-clause-performs : goal.returns-clause-performs
returns-clause-performs c =
    let a = c.args in
    let d = c.leaving.result in
    let done = c.leaving.ensures in
    let moves = moved a.psw c.advanced.result c.advanced.ensures d (ap (λ d. d.left) done) (ap (λ d. d.right) done) in (
      controls_fetched a.kept.now a.storage.now a.control.now a.psw (psw_in d a.psw) moves a.a a.r1 a.r3 c.count_of-n.result c.in-Some.p c.requires.2
          c.count_of-n.ensures.2 (c.fetch_place.ensures c.in-Some.p c.in-Some.is) _ c.load_words.ensures.1,
      ap (λ d. d.timer) done,
      rw done tt,
    )
