-- `address::locate` meets its contract.
use Rattle.machine.specs.Failures.{walk_exception}
use Rattle.address.specs.Locating.{failure_in, place_in}
use Rattle.address.proofs.Touches.{touched_is}
use mathlib.Core.Path.{◌≡◌}
use mathlib.Core.Bool.{false, ◌&&◌}
use Rattle.machine.specs.Addresses.{low_protected}
use Rattle.address.proofs.locate.Goals as goal
use Rattle.address.proofs.locate.Goals.{else-store-via-then-store+else-low_protected, else-store-via-else-store}

pub returns-then-low_protected : goal.returns-then-low_protected
unfolding place_in failure_in walk_exception
returns-then-low_protected c = λ g x sees. rw (touched_is, c.if-store.true, ← c.low_protected.ensures x sees.cr0, c.if-low_protected.true, c.excepted.ensures)

pub returns : goal.returns
returns c =
    λ g x sees.
    let free : (c.args.store && low_protected x c.args.a) ≡ false =
    elim c.else-store.branch [
      | else-store-via-then-store+else-low_protected w ↦ rw (w.if-store.true, ← w.low_protected.ensures x sees.cr0, w.if-low_protected.false)
      | else-store-via-else-store w ↦ rw w.if-store.false
    ]
    in
    rw (touched_is, free, c.real_page-real.ensures.a_value g x sees _) (c.in_page.ensures g x sees)
