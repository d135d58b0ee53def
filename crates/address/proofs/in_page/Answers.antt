-- `address::in_page` meets its contract.
use Prim.Native.Nat.{◌%◌, ◌^◌}
use native.Mathlib.Omega.{arith}
use Rattle.storage.proofs.Found.{served_page, found_code, found-in_storage}
use Rattle.address.specs.Locating.{fault_number}
use Rattle.address.specs.Touching.{settled, touched}
use Rattle.address.proofs.Located.{failed_page, good-page, failed_place, sees_bound, behind_virtual, behind-outside, behind-found, behind-stopped}
use Rattle.address.proofs.Touches.{backing_keyless}
use Rattle.address.proofs.in_page.Goals as goal

pub returns-then-entry-ge-STOPPED : goal.returns-then-entry-ge-STOPPED
unfolding touched
returns-then-entry-ge-STOPPED c = λ g x sees. rw (failed_page _ _ c.if-entry-ge-STOPPED.true, failed_place _ _ c.if-entry-ge-STOPPED.true)

pub returns-then-at-ge-STOPPED : goal.returns-then-at-ge-STOPPED
unfolding touched settled
returns-then-at-ge-STOPPED c =
    let v = c.virtual_of-at.result in
    λ g x sees.
    rw (good-page _ _ c.if-entry-ge-STOPPED.false, backing_keyless g c.args.designation c.args.storage.now c.args.keys.now, behind-outside g c.args.designation c.args.storage.now _ v (sees_bound _ g x sees) (c.virtual_of-at.ensures g x sees) c.if-at-ge-STOPPED.true c.args.a, failed_place _ v c.if-at-ge-STOPPED.true)

pub faulted-requires : goal.faulted-requires
faulted-requires c = found_code c.args.designation c.args.storage.now _ _ (served_page _ _ _ _ _ _ c.segment_for-segment.ensures.0 c.segment_for-segment.ensures.1 c.page_for-page.ensures) c.if-page-ge-STOPPED.true

pub returns-then-page-ge-STOPPED : goal.returns-then-page-ge-STOPPED
unfolding touched settled
returns-then-page-ge-STOPPED c =
    let p = c.page_for-page.result in
    let v = c.virtual_of-at.result in
    let found = served_page _ _ _ _ _ _ c.segment_for-segment.ensures.0 c.segment_for-segment.ensures.1 c.page_for-page.ensures in
    λ g x sees.
    rw (
      good-page _ _ c.if-entry-ge-STOPPED.false,
      backing_keyless g c.args.designation c.args.storage.now c.args.keys.now,
      behind-stopped g c.args.designation c.args.storage.now _ v (sees_bound _ g x sees) (c.virtual_of-at.ensures g x sees) c.if-at-ge-STOPPED.false p found c.if-page-ge-STOPPED.true c.args.a,
      c.faulted.ensures,
      failed_place _ (fault_number v (p % 2 ^ 32)) (omega arith),
    )

pub settle-requires : goal.settle-requires
settle-requires c = omega (arith, found-in_storage c.args.designation c.args.storage.now _ _ (served_page _ _ _ _ _ _ c.segment_for-segment.ensures.0 c.segment_for-segment.ensures.1 c.page_for-page.ensures) c.if-page-ge-STOPPED.false)

pub returns : goal.returns
unfolding touched
returns c =
    let p = c.page_for-page.result in
    let v = c.virtual_of-at.result in
    let found = served_page _ _ _ _ _ _ c.segment_for-segment.ensures.0 c.segment_for-segment.ensures.1 c.page_for-page.ensures in
    λ g x sees.
    rw (
      good-page _ _ c.if-entry-ge-STOPPED.false,
      backing_keyless g c.args.designation c.args.storage.now c.args.keys.now,
      behind-found g c.args.designation c.args.storage.now _ v (sees_bound _ g x sees) (c.virtual_of-at.ensures g x sees) c.if-at-ge-STOPPED.false p found c.if-page-ge-STOPPED.false,
    )
    (c.settle.ensures g x _ c.args.a sees.key (behind_virtual g c.args.designation c.args.storage.now _ v (sees_bound _ g x sees) (c.virtual_of-at.ensures g x sees) c.if-at-ge-STOPPED.false))
