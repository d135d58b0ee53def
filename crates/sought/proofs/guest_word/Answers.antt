-- `sought::guest_word` meets its contract.
use native.Mathlib.Omega.{arith}
use mathlib.Core.Path.{refl}
use Rattle.storage.proofs.Found.{served_page}
use Rattle.address.proofs.Located.{sees_bound, entry-outside, entry-stopped, entry_found}
use Rattle.sought.proofs.guest_word.Goals as goal

pub returns-then-at-ge-STOPPED : goal.returns-then-at-ge-STOPPED
returns-then-at-ge-STOPPED c =
    λ g x sees k.
    rw (entry-outside g c.args.space.designation c.args.storage.now k _ c.virtual_of-at.result c.requires (sees_bound _ g x sees) (c.virtual_of-at.ensures g x sees) c.if-at-ge-STOPPED.true 0)
    (omega arith)

pub segment_for-segment-requires : goal.segment_for-segment-requires
segment_for-segment-requires c = c.no_segment.ensures _ _

pub returns-then-page-ge-STOPPED : goal.returns-then-page-ge-STOPPED
returns-then-page-ge-STOPPED c =
    let found = served_page _ _ _ _ _ _ c.segment_for-segment.ensures.0 c.segment_for-segment.ensures.1 c.page_for-page.ensures in
    λ g x sees k.
    rw (entry-stopped g c.args.space.designation c.args.storage.now k _ c.virtual_of-at.result c.requires (sees_bound _ g x sees) (c.virtual_of-at.ensures g x sees) c.if-at-ge-STOPPED.false c.page_for-page.result found c.if-page-ge-STOPPED.true 0)
    (omega arith)

pub returns : goal.returns
returns c =
    let found = served_page _ _ _ _ _ _ c.segment_for-segment.ensures.0 c.segment_for-segment.ensures.1 c.page_for-page.ensures in
    λ g x sees k.
    rw (entry_found g c.args.space.designation c.args.storage.now k _ c.virtual_of-at.result c.requires (sees_bound _ g x sees) (c.virtual_of-at.ensures g x sees) c.if-at-ge-STOPPED.false c.page_for-page.result found c.if-page-ge-STOPPED.false _ c.table_word.ensures)
    (refl, omega arith)
