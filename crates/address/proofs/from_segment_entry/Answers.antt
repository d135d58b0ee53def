-- `address::from_segment_entry` meets its contract.
use Prim.Native.Nat.{◌%◌, ◌^◌}
use native.Mathlib.Omega.{arith}
use mathlib.Core.Path.{subst, ◌∙◌}
use Rattle.machine.specs.Walk.{walk_page}
use Rattle.storage.specs.Steps.{read_through, segment_leads}
use Rattle.storage.proofs.Found.{served_page, found_code}
use Rattle.address.specs.Locating.{fault_number}
use Rattle.address.specs.Touching.{Aligned}
use Rattle.address.proofs.Located.{failed_place, good-place, failed_page, sees_bound, entry-outside, entry-stopped, entry_found}
use Rattle.address.proofs.Touches.{aligned_segment_leads}
use Rattle.address.proofs.from_segment_entry.Goals as goal

pub returns-then-at-ge-STOPPED : goal.returns-then-at-ge-STOPPED
unfolding walk_page read_through segment_leads
returns-then-at-ge-STOPPED c =
    let v = c.virtual_of-at.result in record {
      serves = c.without_segment.ensures.1 _ _;
      real_value = λ g x sees k.
          rw (
            c.without_segment.ensures.0,
            failed_page _ v c.if-at-ge-STOPPED.true,
            entry-outside g c.args.designation c.args.storage.now k _ v c.requires (sees_bound _ g x sees) (c.virtual_of-at.ensures g x sees) c.if-at-ge-STOPPED.true c.args.a,
          );
    }

pub segment_for-segment-requires : goal.segment_for-segment-requires
segment_for-segment-requires c = c.no_segment.ensures _ _

pub faulted-requires : goal.faulted-requires
faulted-requires c = found_code c.args.designation c.args.storage.now _ _ (served_page _ _ _ _ _ _ c.segment_for-segment.ensures.0 c.segment_for-segment.ensures.1 c.page_for-page.ensures) c.if-page-ge-STOPPED.true

pub returns-then-page-ge-STOPPED : goal.returns-then-page-ge-STOPPED
unfolding walk_page read_through segment_leads
returns-then-page-ge-STOPPED c =
    let p = c.page_for-page.result in
    let v = c.virtual_of-at.result in
    let found = served_page _ _ _ _ _ _ c.segment_for-segment.ensures.0 c.segment_for-segment.ensures.1 c.page_for-page.ensures in record {
      serves = c.without_segment-then-page-ge-STOPPED.ensures.1 _ _;
      real_value = λ g x sees k.
          rw (
            c.without_segment-then-page-ge-STOPPED.ensures.0,
            c.faulted.ensures,
            failed_page _ (fault_number v (p % 2 ^ 32)) (omega arith),
            entry-stopped g c.args.designation c.args.storage.now k _ v c.requires (sees_bound _ g x sees) (c.virtual_of-at.ensures g x sees) c.if-at-ge-STOPPED.false p found c.if-page-ge-STOPPED.true c.args.a,
          );
    }

pub returns-then-next-ge-STOPPED : goal.returns-then-next-ge-STOPPED
unfolding walk_page read_through
returns-then-next-ge-STOPPED c =
    let p = c.page_for-page.result in
    let v = c.virtual_of-at.result in
    let found = served_page _ _ _ _ _ _ c.segment_for-segment.ensures.0 c.segment_for-segment.ensures.1 c.page_for-page.ensures in
    let next = c.by_segment-next in record {
      serves = c.without_segment-then-next-ge-STOPPED.ensures.1 _ _;
      real_value = λ g x sees k.
          rw (
            c.without_segment-then-next-ge-STOPPED.ensures.0,
            failed_page _ next.result c.if-next-ge-STOPPED.true,
            entry_found g c.args.designation c.args.storage.now k _ v c.requires (sees_bound _ g x sees) (c.virtual_of-at.ensures g x sees) c.if-at-ge-STOPPED.false p found c.if-page-ge-STOPPED.false _ c.table_word.ensures,
            next.ensures,
            failed_place _ next.result c.if-next-ge-STOPPED.true,
          );
    }

pub from_page_entry-requires : goal.from_page_entry-requires
from_page_entry-requires c =
    let next = c.by_segment-next in
    (subst Aligned (next.ensures ∙ good-place _ _ c.if-next-ge-STOPPED.false) (aligned_segment_leads _ _ _), c.segment_for-segment.ensures.1)

pub returns : goal.returns
unfolding read_through
returns c =
    let p = c.page_for-page.result in
    let v = c.virtual_of-at.result in
    let found = served_page _ _ _ _ _ _ c.segment_for-segment.ensures.0 c.segment_for-segment.ensures.1 c.page_for-page.ensures in
    let next = c.by_segment-next in record {
      serves = c.from_page_entry.ensures.serves;
      real_value = λ g x sees k.
          rw (
            entry_found g c.args.designation c.args.storage.now k _ v c.requires (sees_bound _ g x sees) (c.virtual_of-at.ensures g x sees) c.if-at-ge-STOPPED.false p found c.if-page-ge-STOPPED.false _ c.table_word.ensures,
            next.ensures,
            good-place _ next.result c.if-next-ge-STOPPED.false,
          )
          (c.from_page_entry.ensures.real_value g x sees k c.args.a);
    }
