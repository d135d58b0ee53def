-- `address::from_page_entry` meets its contract.
use Prim.Native.Nat.{◌%◌, ◌^◌}
use native.Mathlib.Omega.{arith}
use Rattle.machine.specs.Walk.{walk_page}
use Rattle.storage.proofs.Found.{served_page, found_code}
use Rattle.address.specs.Locating.{fault_number}
use Rattle.address.proofs.Located.{failed_page, sees_bound, entry-outside, entry-stopped, entry_found}
use Rattle.address.proofs.from_page_entry.Goals as goal

pub returns-then-at-ge-STOPPED : goal.returns-then-at-ge-STOPPED
unfolding walk_page
returns-then-at-ge-STOPPED c = record {
  serves = c.without_segment.ensures.1 _ _;
  real_value = λ g x sees k a.
      rw (
        c.without_segment.ensures.0,
        failed_page a _ c.if-at-ge-STOPPED.true,
        entry-outside g c.args.designation c.args.storage.now k _ _ c.requires.0 (sees_bound _ g x sees) (c.virtual_of-at.ensures g x sees) c.if-at-ge-STOPPED.true a,
      );
}

pub faulted-requires : goal.faulted-requires
faulted-requires c =
    let segment = c.segment_for-segment in
    found_code c.args.designation c.args.storage.now _ _ (served_page _ _ _ _ _ _ segment.ensures.0 segment.ensures.1 c.page_for-page.ensures) c.if-page-ge-STOPPED.true

pub returns-then-page-ge-STOPPED : goal.returns-then-page-ge-STOPPED
unfolding walk_page
returns-then-page-ge-STOPPED c =
    let p = c.page_for-page.result in
    let v = c.virtual_of-at.result in record {
      serves = c.without_segment-then-page-ge-STOPPED.ensures.1 _ _;
      real_value = λ g x sees k a.
          rw (
            c.without_segment-then-page-ge-STOPPED.ensures.0,
            c.faulted.ensures,
            failed_page a (fault_number v (p % 2 ^ 32)) (omega arith),
            entry-stopped g c.args.designation c.args.storage.now k _ v c.requires.0 (sees_bound _ g x sees) (c.virtual_of-at.ensures g x sees) c.if-at-ge-STOPPED.false p
                (served_page _ _ _ _ _ _ c.segment_for-segment.ensures.0 c.segment_for-segment.ensures.1 c.page_for-page.ensures) c.if-page-ge-STOPPED.true a,
          );
    }

pub returns : goal.returns
returns c =
    let p = c.page_for-page.result in
    let v = c.virtual_of-at.result in record {
      serves = c.segment_for-segment.ensures.1;
      real_value = λ g x sees k a.
          rw (entry_found g c.args.designation c.args.storage.now k _ v c.requires.0 (sees_bound _ g x sees) (c.virtual_of-at.ensures g x sees) c.if-at-ge-STOPPED.false p
          (served_page _ _ _ _ _ _ c.segment_for-segment.ensures.0 c.segment_for-segment.ensures.1 c.page_for-page.ensures) c.if-page-ge-STOPPED.false _ c.table_word.ensures) (c.by_page.ensures a);
    }
