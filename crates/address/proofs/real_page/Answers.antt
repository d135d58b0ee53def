-- `address::real_page` meets its contract.
use native.Mathlib.Omega.{arith}
use mathlib.Core.Path.{subst, ◌∙◌}
use borrow.Author.Tests.{eq-eqb, ne_eqb}
use Rattle.machine.specs.Addresses.{real_page, format_good}
use Rattle.machine.specs.Walk.{walk_page}
use Rattle.machine.specs.Failures.{walk_exception}
use Rattle.storage.specs.Steps.{read_through, segment_leads}
use Rattle.storage.proofs.Steps.{walk_in_steps}
use Rattle.address.specs.Touching.{Aligned}
use Rattle.address.specs.Locating.{failure_in, page_in}
use Rattle.address.proofs.Located.{failed_place, good-place, failed_page, plain_page}
use Rattle.address.proofs.Touches.{aligned_table_leads}
use Rattle.address.proofs.real_page.Goals as goal

pub returns-then-not-dat_on : goal.returns-then-not-dat_on
unfolding real_page
returns-then-not-dat_on c =
    record { serves = c.without_segment.ensures.1 _ _; a_value = λ g x sees k. rw (c.without_segment.ensures.0, plain_page c.args.a (omega arith), ← sees.dat, ← c.dat_on.ensures, c.if-not-dat_on.true) }

pub returns-then-space-ne22 : goal.returns-then-space-ne22
unfolding real_page format_good page_in failure_in walk_exception
returns-then-space-ne22 c = record {
  serves = c.without_segment-then-space-ne22.ensures.1 _ _;
  a_value = λ g x sees k.
      rw (c.without_segment-then-space-ne22.ensures.0, c.excepted.ensures, ← sees.dat, ← c.dat_on.ensures, c.if-not-dat_on.false, ← sees.cr0, ne_eqb _ _ c.if-space-ne22.true);
}

pub returns-then-real-ge-STOPPED : goal.returns-then-real-ge-STOPPED
unfolding real_page format_good read_through segment_leads walk_page
returns-then-real-ge-STOPPED c =
    let next = c.by_table-real in record {
      serves = c.without_segment-then-real-ge-STOPPED.ensures.1 _ _;
      a_value = λ g x sees k.
          rw (c.without_segment-then-real-ge-STOPPED.ensures.0, failed_page _ next.result c.if-real-ge-STOPPED.true, ← sees.dat, ← c.dat_on.ensures, c.if-not-dat_on.false, ← sees.cr0, eq-eqb _ _ c.if-space-ne22.false, walk_in_steps, ← sees.cr1, next.ensures, failed_place _ next.result c.if-real-ge-STOPPED.true);
    }

pub from_segment_entry-requires : goal.from_segment_entry-requires
from_segment_entry-requires c = subst Aligned (c.by_table-real.ensures ∙ good-place _ _ c.if-real-ge-STOPPED.false) (aligned_table_leads _ _ _)

pub returns : goal.returns
unfolding real_page format_good read_through
returns c =
    let next = c.by_table-real in record {
      serves = c.from_segment_entry.ensures.serves;
      a_value = λ g x sees k.
          rw (← sees.dat, ← c.dat_on.ensures, c.if-not-dat_on.false, ← sees.cr0, eq-eqb _ _ c.if-space-ne22.false, walk_in_steps, ← sees.cr1, next.ensures, good-place _ next.result c.if-real-ge-STOPPED.false) (c.from_segment_entry.ensures.real_value g x sees k);
    }
