-- A call that is done leaves no entry that describes the extent in a guest frame.
use mathlib.Core.Path.{◌≡◌}
use mathlib.Core.Bool.{false}
use Rattle.machine.specs.Record.{guest_of}
use Rattle.desk.specs.Extent.{first_page, page_count, entry_in_frame}
use Rattle.desk.specs.Desk.{desk_of}
use Rattle.desk.specs.Theorems.{CallsLeaveEntriesApart}
use Rattle.desk.proofs.Tables.{never_both}
use Rattle.desk.proofs.Changes.{done_of}
use Rattle.desk.proofs.Terms.{test_of_entry-in_frame}

pub calls_leave_entries-apart : CallsLeaveEntriesApart
calls_leave_entries-apart c r d s k p number done at frame entry guest e =
    let h = done_of c r d s k p number done in
    let outside : entry_in_frame (first_page (guest_of r)) (page_count (guest_of r)) d (desk_of c r d s k p number).storage ≡ false = rw h.stored h.outside in
    never_both (test_of_entry-in_frame (guest_of r) d _ at frame entry guest e) outside
