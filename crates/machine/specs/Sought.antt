-- Request 2/12: which table was bad. The table whose entry was sought when a walk ended, and the entry's address, or zero where the entry
-- was not read.
use Rattle.std.specs.Prelude.{ℕ, cond, not, List, eqb, Err, Ok}
use Rattle.machine.specs.declared.Cpu.{Cpu}
use Rattle.machine.specs.declared.End.{End}
use Rattle.machine.specs.declared.End.TheVariants.{Intercepted, HostFault, BudgetUsed}
use Rattle.machine.specs.declared.Failure.{Failure}
use Rattle.machine.specs.declared.Guest.{Guest}
use Rattle.machine.specs.declared.Sought.{Sought}
use Rattle.machine.specs.declared.Stage.{Stage}
use Rattle.machine.specs.declared.Stage.TheVariants.{None, GuestSegment, GuestPage, HostSegment, HostPage}
use Rattle.machine.specs.Psw.{dat_on, control}
use Rattle.machine.specs.Failures.{protection, segment_translation, page_translation, translation_specification}
use Rattle.machine.specs.Walk.{segment_index, page_index, segment_entry_at, past_segment_table, segment_invalid, segment_malformed, page_entry_at, past_page_table, frame_of, page_invalid, page_protected, page_malformed, TableEntry, Walk, at_frame}
use Rattle.machine.specs.Host.{Host, Cell, host_entry, view}
use Rattle.machine.specs.Addresses.{guest_entry, format_good}

-- the two tables of a walk
pub data Table : Type 0 where
  segment_table : Table
  page_table : Table

-- how a walk ends: at a page entry that is good, by its address and its word; with a code, by an entry of this table, whose address is
-- given, or zero where it is not read; or at an entry of this table that cannot be read, and why
pub data Way : Type 0 where
  leads : ℕ → ℕ → Way
  stops : Table → ℕ → ℕ → Way
  unread : Table → Failure → Way

-- the page entry at this address, once read
unfoldable pub way_of_page : ℕ → TableEntry → Way
way_of_page at (Err f) = unread page_table f
way_of_page at (Ok e) =
    cond (page_invalid e) (stops page_table at page_translation)
    (cond (page_malformed e) (stops page_table at translation_specification) (leads at e))

-- the segment entry at this address, once read, for a page index. An index past the page table seeks a page entry, and reads none.
unfoldable pub way_of_segment : (ℕ → TableEntry) → ℕ → ℕ → TableEntry → Way
way_of_segment read at index (Err f) = unread segment_table f
way_of_segment read at index (Ok e) =
    cond (segment_invalid e) (stops segment_table at segment_translation)
    (cond (segment_malformed e) (stops segment_table at translation_specification)
    (cond (past_page_table e index) (stops page_table 0 page_translation) (way_of_page (page_entry_at e index) (read (page_entry_at e index)))))

-- the way of a walk for an address: the walk's own tests, in their order
unfoldable pub way : (ℕ → TableEntry) → ℕ → ℕ → Way
way read designation a =
    cond (past_segment_table designation (segment_index a)) (stops segment_table 0 segment_translation)
    (way_of_segment read (segment_entry_at designation (segment_index a)) (page_index a) (read (segment_entry_at designation (segment_index a))))

-- what a walk that ends so finds
unfoldable pub found_by : (ℕ → Failure) → Way → Walk
found_by fail (leads at e) = at_frame (frame_of e) (page_protected e)
found_by fail (stops table at code) = Err (fail code)
found_by fail (unread table f) = Err f

-- by no table
abbrev pub nowhere : Sought
nowhere = record { stage = None; entry = 0 }

-- the guest's tables

abbrev pub guest_stage : Table → Stage
guest_stage segment_table = GuestSegment
guest_stage page_table = GuestPage

-- a page that is found is not what was bad
unfoldable pub guest_sought_by : Way → Sought
guest_sought_by (leads at e) = nowhere
guest_sought_by (stops table at code) = record { stage = guest_stage table; entry = at }
guest_sought_by (unread table f) = record { stage = guest_stage table; entry = 0 }

-- of the guest's walk for a logical address; CR0's format is no table's
unfoldable pub guest_sought : Guest → (ℕ → Cell) → Cpu → ℕ → Sought
guest_sought g v c a =
    cond (not (dat_on c)) nowhere (cond (not (format_good c)) nowhere (guest_sought_by (way (guest_entry g v) (control c 1) a)))

-- the host's tables

abbrev pub host_stage : Table → Stage
host_stage segment_table = HostSegment
host_stage page_table = HostPage

-- a page that is found and is bad all the same has its frame beyond the storage
unfoldable pub host_sought_by : Way → Sought
host_sought_by (leads at e) = record { stage = HostPage; entry = at }
host_sought_by (stops table at code) = record { stage = host_stage table; entry = at }
host_sought_by (unread table f) = record { stage = host_stage table; entry = 0 }

-- of the host's walk for a host virtual address
unfoldable pub host_sought : ℕ → List ℕ → ℕ → Sought
host_sought designation storage a = host_sought_by (way (host_entry storage a) designation a)

-- by which table an access fails. Protection is none's; a host fault is by the walk for its own address, also where a guest table entry
-- stands there.

unfoldable pub fault_sought : ℕ → List ℕ → Failure → Sought
fault_sought designation storage f = cond (eqb f.code protection) nowhere (host_sought designation storage f.address)

-- an exception of the walk for a logical address
unfoldable pub exception_sought : Guest → (ℕ → Cell) → Cpu → ℕ → Failure → Sought
exception_sought g v c a f = cond (eqb f.code protection) nowhere (guest_sought g v c a)

unfoldable pub sought : Guest → Host → Cpu → ℕ → Failure → Sought
sought g h c a f = cond f.host (fault_sought h.designation h.storage f) (exception_sought g (view g h) c a f)

-- of the end of a run: its host fault alone has a table
unfoldable pub end_sought : ℕ → List ℕ → End → Sought
end_sought designation storage (Intercepted r) = nowhere
end_sought designation storage (HostFault f) = fault_sought designation storage f
end_sought designation storage BudgetUsed = nowhere
