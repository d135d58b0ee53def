-- The code of a failure is a byte: of every access, whatever guest, host and CPU.
-- Assumes nothing.
use Rattle.std.specs.Prelude.{Err, Ok}
use Prim.Native.Nat.{ℕ, ◌+◌, ◌<◌}
use native.Mathlib.Omega.{arith}
use mathlib.Core.Bool.{Bool, not, ◌&&◌}
use mathlib.Core.List.{List}
use lib.Dec.{leb, ltb}
use lib.ListN.{length}
use Rattle.machine.specs.declared.Cpu.{Cpu}
use Rattle.machine.specs.declared.Failure.{Failure}
use Rattle.machine.specs.declared.Guest.{Guest}
use Rattle.machine.specs.Refusals.{frames_of}
use Rattle.machine.specs.Entry.{extent_bytes}
use Rattle.machine.specs.Psw.{dat_on}
use Rattle.machine.specs.Failures.{segment_translation, page_translation, translation_specification, walk_exception}
use Rattle.machine.specs.Walk.{segment_index, past_segment_table, segment_invalid, segment_malformed, past_page_table, page_invalid, page_malformed, walk_page, walk_segment, walk, TableEntry, Walk}
use Rattle.machine.specs.Host.{Host, Cell, absent, present, host_entry, in_storage, host_page, backing, cell_of, view}
use Rattle.machine.specs.Addresses.{prefixed, entry_of, guest_entry, format_good, real_page, low_protected, Access, reached, denied, settle, real_access, in_page, access}
use Rattle.machine.proofs.Tests.{on_either_arm}

abbrev pub Coded : Failure → Type 0
Coded f = f.code < 256

abbrev CodedEntry : TableEntry → Type 0
CodedEntry (Ok x) = Unit {0}
CodedEntry (Err f) = Coded f

abbrev pub CodedWalk : Walk → Type 0
CodedWalk (Ok page) = Unit {0}
CodedWalk (Err f) = Coded f

abbrev pub CodedCell : Cell → Type 0
CodedCell (present byte key protected) = Unit {0}
CodedCell (absent f) = Coded f

abbrev pub CodedAccess : Access → Type 0
CodedAccess (reached l) = Unit {0}
CodedAccess (denied f) = Coded f

-- the walk

module _ (read : ℕ → TableEntry) (fail : ℕ → Failure) (reads : (at : ℕ) → CodedEntry (read at)) (fails : (code : ℕ) → code < 256 → Coded (fail code)) where
  coded_page : (e : TableEntry) → CodedEntry e → CodedWalk (walk_page fail e)
  unfolding walk_page
  coded_page (Err f) small = small
  coded_page (Ok e) small =
      on_either_arm CodedWalk (page_invalid e) (fails page_translation (omega arith)) (on_either_arm CodedWalk (page_malformed e) (fails translation_specification (omega arith)) tt)

  coded_segment : (index : ℕ) (e : TableEntry) → CodedEntry e → CodedWalk (walk_segment read fail index e)
  unfolding walk_segment
  coded_segment index (Err f) small = small
  coded_segment index (Ok e) small =
      on_either_arm CodedWalk (segment_invalid e) (fails segment_translation (omega arith))
      (on_either_arm CodedWalk (segment_malformed e) (fails translation_specification (omega arith))
      (on_either_arm CodedWalk (past_page_table e index) (fails page_translation (omega arith)) (coded_page _ (reads _))))

  coded_walk : (d a : ℕ) → CodedWalk (walk read fail d a)
  unfolding walk
  coded_walk d a = on_either_arm CodedWalk (past_segment_table d (segment_index a)) (fails segment_translation (omega arith)) (coded_segment _ _ (reads _))

-- the host behind the guest

coded_host-entry : (s : List ℕ) (v at : ℕ) → CodedEntry (host_entry s v at)
unfolding host_entry
coded_host-entry s v at = on_either_arm CodedEntry (leb (at + 4) (length s)) tt (omega arith)

coded_in_storage : (s : List ℕ) (v : ℕ) (w : Walk) → CodedWalk w → CodedWalk (in_storage s v w)
unfolding in_storage
coded_in_storage s v (Err f) small = small
coded_in_storage s v (Ok page) small = on_either_arm CodedWalk (ltb page.frame (frames_of s)) tt (omega arith)

pub coded_backing : (g : Guest) (h : Host) (a : ℕ) → CodedWalk (backing g h a)
unfolding backing host_page
coded_backing g h a =
    on_either_arm CodedWalk (ltb a (extent_bytes g)) (coded_in_storage _ _ _ (coded_walk _ _ (coded_host-entry _ _) (λ code small. small) _ _)) (omega arith)

coded_cell : (h : Host) (a : ℕ) (w : Walk) → CodedWalk w → CodedCell (cell_of h a w)
unfolding cell_of
coded_cell h a (Err f) small = small
coded_cell h a (Ok page) small = tt

pub coded_view : (g : Guest) (h : Host) (a : ℕ) → CodedCell (view g h a)
unfolding view
coded_view g h a = coded_cell h a _ (coded_backing g h a)

-- the guest

module _ (g : Guest) (v : ℕ → Cell) (cells : (a : ℕ) → CodedCell (v a)) where
  coded_guest-entry : (real : ℕ) → CodedEntry (guest_entry g v real)
  unfolding guest_entry entry_of
  coded_guest-entry real = of_cell (v (prefixed g real)) (cells (prefixed g real))
    where
      of_cell : (e : Cell) → CodedCell e → CodedEntry (entry_of v (prefixed g real) e)
      of_cell (absent f) small = small
      of_cell (present byte key protected) small = tt

  coded_settle : (store : Bool) (protects : ℕ → Bool) (a : ℕ) (e : Cell) → CodedCell e → CodedAccess (settle g store protects a e)
  unfolding settle
  coded_settle store protects a (absent f) small = small
  coded_settle store protects a (present byte key protected) small =
      on_either_arm CodedAccess (protects key) (omega arith) (on_either_arm CodedAccess (store && protected) (omega arith) tt)

  pub coded_real_access : (store : Bool) (real : ℕ) → CodedAccess (real_access g v store real)
  unfolding real_access
  coded_real_access store real = coded_settle store _ _ _ (cells _)

  module _ (c : Cpu) where
    coded_real_page : (a : ℕ) → CodedWalk (real_page g v c a)
    unfolding real_page walk_exception
    coded_real_page a =
        on_either_arm CodedWalk (not (dat_on c)) tt
        (on_either_arm CodedWalk (not (format_good c)) (omega arith) (coded_walk _ _ coded_guest-entry (λ code small. small) _ _))

    coded_in_page : (store : Bool) (a : ℕ) (w : Walk) → CodedWalk w → CodedAccess (in_page g v c store a w)
    unfolding in_page
    coded_in_page store a (Err f) small = small
    coded_in_page store a (Ok page) small = coded_settle store _ _ _ (cells _)

    pub coded_access : (store : Bool) (a : ℕ) → CodedAccess (access g v c store a)
    unfolding access
    coded_access store a = on_either_arm CodedAccess (store && low_protected c a) (omega arith) (coded_in_page store a _ (coded_real_page a))
