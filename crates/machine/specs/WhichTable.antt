-- Request 2/12: what the stage of a failed answer and the address of its table entry say. The proofs are in proofs/.
use Rattle.std.specs.Prelude.{ℕ, ◌+◌, ◌*◌, ◌/◌, ◌%◌, ◌≡◌, Bool, true, false, List, Err, Ok}
use Rattle.machine.specs.declared.Cpu.{Cpu}
use Rattle.machine.specs.declared.End.TheVariants.{HostFault}
use Rattle.machine.specs.declared.Failure.{Failure}
use Rattle.machine.specs.declared.Guest.{Guest}
use Rattle.machine.specs.declared.Numbers.{Numbers}
use Rattle.machine.specs.declared.Sought.{Sought}
use Rattle.machine.specs.declared.Stage.{Stage}
use Rattle.machine.specs.declared.Stage.TheVariants.{None, GuestSegment, GuestPage, HostSegment, HostPage}
use Rattle.machine.specs.declared.Translated.TheVariants.{Failed}
use Rattle.machine.specs.Sizes.{page_bytes}
use Rattle.machine.specs.Record.{guest_of, cpu_of}
use Rattle.machine.specs.Psw.{dat_on, wrap, control}
use Rattle.machine.specs.Failures.{protection, segment_translation, page_translation}
use Rattle.machine.specs.Walk.{segment_index, page_index, segment_entry_at, past_segment_table, segment_invalid, segment_malformed, page_entry_at, past_page_table, walk, TableEntry, at_frame}
use Rattle.machine.specs.Host.{Host, host_virtual, view}
use Rattle.machine.specs.Frames.{segment_place, page_place, SegmentInReach, PageInReach}
use Rattle.machine.specs.Addresses.{prefixed, guest_entry, format_good, real_page}
use Rattle.machine.specs.Sought.{segment_table, page_table, Way, leads, stops, unread, nowhere, way, found_by}
use Rattle.machine.specs.Operations.{translate, run_of}
use Rattle.machine.specs.Answers.{run_answer}

-- every walk ends as its way says: with that code, by an entry of that table
abbrev pub WalksEndSo : Type 0
WalksEndSo = (read : ℕ → TableEntry) (fail : ℕ → Failure) (designation a : ℕ) → walk read fail designation a ≡ found_by fail (way read designation a)

-- a walk for an address: `read` reads an entry
module _ (read : ℕ → TableEntry) (designation a : ℕ) where
  -- it reads its segment entry, which is this word
  pub record SegmentWord (e : ℕ) : Type 0 where
    pub in_table : past_segment_table designation (segment_index a) ≡ false
    pub is : read (segment_entry_at designation (segment_index a)) ≡ Ok e

  -- and seeks its page entry where that says
  pub record PageSought (e : ℕ) : Type 0 where
    pub segment : SegmentWord e
    pub valid : segment_invalid e ≡ false
    pub formed : segment_malformed e ≡ false
    pub in_table : past_page_table e (page_index a) ≡ false

  -- what it sought and read on its way
  pub data Went : Way → Type 0 where
    past_segments : past_segment_table designation (segment_index a) ≡ true → Went (stops segment_table 0 segment_translation)
    lacks_segment : {f : Failure} → read (segment_entry_at designation (segment_index a)) ≡ Err f → Went (unread segment_table f)
    bad_segment : {e code : ℕ} → SegmentWord e → Went (stops segment_table (segment_entry_at designation (segment_index a)) code)
    past_pages : {e : ℕ} → SegmentWord e → past_page_table e (page_index a) ≡ true → Went (stops page_table 0 page_translation)
    lacks_page : {e : ℕ} {f : Failure} → PageSought e → read (page_entry_at e (page_index a)) ≡ Err f → Went (unread page_table f)
    bad_page : {e p code : ℕ} → PageSought e → read (page_entry_at e (page_index a)) ≡ Ok p → Went (stops page_table (page_entry_at e (page_index a)) code)
    good_page : {e p : ℕ} → PageSought e → read (page_entry_at e (page_index a)) ≡ Ok p → Went (leads (page_entry_at e (page_index a)) p)

-- every way names the table whose entry was sought when the walk ended, and the entry's address where it was read
abbrev pub WaysAreWent : Type 0
WaysAreWent = (read : ℕ → TableEntry) (designation a : ℕ) → Went read designation a (way read designation a)

-- a host fault names no table of the guest, and a guest exception none of the host
abbrev pub OfSide : Bool → Stage → Type 0
OfSide host None = Unit {0}
OfSide host GuestSegment = host ≡ false
OfSide host GuestPage = host ≡ false
OfSide host HostSegment = host ≡ true
OfSide host HostPage = host ≡ true

-- the host's walk for a host virtual address reads the entry at this host absolute address, in its table of this stage
abbrev pub ReadByHost : ℕ → List ℕ → ℕ → Stage → ℕ → Type 0
ReadByHost designation storage v None at = ⊥
ReadByHost designation storage v GuestSegment at = ⊥
ReadByHost designation storage v GuestPage at = ⊥
ReadByHost designation storage v HostSegment at = (at ≡ segment_place designation (v / page_bytes)) × SegmentInReach designation storage (v / page_bytes)
ReadByHost designation storage v HostPage at = (at ≡ page_place designation storage (v / page_bytes)) × PageInReach designation storage (v / page_bytes)

-- A host fault of an address: where the entry's address is not zero, it is that of an entry which the walk for the address read, of the
-- table and the index that belong to it; where such an entry was read, its address is given; where no table is named, the address is zero.
pub record ByHost (designation : ℕ) (storage : List ℕ) (f : Failure) (s : Sought) : Type 0 where
  pub side : OfSide true s.stage
  pub none : s.stage ≡ None → s.entry ≡ 0
  pub protected : (f.code ≡ protection → s.stage ≡ None) × (s.stage ≡ None → f.code ≡ protection)
  pub read : (s.entry ≡ 0 → ⊥) → ReadByHost designation storage f.address s.stage s.entry
  pub given : (at : ℕ) → ReadByHost designation storage f.address s.stage at → s.entry ≡ at

-- the translation of a wrapped logical address
module _ (g : Guest) (h : Host) (c : Cpu) (a : ℕ) where
  -- the guest's walk reads its segment entry, which is this word
  pub record SegmentRead (e : ℕ) : Type 0 where
    pub dat : dat_on c ≡ true
    pub format : format_good c ≡ true
    pub in_table : past_segment_table (control c 1) (segment_index a) ≡ false
    pub is : guest_entry g (view g h) (segment_entry_at (control c 1) (segment_index a)) ≡ Ok e

  -- and its page entry, which is this word
  pub record PageRead (e p : ℕ) : Type 0 where
    pub segment : SegmentRead e
    pub valid : segment_invalid e ≡ false
    pub formed : segment_malformed e ≡ false
    pub in_table : past_page_table e (page_index a) ≡ false
    pub is : guest_entry g (view g h) (page_entry_at e (page_index a)) ≡ Ok p

  -- the guest's walk reads the entry at this guest real address, in its table of this stage
  abbrev pub ReadByGuest : Stage → ℕ → Type 0
  ReadByGuest None at = ⊥
  ReadByGuest GuestSegment at = (at ≡ segment_entry_at (control c 1) (segment_index a)) × ((e : ℕ) × SegmentRead e)
  ReadByGuest GuestPage at = (e : ℕ) × (p : ℕ) × (at ≡ page_entry_at e (page_index a)) × PageRead e p
  ReadByGuest HostSegment at = ⊥
  ReadByGuest HostPage at = ⊥

  -- the same of a guest exception
  pub record ByGuest (f : Failure) (s : Sought) : Type 0 where
    pub side : OfSide false s.stage
    pub none : s.stage ≡ None → s.entry ≡ 0
    pub protected : f.code ≡ protection → s.stage ≡ None
    pub read : (s.entry ≡ 0 → ⊥) → ReadByGuest s.stage s.entry
    pub given : (at : ℕ) → ReadByGuest s.stage at → s.entry ≡ at

  -- the host is asked for this host virtual address: that of the guest's segment entry, of its page entry, or of the byte
  pub data Asked : ℕ → Type 0 where
    for_segment : dat_on c ≡ true → Asked (host_virtual g (prefixed g (segment_entry_at (control c 1) (segment_index a))))
    for_page : (e : ℕ) → SegmentRead e → Asked (host_virtual g (prefixed g (page_entry_at e (page_index a))))
    for_byte : (frame : ℕ) (protected : Bool) → real_page g (view g h) c a ≡ at_frame frame protected
        → Asked (host_virtual g (prefixed g (frame * page_bytes + a % page_bytes)))

  pub record Named (f : Failure) (s : Sought) : Type 0 where
    pub by_host : f.host ≡ true → Asked f.address × ByHost h.designation h.storage f s
    pub by_guest : f.host ≡ false → ByGuest f s

abbrev pub TranslationsNameTheTable : Type 0
TranslationsNameTheTable = (r : List ℕ) (h : Host) (a kind : ℕ) (f : Failure) (s : Sought) → translate r h a kind ≡ Ok (Failed f s)
    → Named (guest_of r) h (cpu_of r) (wrap (cpu_of r) a) f s

-- A run names a table for its host fault alone, in the storage that it leaves, which is that in which the undone unit began.
pub record RunsNameTheTable : Type 0 where
  pub faults : (n : Numbers) (r storage keys : List ℕ) (f : Failure) (units : ℕ) → (run_of n r storage keys).answer ≡ run_answer (HostFault f) units
      → ByHost n.designation (run_of n r storage keys).storage f (run_of n r storage keys).table
  pub others : (n : Numbers) (r storage keys : List ℕ) → ((f : Failure) (units : ℕ) → (run_of n r storage keys).answer ≡ run_answer (HostFault f) units → ⊥)
      → (run_of n r storage keys).table ≡ nowhere
