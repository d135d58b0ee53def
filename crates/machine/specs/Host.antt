-- Document 01, "Addresses": the host's tables, storage and keys, and the guest's view of them. A unit sees the host only through
-- the view, and changes it only through `stored` and `marked`.
use Rattle.std.specs.Prelude.{ℕ, ◌+◌, ◌*◌, ◌%◌, Bool, cond, List, [], ◌∷◌, map, leb, ltb, length, get_or, set, Err, Ok}
use Rattle.machine.specs.declared.Failure.{Failure}
use Rattle.machine.specs.declared.Guest.{Guest}
use Rattle.machine.specs.Words.{bit, byte_at, word_at}
use Rattle.machine.specs.Sizes.{frame_bytes, block_bytes}
use Rattle.machine.specs.Refusals.{frames_of}
use Rattle.machine.specs.Entry.{extent_bytes}
use Rattle.machine.specs.Failures.{addressing, host_fault, exception_of}
use Rattle.machine.specs.Walk.{walk, TableEntry, Walk}

pub record Host : Type 0 where
  pub designation : ℕ
  pub storage : List ℕ
  pub keys : List ℕ

abbrev pub host : ℕ → List ℕ → List ℕ → Host
host designation storage keys = record { designation = designation; storage = storage; keys = keys }

-- the host virtual address: origin times 65,536 plus guest absolute
abbrev pub host_virtual : Guest → ℕ → ℕ
host_virtual g a = g.origin * block_bytes + a

-- the host table entry at a host absolute address, for the host virtual address `a`; beyond the storage it is host fault 5
unfoldable pub host_entry : List ℕ → ℕ → ℕ → TableEntry
host_entry storage a at = cond (leb (at + 4) (length storage)) (Ok (word_at storage at)) (Err (host_fault a addressing))

-- a frame beyond the storage is host fault 5
unfoldable pub in_storage : List ℕ → ℕ → Walk → Walk
in_storage storage a (Err f) = Err f
in_storage storage a (Ok page) =
    cond (ltb page.frame (frames_of storage)) (Ok page) (Err (host_fault a addressing))

-- the host page of a host virtual address
unfoldable pub host_page : Host → ℕ → Walk
host_page h a = in_storage h.storage a (walk (host_entry h.storage a) (host_fault a) h.designation a)

-- the host page behind a guest absolute address. At or above the extent it is addressing, before the origin is added.
unfoldable pub backing : Guest → Host → ℕ → Walk
backing g h a = cond (ltb a (extent_bytes g)) (host_page h (host_virtual g a)) (Err (exception_of addressing))

-- what the guest finds at a guest absolute address: nothing, and why; or a byte, with its frame's key and host page protection
pub data Cell : Type 0 where
  absent : Failure → Cell
  present : ℕ → ℕ → Bool → Cell

-- the host absolute address of a guest absolute one that a frame backs
abbrev pub in_frame : ℕ → ℕ → ℕ
in_frame frame a = frame * frame_bytes + a % frame_bytes

unfoldable pub cell_of : Host → ℕ → Walk → Cell
cell_of h a (Err f) = absent f
cell_of h a (Ok page) = present (byte_at h.storage (in_frame page.frame a)) (get_or h.keys page.frame 0) page.protected

unfoldable pub view : Guest → Host → ℕ → Cell
view g h a = cell_of h a (backing g h a)

-- a byte at a guest absolute address
pub record Located : Type 0 where
  pub absolute : ℕ
  pub byte : ℕ

-- the guest absolute addresses of bytes
abbrev pub places : List Located → List ℕ
places = map (λ l. l.absolute)

unfoldable pub store_byte : Walk → Located → List ℕ → List ℕ
store_byte (Err f) l storage = storage
store_byte (Ok page) l storage = set storage (in_frame page.frame l.absolute) l.byte

-- the storage after these stores, made through the host pages `behind` guest absolute addresses when the unit began
unfoldable pub stored : (ℕ → Walk) → List Located → List ℕ → List ℕ
stored behind [] storage = storage
stored behind (l ∷ ls) storage = stored behind ls (store_byte (behind l.absolute) l storage)

-- the byte at a guest absolute address, in a storage, through the host page behind it; zero where there is none
unfoldable pub byte_in : Walk → List ℕ → ℕ → ℕ
byte_in (Err f) storage a = 0
byte_in (Ok page) storage a = byte_at storage (in_frame page.frame a)

-- so for bytes at places that were reached
abbrev pub bytes_behind : (ℕ → Walk) → List ℕ → List Located → List ℕ
bytes_behind behind storage = map (λ l. byte_in (behind l.absolute) storage l.absolute)

-- key bit 5 (fetched or stored): value 4; key bit 6 (stored): value 2

unfoldable pub referenced : ℕ → ℕ
referenced key = cond (bit 8 5 key) key (key + 4)

unfoldable pub changed : ℕ → ℕ
changed key = cond (bit 8 6 key) key (key + 2)

unfoldable pub mark_key : (ℕ → ℕ) → Walk → List ℕ → List ℕ
mark_key mark (Err f) keys = keys
mark_key mark (Ok page) keys = set keys page.frame (mark (get_or keys page.frame 0))

-- the keys after a mark on the frame behind each guest absolute address
unfoldable pub marked : (ℕ → Walk) → (ℕ → ℕ) → List ℕ → List ℕ → List ℕ
marked behind mark [] keys = keys
marked behind mark (a ∷ more) keys = marked behind mark more (mark_key mark (behind a) keys)
