-- Document 01, "Addresses": segment and page entries, and the walk that guest and host share.
-- The tests run in the order written there.
use Rattle.std.specs.Prelude.{ℕ, ◌+◌, ◌*◌, ◌/◌, ◌%◌, Bool, cond, ◌||◌, ltb, Result, Ok, Err}
use Rattle.machine.specs.declared.Failure.{Failure}
use Rattle.machine.specs.declared.Page.{Page}
use Rattle.machine.specs.Sizes.{page_bytes, segment_bytes, segment_pages}
use Rattle.machine.specs.Words.{bits, bit}
use Rattle.machine.specs.Failures.{segment_translation, page_translation, translation_specification}

-- a table entry's word, or why it cannot be read
abbrev pub TableEntry : Type 0
TableEntry = Result ℕ Failure

-- the page that a walk finds, or why it finds none
abbrev pub Walk : Type 0
Walk = Result Page Failure

-- a page is found
abbrev pub at_frame : ℕ → Bool → Walk
at_frame frame protected = Ok (record { frame = frame; protected = protected })

-- a 31-bit address: segment index 11 bits, page index 8 bits, byte 12 bits

abbrev pub segment_index : ℕ → ℕ
segment_index a = a / segment_bytes

abbrev pub page_index : ℕ → ℕ
page_index a = a / page_bytes % segment_pages

-- a designation: bits 1-19 give the table, 25-31 its length

abbrev pub segment_entry_at : ℕ → ℕ → ℕ
segment_entry_at designation index = bits 32 1 19 designation * 4096 + index * 4

-- the high seven index bits are above the table's length
abbrev pub past_segment_table : ℕ → ℕ → Bool
past_segment_table designation index = ltb (bits 32 25 31 designation) (index / 16)

-- a segment entry: bits 1-25 page table, 26 invalid, 28-31 length; bit 0 must be zero

abbrev pub segment_invalid : ℕ → Bool
segment_invalid e = bit 32 26 e

abbrev pub segment_malformed : ℕ → Bool
segment_malformed e = bit 32 0 e

abbrev pub page_entry_at : ℕ → ℕ → ℕ
page_entry_at e index = bits 32 1 25 e * 64 + index * 4

-- the high four page-index bits are above the table's length
abbrev pub past_page_table : ℕ → ℕ → Bool
past_page_table e index = ltb (bits 32 28 31 e) (index / 16)

-- a page entry: bits 1-19 frame, 21 invalid, 22 protected; bits 0, 20 and 23 must be zero

abbrev pub frame_of : ℕ → ℕ
frame_of e = bits 32 1 19 e

abbrev pub page_invalid : ℕ → Bool
page_invalid e = bit 32 21 e

abbrev pub page_protected : ℕ → Bool
page_protected e = bit 32 22 e

abbrev pub page_malformed : ℕ → Bool
page_malformed e = bit 32 0 e || bit 32 20 e || bit 32 23 e

-- the page entry, once read
unfoldable pub walk_page : (ℕ → Failure) → TableEntry → Walk
walk_page fail (Err f) = Err f
walk_page fail (Ok e) =
    cond (page_invalid e) (Err (fail page_translation))
    (cond (page_malformed e) (Err (fail translation_specification)) (at_frame (frame_of e) (page_protected e)))

-- the segment entry, once read, for a page index
unfoldable pub walk_segment : (ℕ → TableEntry) → (ℕ → Failure) → ℕ → TableEntry → Walk
walk_segment read fail index (Err f) = Err f
walk_segment read fail index (Ok e) =
    cond (segment_invalid e) (Err (fail segment_translation))
    (cond (segment_malformed e) (Err (fail translation_specification))
    (cond (past_page_table e index) (Err (fail page_translation)) (walk_page fail (read (page_entry_at e index)))))

-- the walk for an address: `read` reads an entry, and `fail` makes a failure of a code
unfoldable pub walk : (ℕ → TableEntry) → (ℕ → Failure) → ℕ → ℕ → Walk
walk read fail designation a =
    cond (past_segment_table designation (segment_index a)) (Err (fail segment_translation))
    (walk_segment read fail (page_index a) (read (segment_entry_at designation (segment_index a))))
