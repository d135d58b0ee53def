-- Document 01, "Addresses", the paragraph before "Instructions": the entries that describe the extent, valid pages, guest frames.
use Rattle.std.specs.Prelude.{ℕ, ◌+◌, ◌*◌, ◌≤◌, ◌<◌, ◌≡◌, true, false, List, ◌⊎◌, length}
use Rattle.machine.specs.declared.Guest.{Guest}
use Rattle.machine.specs.Sizes.{page_bytes, block_pages}
use Rattle.machine.specs.Words.{word_at}
use Rattle.machine.specs.Refusals.{frames_of}
use Rattle.machine.specs.Entry.{entry_good}
use Rattle.machine.specs.Walk.{segment_index, page_index, segment_entry_at, past_segment_table, segment_invalid, segment_malformed, page_entry_at, past_page_table, frame_of, page_invalid, page_malformed}

-- a host page, by its number, is one of the extent's
pub record InExtent (g : Guest) (page : ℕ) : Type 0 where
  pub low : g.origin * block_pages ≤ page
  pub high : page < (g.origin + g.extent) * block_pages

-- where the segment entry of a host page stands
abbrev pub segment_place : ℕ → ℕ → ℕ
segment_place designation page = segment_entry_at designation (segment_index (page * page_bytes))

module _ (designation : ℕ) (storage : List ℕ) where
  -- the segment entry of a host page
  abbrev pub segment_of : ℕ → ℕ
  segment_of page = word_at storage (segment_place designation page)

  -- where the page entry of a host page stands, and the entry
  abbrev pub page_place : ℕ → ℕ
  page_place page = page_entry_at (segment_of page) (page_index (page * page_bytes))

  abbrev pub page_of : ℕ → ℕ
  page_of page = word_at storage (page_place page)

  -- "in reach", of a segment entry: the table length and the storage allow it
  pub record SegmentInReach (page : ℕ) : Type 0 where
    pub in_table : past_segment_table designation (segment_index (page * page_bytes)) ≡ false
    pub in_storage : segment_place designation page + 4 ≤ length storage

  -- "in reach", of a page entry: a valid well-formed segment entry, the table length and the storage allow it
  pub record PageInReach (page : ℕ) : Type 0 where
    pub segment : SegmentInReach page
    pub valid : segment_invalid (segment_of page) ≡ false
    pub formed : segment_malformed (segment_of page) ≡ false
    pub in_table : past_page_table (segment_of page) (page_index (page * page_bytes)) ≡ false
    pub in_storage : page_place page + 4 ≤ length storage

  -- "valid": the page's entry is in reach and well formed, with bit 21 zero
  pub record ValidPage (page : ℕ) : Type 0 where
    pub reach : PageInReach page
    pub valid : page_invalid (page_of page) ≡ false
    pub formed : page_malformed (page_of page) ≡ false

module _ (g : Guest) (designation : ℕ) (storage : List ℕ) where
  -- an entry that describes the extent, by its host absolute address, through one of the extent's pages; none where entry fails
  pub record Describes (at : ℕ) : Type 0 where
    pub good : entry_good g ≡ true
    pub page : ℕ
    pub inside : InExtent g page
    pub which : ((at ≡ segment_place designation page) × SegmentInReach designation storage page)
        ⊎ ((at ≡ page_place designation storage page) × PageInReach designation storage page)

  -- "guest frame": a frame in storage named by the entry of a valid page of the extent
  pub record GuestFrame (frame : ℕ) : Type 0 where
    pub good : entry_good g ≡ true
    pub page : ℕ
    pub inside : InExtent g page
    pub valid : ValidPage designation storage page
    pub named : frame_of (page_of designation storage page) ≡ frame
    pub present : frame < frames_of storage
