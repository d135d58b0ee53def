-- Document 01, "Addresses", the paragraph before "Instructions", as tests: "in reach" and "valid", of a host page by its number.
-- That they are `SegmentInReach`, `PageInReach` and `ValidPage` of machine's Frames is `TestsAreTheTerms` in Theorems.
use Rattle.std.specs.Prelude.{ℕ, ◌+◌, ◌*◌, Bool, not, ◌&&◌, List, leb, length}
use Rattle.machine.specs.Sizes.{page_bytes}
use Rattle.machine.specs.Walk.{segment_index, page_index, past_segment_table, segment_invalid, segment_malformed, past_page_table, page_invalid, page_malformed}
use Rattle.machine.specs.Frames.{segment_place, segment_of, page_place, page_of}

module _ (d : ℕ) (s : List ℕ) where
  -- the segment entry of a host page is in reach
  unfoldable pub segment_reached : ℕ → Bool
  segment_reached page = not (past_segment_table d (segment_index (page * page_bytes))) && leb (segment_place d page + 4) (length s)

  -- the page entry of a host page is in reach
  unfoldable pub page_reached : ℕ → Bool
  page_reached page =
      segment_reached page
      && (not (segment_invalid (segment_of d s page))
      && (not (segment_malformed (segment_of d s page))
      && (not (past_page_table (segment_of d s page) (page_index (page * page_bytes))) && leb (page_place d s page + 4) (length s))))

  -- a host page is valid: its entry is in reach and well formed, with bit 21 zero. Its frame may lie beyond the storage.
  unfoldable pub page_valid : ℕ → Bool
  page_valid page = page_reached page && (not (page_invalid (page_of d s page)) && not (page_malformed (page_of d s page)))
