-- The entries of host pages that are in reach, for the pages of a segment at once: they go by the one table that its segment entry names.
use Rattle.std.specs.Prelude.{ℕ, ◌+◌, ◌*◌, ◌/◌, ◌≤◌, ◌<◌, ◌≡◌, Bool, true, false, cond, not, ◌&&◌, List, [], ltb, length, get_or, Option, Some, None}
use Rattle.std.specs.Int.{w32, from_be_bytes}
use Rattle.machine.specs.Sizes.{segment_pages}
use Rattle.machine.specs.Walk.{frame_of, page_invalid, page_malformed}
use Rattle.machine.specs.Frames.{segment_place, page_place, page_of}
use Rattle.desk.specs.Reach.{segment_reached, page_reached}
use Rattle.desk.specs.Extent.{not_valid}

-- the segment entry of every page of a segment is in reach, at this host absolute address
pub record SegmentThere (d : ℕ) (s : List ℕ) (index at : ℕ) : Type 0 where
  pub reached : (page : ℕ) → page / segment_pages ≡ index → segment_reached d s page ≡ true
  pub place : (page : ℕ) → page / segment_pages ≡ index → segment_place d page ≡ at
  pub fits : at + 4 ≤ length s

-- that of none of them is
pub record SegmentMissed (d : ℕ) (s : List ℕ) (index : ℕ) : Type 0 where
  pub missed : (page : ℕ) → page / segment_pages ≡ index → segment_reached d s page ≡ false

-- the host absolute address of the segment entry of every page of a segment; none out of reach
abbrev pub SegmentAt : ℕ → List ℕ → ℕ → Option ℕ → Type 0
SegmentAt d s index None = SegmentMissed d s index
SegmentAt d s index (Some at) = SegmentThere d s index at

-- from `start` up to `end` stand the page entries, in reach, of the first of the pages from one up to another of one segment; those of
-- the others are out of reach
pub record TableAt (d : ℕ) (s : List ℕ) (from to start end : ℕ) : Type 0 where
  pub count : ℕ
  pub whole : start + count * 4 ≡ end
  pub few : from + count ≤ to
  pub fits : end ≤ length s
  pub reach : (k : ℕ) → from + k < to → page_reached d s (from + k) ≡ ltb k count
  pub place : (k : ℕ) → k < count → page_place d s (from + k) ≡ start + k * 4

-- from `start` up to `end` lies in the storage room for the page entries of the first of these pages
pub record Inside (s : List ℕ) (from to start end : ℕ) : Type 0 where
  pub count : ℕ
  pub whole : start + count * 4 ≡ end
  pub few : from + count ≤ to
  pub fits : end ≤ length s

-- the page entry of a host page is in reach, at this host absolute address
pub record PageThere (d : ℕ) (s : List ℕ) (page at : ℕ) : Type 0 where
  pub reached : page_reached d s page ≡ true
  pub place : page_place d s page ≡ at
  pub fits : at + 4 ≤ length s

-- the host absolute address of the page entry of a host page; none out of reach
abbrev pub PageAt : ℕ → List ℕ → ℕ → Option ℕ → Type 0
PageAt d s page None = page_reached d s page ≡ false
PageAt d s page (Some at) = PageThere d s page at

-- an entry that says a valid page
unfoldable pub word_valid : ℕ → Bool
word_valid e = not (page_invalid e) && not (page_malformed e)

-- an entry in a listing
unfoldable pub word_shown : ℕ → ℕ
word_shown e = cond (word_valid e) (frame_of e) not_valid

-- an entry that says a valid page with one of so many frames
unfoldable pub word_names : ℕ → ℕ → Bool
word_names frames e = word_valid e && ltb (frame_of e) frames

-- an entry of those that are in reach, of four bytes each
abbrev pub entry_at : List (List ℕ) → ℕ → ℕ
entry_at entries k = from_be_bytes w32 (get_or entries k [])

-- the entries, in reach, of the first of the pages from one up to another of one segment; those of the others are not
pub record EntriesOf (d : ℕ) (s : List ℕ) (from to : ℕ) (entries : List (List ℕ)) : Type 0 where
  pub few : from + length entries ≤ to
  pub reach : (k : ℕ) → from + k < to → page_reached d s (from + k) ≡ ltb k (length entries)
  pub is : (k : ℕ) → k < length entries → page_of d s (from + k) ≡ entry_at entries k
