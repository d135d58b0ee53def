-- The pages of a guest's extent, counted from its start: page `p` is host page `first + p`. All that is said of them here goes by the
-- extent's first host page, its number of pages, the designation and the storage alone.
use Rattle.std.specs.Prelude.{ℕ, zero, suc, ◌+◌, ◌*◌, ◌/◌, Bool, false, cond, not, ◌&&◌, ◌||◌, List, eqb, ltb, set}
use Rattle.machine.specs.declared.Guest.{Guest}
use Rattle.machine.specs.Sizes.{frame_bytes, block_pages}
use Rattle.machine.specs.Refusals.{frames_of}
use Rattle.machine.specs.Walk.{frame_of}
use Rattle.machine.specs.Frames.{segment_place, page_place, page_of}
use Rattle.desk.specs.Reach.{segment_reached, page_reached, page_valid}

abbrev pub first_page : Guest → ℕ
first_page g = g.origin * block_pages

abbrev pub page_count : Guest → ℕ
page_count g = g.extent * block_pages

-- some number below `n` passes a test
unfoldable pub some_below : ℕ → (ℕ → Bool) → Bool
some_below zero test = false
some_below (suc n) test = some_below n test || test n

-- how many numbers below `n` pass a test
unfoldable pub count_below : ℕ → (ℕ → Bool) → ℕ
count_below zero test = 0
count_below (suc n) test = count_below n test + cond (test n) 1 0

-- words with others, by their places, in place of the first `n`
unfoldable pub words_below : ℕ → (ℕ → ℕ) → List ℕ → List ℕ
words_below zero word words = words
words_below (suc n) word words = set (words_below n word words) n (word n)

-- the word by which a listing shows a page that is not valid
abbrev pub not_valid : ℕ
not_valid = 0xFFFFFFFF

-- a host page in a listing: its frame, bits 1-19 of a valid entry
unfoldable pub frame_listed : ℕ → List ℕ → ℕ → ℕ
frame_listed d s page = cond (page_valid d s page) (frame_of (page_of d s page)) not_valid

module _ (first pages d : ℕ) (s : List ℕ) where
  -- how many of the extent's pages are valid
  unfoldable pub valid_pages : ℕ
  valid_pages = count_below pages λ p. page_valid d s (first + p)

  -- the workspace with the frames of the extent's pages, in order
  unfoldable pub listing : List ℕ → List ℕ
  listing = words_below pages λ p. frame_listed d s (first + p)

  -- a guest frame: in storage, and named by the entry of a valid page of the extent
  unfoldable pub guest_frame : ℕ → Bool
  guest_frame f = ltb f (frames_of s) && some_below pages λ p. page_valid d s (first + p) && eqb (frame_of (page_of d s (first + p))) f

  -- some entry that describes the extent lies in a guest frame
  unfoldable pub entry_in_frame : Bool
  entry_in_frame = some_below pages λ p.
      (segment_reached d s (first + p) && guest_frame (segment_place d (first + p) / frame_bytes))
      || (page_reached d s (first + p) && guest_frame (page_place d s (first + p) / frame_bytes))

  -- the page entry of page `p` is that of a second page of the extent
  unfoldable pub serves_second_page : ℕ → Bool
  serves_second_page p = some_below pages λ q.
      not (eqb q p) && (page_reached d s (first + q) && eqb (page_place d s (first + q)) (page_place d s (first + p)))

  -- the page entry of page `p` is a segment entry that describes the extent
  unfoldable pub serves_as_segment : ℕ → Bool
  serves_as_segment p = some_below pages λ q. segment_reached d s (first + q) && eqb (segment_place d (first + q)) (page_place d s (first + p))
