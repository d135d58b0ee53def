-- Where the host's walk ends.
-- Assumes nothing.
use Rattle.std.specs.Prelude.{Ok}
use Prim.Native.Nat.{ℕ, ◌+◌, ◌≤◌, ◌<◌}
use mathlib.Core.Path.{◌≡◌, refl}
use mathlib.Core.Bool.{false}
use mathlib.Core.List.{List}
use lib.ListN.{length}
use borrow.Author.Tests.{le-leb, lt-leb}
use Rattle.machine.specs.declared.Stage.TheVariants.{HostSegment, HostPage}
use Rattle.machine.specs.Words.{word_at}
use Rattle.machine.specs.Walk.{segment_index, page_index, segment_entry_at, past_segment_table, segment_invalid, segment_malformed, page_entry_at, past_page_table, page_invalid, page_malformed, TableEntry}
use Rattle.machine.specs.Host.{host_entry}
use Rattle.machine.specs.Sought.{way_of_page, way_of_segment, host_sought_by, host_sought, way}
use Rattle.machine.proofs.Tests.{on_either_arm}

-- a page entry that is read is where it ends
pub page-read : (s : List ℕ) (a at : ℕ) → at + 4 ≤ length s → host_sought_by (way_of_page at (host_entry s a at)) ≡ record { stage = HostPage; entry = at }
unfolding host_entry way_of_page host_sought_by
page-read s a at there =
    rw (le-leb _ _ there)
    (on_either_arm (λ w. host_sought_by w ≡ record { stage = HostPage; entry = at }) (page_invalid (word_at s at)) refl
    (on_either_arm (λ w. host_sought_by w ≡ record { stage = HostPage; entry = at }) (page_malformed (word_at s at)) refl refl))

pub page_beyond : (s : List ℕ) (a at : ℕ) → length s < at + 4 → host_sought_by (way_of_page at (host_entry s a at)) ≡ record { stage = HostPage; entry = 0 }
unfolding host_entry way_of_page host_sought_by
page_beyond s a at past = rw (lt-leb _ _ past)

-- a good segment entry leads to the page entry
pub segment-onward : (read : ℕ → TableEntry) (at index e : ℕ) → segment_invalid e ≡ false → segment_malformed e ≡ false → past_page_table e index ≡ false
    → way_of_segment read at index (Ok e) ≡ way_of_page (page_entry_at e index) (read (page_entry_at e index))
unfolding way_of_segment
segment-onward read at index e valid formed within = rw (valid, formed, within)

-- an index within the segment table leads to the segment entry
module _ (d : ℕ) (s : List ℕ) (a : ℕ) (within : past_segment_table d (segment_index a) ≡ false) where
  pub segment-read : segment_entry_at d (segment_index a) + 4 ≤ length s
      → host_sought d s a
      ≡ host_sought_by (way_of_segment (host_entry s a) (segment_entry_at d (segment_index a)) (page_index a) (Ok (word_at s (segment_entry_at d (segment_index a)))))
  unfolding host_sought way host_entry
  segment-read there = rw (within, le-leb _ _ there)

  pub segment_beyond : length s < segment_entry_at d (segment_index a) + 4 → host_sought d s a ≡ record { stage = HostSegment; entry = 0 }
  unfolding host_sought way host_entry way_of_segment host_sought_by
  segment_beyond past = rw (within, lt-leb _ _ past)
