-- An entry that serves twice.
use Rattle.std.specs.Prelude.{ℕ, ◌≡◌, true, List, ◌⊎◌}
use Rattle.machine.specs.Frames.{segment_place, page_place}
use Rattle.desk.specs.Reach.{segment_reached, page_reached}

module _ (d : ℕ) (s : List ℕ) where
  -- the entry at a place is the page entry, in reach, of a host page other than `own`, or its segment entry
  abbrev pub SharedBy : ℕ → ℕ → ℕ → Type 0
  SharedBy own page at = ((page ≡ own → ⊥) × ((page_reached d s page ≡ true) × (page_place d s page ≡ at)))
      ⊎ ((segment_reached d s page ≡ true) × (segment_place d page ≡ at))
