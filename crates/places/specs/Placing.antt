-- Places on kept blocks.
use Rattle.std.specs.Prelude.{◌≡◌, ℕ, ◌+◌, ◌-◌, ◌≤◌}
use Rattle.blocks.specs.Keeping.{Block}

-- n bytes at an address stand in a block from a place on
pub record Spot (b : Block) (a n p : ℕ) : Type 0 where
  pub from : b.first ≤ a
  pub within : (a - b.first) + n ≤ 2048
  pub at : p ≡ b.place + (a - b.first)
