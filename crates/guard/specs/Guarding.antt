-- A guard names frames of host storage: frame f by its entry f % 64, which is not zero. It names more frames than it is told, never fewer.
use Rattle.std.specs.Prelude.{ℕ, ◌/◌, ◌%◌, ◌<◌, ◌≡◌, List, length, get_or}
use Rattle.machine.specs.Words.{byte_at}

-- the frame is named
abbrev pub Names : List ℕ → ℕ → Type 0
Names guard frame = 0 < get_or guard (frame % 64) 0

-- every frame that the first guard names is named by the second
abbrev pub Wider : List ℕ → List ℕ → Type 0
Wider guard more = (frame : ℕ) → Names guard frame → Names more frame

-- two storages are alike in the frames that the guard names
pub record Alike (guard s t : List ℕ) : Type 0 where
  pub long : length t ≡ length s
  pub same : (p : ℕ) → Names guard (p / 4096) → byte_at t p ≡ byte_at s p
