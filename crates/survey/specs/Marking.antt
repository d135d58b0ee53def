-- Marks on frames, a truth each.
use Rattle.std.specs.Prelude.{ℕ, zero, suc, ◌/◌, ◌≤◌, ◌<◌, ◌≡◌, Bool, true, false, cond, List, ◌⊎◌, length, get_or, set}
use Rattle.machine.specs.Sizes.{frame_bytes}
use Rattle.machine.specs.Refusals.{frames_of}
use Rattle.machine.specs.Walk.{frame_of}
use Rattle.machine.specs.Frames.{segment_place, page_place, page_of}
use Rattle.desk.specs.Reach.{segment_reached, page_reached, page_valid}

abbrev pub Marked : List Bool → ℕ → Type 0
Marked marks f = get_or marks f false ≡ true

-- marks with one more for each of the `n` first numbers that pass a test
unfoldable pub noted : ℕ → (ℕ → Bool) → (ℕ → ℕ) → List Bool → List Bool
noted zero test frame marks = marks
noted (suc n) test frame marks = cond (test n) (set (noted n test frame marks) (frame n) true) (noted n test frame marks)

-- the later marks are the earlier ones and those of the frames P
pub record Added (P : ℕ → Type 0) (earlier later : List Bool) : Type 0 where
  pub long : length later ≡ length earlier
  pub new : (f : ℕ) → Marked later f → Marked earlier f ⊎ P f
  pub kept : (f : ℕ) → Marked earlier f → Marked later f
  pub all : (f : ℕ) → P f → Marked later f

module _ (d : ℕ) (s : List ℕ) where
  -- an entry of a host page that is in reach lies in a frame
  abbrev pub EntryIn : ℕ → ℕ → Type 0
  EntryIn page f = ((segment_reached d s page ≡ true) × (segment_place d page / frame_bytes ≡ f))
      ⊎ ((page_reached d s page ≡ true) × (page_place d s page / frame_bytes ≡ f))

  -- a valid host page names a frame of the storage
  abbrev pub Names : ℕ → ℕ → Type 0
  Names page f = (page_valid d s page ≡ true) × ((frame_of (page_of d s page) ≡ f) × (f < frames_of s))

-- so for some host page from `from` up to `to`
pub record SomePage (P : ℕ → ℕ → Type 0) (from to x : ℕ) : Type 0 where
  pub page : ℕ
  pub low : from ≤ page
  pub high : page < to
  pub is : P page x

-- an answer to whether something is so
pub record Tells (P : Type 0) (answer : Bool) : Type 0 where
  pub so : answer ≡ true → P
  pub never : answer ≡ false → P → ⊥

-- an entry of some host page from `from` up to `to`, in reach, lies in a marked frame
pub record EntryMarked (d : ℕ) (s : List ℕ) (from to : ℕ) (marks : List Bool) : Type 0 where
  pub frame : ℕ
  pub entry : SomePage (EntryIn d s) from to frame
  pub marked : Marked marks frame
