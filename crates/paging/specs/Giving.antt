-- What the desk's operations answer and leave behind.
use Rattle.std.specs.Prelude.{ℕ, ◌+◌, ◌≤◌, ◌<◌, ◌≡◌, true, List, length}
use Rattle.machine.specs.Frames.{page_place}
use Rattle.desk.specs.declared.Called.{Called}
use Rattle.desk.specs.declared.Change.{Change}
use Rattle.desk.specs.declared.Listed.{Listed}
use Rattle.desk.specs.Reach.{page_reached, page_valid}
use Rattle.desk.specs.Desk.{Result, Listing}
use Rattle.desk.proofs.Changes.{StateFits}
use Rattle.machine.specs.Refusals.{Answer}

-- a call answered, and left storage and number, as a result says
pub record Gives (result : Result) (a : Answer Called) (storage : List ℕ) (number : ℕ) : Type 0 where
  pub answer : a ≡ result.answer
  pub bytes : storage ≡ result.storage
  pub count : number ≡ result.number

-- a listing answered, and left the workspace, as it says
pub record Lists (result : Listing) (a : Answer Listed) (words : List ℕ) : Type 0 where
  pub answer : a ≡ result.answer
  pub shown : words ≡ result.words

-- an extent below 2 GiB, and a storage of at most 4,096 frames
pub record Placed (first pages : ℕ) (s : List ℕ) : Type 0 where
  pub low : first + pages ≤ 524288
  pub small : length s ≤ 16777216

-- page `p` of the extent has its entry in reach, at this place, in a state that allows the change
pub record Ready (c : Change) (first pages d : ℕ) (s : List ℕ) (p place : ℕ) : Type 0 where
  pub placed : Placed first pages s
  pub inside : p < pages
  pub reached : page_reached d s (first + p) ≡ true
  pub is : page_place d s (first + p) ≡ place
  pub fits : place + 4 ≤ length s
  pub state : StateFits c s (page_valid d s (first + p))
