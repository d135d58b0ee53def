-- Refusal 14 as it is decided: the tables as they are, but for the frame that the page of the call names afterwards.
use Rattle.std.specs.Prelude.{ℕ, ◌+◌, ◌<◌, ◌≡◌, List, ◌⊎◌}
use Rattle.machine.specs.Refusals.{frames_of}
use Rattle.survey.specs.Marking.{EntryIn, Names, SomePage}

-- of the host pages from one up to another, one has an entry in a frame that another than `own` names, or that is this frame
pub record Meets (d : ℕ) (s : List ℕ) (from to own frame : ℕ) : Type 0 where
  pub place : ℕ
  pub low : place < frames_of s
  pub entry : SomePage (EntryIn d s) from to place
  pub named : (SomePage (Names d s) from own place ⊎ SomePage (Names d s) (own + 1) to place) ⊎ (frame ≡ place)
