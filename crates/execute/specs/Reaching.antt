-- An operand that an instruction reaches, and an instruction put into effect.
use Rattle.std.specs.Prelude.{ℕ, ◌+◌, ◌-◌, ◌/◌, ◌≤◌, ◌<◌, ◌≡◌, Bool, cond, List, length, Err, Ok, Result}
use Rattle.machine.specs.declared.Cpu.{Cpu}
use Rattle.machine.specs.declared.Failure.{Failure}
use Rattle.machine.specs.declared.Guest.{Guest}
use Rattle.machine.specs.declared.Text.{Text}
use Rattle.machine.specs.Refusals.{frames_of}
use Rattle.machine.specs.Host.{Host, referenced, changed}
use Rattle.machine.specs.Outcomes.{Outcome, Progress}
use Rattle.machine.specs.Interruptions.{exception}
use Rattle.storage.specs.Entered.{Entered}
use Rattle.marks.specs.Marks.{mark_operand}
use Rattle.interruptions.specs.declared.Done.{Done}
use Rattle.interruptions.specs.declared.Frames.{Frames}
use Rattle.interruptions.specs.After.{WithKeys, Standing, Left, mark_text}
use Rattle.operands.specs.Operands.{Operand}
use Rattle.pieces.specs.declared.Pieces.{Pieces}

-- what an instruction may count on
pub record Ready (storage keys : List ℕ) (g : Guest) (text : Text) (t : Frames) : Type 0 where
  pub entered : Entered g
  pub with_keys : WithKeys keys t
  pub frames : frames_of storage ≤ length keys
  pub short : text.ilc ≤ 3

-- a failure has a program code; an operand of n bytes that stands in storage has keys
abbrev pub InReach : List ℕ → List ℕ → ℕ → Operand → Type 0
InReach storage keys n (Err f) = f.code < 65536
InReach storage keys n (Ok at) =
    (at.count ≤ n) × (at.first + at.count ≤ length storage) × (at.second + (n - at.count) ≤ length storage) × (at.first / 4096 < length keys) × (at.count < n → at.second / 4096 < length keys)

-- the marks of an operand behind those of the text
abbrev pub mark_all : Frames → Bool → ℕ → ℕ → ℕ → ℕ → List ℕ → List ℕ
mark_all t store n p m q keys =
    cond store (mark_operand changed n p m q (mark_operand referenced n p m q (mark_text t keys))) (mark_operand referenced n p m q (mark_text t keys))

-- what an instruction reaches of an operand: where its bytes stand, or how the unit ended
abbrev pub Reached : Type 0
Reached = Result Pieces Done

-- an operand is reached as it stands: the unit ended where it is shut, and only the marks are made where it is open
abbrev pub Reaches : Host → Guest → Progress → Cpu → Frames → Bool → ℕ → Reached → List ℕ → List ℕ → Operand → Type 0
Reaches h g x c t store n (Err done) storage keys o = (f : Failure) × (o ≡ Err f) × Left h g c (exception x c f) done storage keys
Reaches h g x c t store n (Ok at) storage keys o =
    (o ≡ Ok at) × (storage ≡ h.storage) × (keys ≡ mark_all t store n at.first at.count at.second h.keys)

-- what is reached lies in storage
abbrev pub Within : List ℕ → ℕ → Reached → Type 0
Within storage n (Err done) = Unit {0}
Within storage n (Ok at) = (at.count ≤ n) × (at.first + at.count ≤ length storage) × (at.second + (n - at.count) ≤ length storage)

-- the code does what an outcome says, for every unit in progress that stands so
abbrev pub Does : (Progress → Outcome) → Host → Guest → ℕ → Cpu → Text → Frames → Done → List ℕ → List ℕ → Type 0
Does o h g clock c text t d storage keys = (x : Progress) → Standing h x g clock c text t → Left h g c (o x) d storage keys
