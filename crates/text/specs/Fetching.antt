-- The fetch of a text, halfword by halfword.
use Rattle.std.specs.Prelude.{ℕ, ◌+◌, ◌*◌, ◌/◌, ◌%◌, ◌≤◌, ◌<◌, ◌≡◌, false, List, None, Some, Option}
use Rattle.machine.specs.declared.Class.TheVariants.{Unassigned}
use Rattle.machine.specs.declared.Cpu.{Cpu}
use Rattle.machine.specs.declared.Failure.{Failure}
use Rattle.machine.specs.declared.Guest.{Guest}
use Rattle.machine.specs.declared.Opcode.{Opcode}
use Rattle.machine.specs.declared.Psw.{Psw}
use Rattle.machine.specs.declared.Registers.{Registers}
use Rattle.machine.specs.declared.Text.{Text}
use Rattle.machine.specs.Sizes.{frame_bytes, page_bytes}
use Rattle.machine.specs.Psw.{wrap, instruction_address}
use Rattle.machine.specs.Host.{Host}
use Rattle.machine.specs.Outcomes.{Outcome, Progress}
use Rattle.machine.specs.Interruptions.{exception}
use Rattle.machine.specs.Units.{decoded}
use Rattle.operands.specs.Operands.{operand_of, Operand}
use Rattle.interruptions.specs.declared.Frames.{Frames}
use Rattle.interruptions.specs.declared.Frames.TheVariants as frames
use Rattle.interruptions.specs.After.{WithKeys, Standing}
use Rattle.text.specs.declared.Fetched.{Fetched}
use Rattle.text.specs.declared.Reading.{Reading}

-- what follows the fetch: an exception, or the instruction of this opcode, whose text is whole
abbrev pub after_fetch : Progress → Cpu → Opcode → Option Failure → Outcome
after_fetch x c code None = decoded x code
after_fetch x c code (Some f) = exception x c f

-- what the fetch comes to: a unit in progress that stands so, and what follows
abbrev pub FetchedAs : Host → Guest → ℕ → Cpu → Outcome → Opcode → Reading → Type 0
FetchedAs h g clock c o code r =
    (x : Progress) × Standing h x g clock c r.text r.frames × (o ≡ after_fetch x c code r.failure)

-- what is left to do of a unit in progress that stands so, comes to
abbrev pub Fetches : Host → Guest → Psw → Registers → Text → Frames → (Progress → Outcome) → Opcode → Reading → Type 0
Fetches h g psw control text t rest code r =
    (x : Progress) (clock : ℕ) (c : Cpu) → c.psw ≡ psw → c.control ≡ control → Standing h x g clock c text t → FetchedAs h g clock c (rest x) code r

abbrev pub Coded : Option Failure → Type 0
Coded None = Unit {0}
Coded (Some f) = f.code < 65536

-- its frames have keys, and its length and code fit where they are stored
abbrev pub Usable : List ℕ → Reading → Type 0
Usable keys r = WithKeys keys r.frames × (r.text.ilc ≤ 3) × Coded r.failure

-- halfword n of the instruction: its wrapped logical address, and where it is found
pub record Halfword (h : Host) (g : Guest) (c : Cpu) (n a : ℕ) (o : Operand) : Type 0 where
  pub address : a ≡ wrap c (instruction_address c + 2 * n)
  pub even : a % 2 ≡ 0
  pub sought : o ≡ operand_of g h c false a 2

-- before anything is fetched
abbrev pub no_text : Text
no_text = record { ilc = 1; first = 0; second = 0; third = 0 }

abbrev pub no_frames : Frames
no_frames = frames.None

abbrev pub no_opcode : Opcode
no_opcode = record { length = 1; privileged = false; alignment = 1; class = Unassigned }

-- the frame of a place
abbrev pub one_frame : ℕ → Frames
one_frame place = frames.One (place / frame_bytes)

-- the frame of a place on another page, after the first
abbrev pub and_frame : Frames → ℕ → Frames
and_frame frames.None place = frames.One (place / frame_bytes)
and_frame (frames.One first) place = frames.Two first (place / frame_bytes)
and_frame (frames.Two first second) place = frames.Two first (place / frame_bytes)

-- a text on one page so far
abbrev pub OnePage : Frames → Type 0
OnePage frames.None = ⊥
OnePage (frames.One first) = Unit {0}
OnePage (frames.Two first second) = ⊥

-- the frame of the last halfword is the last of the frames, and the only one where the next halfword stands on another page
abbrev pub EndsIn : Frames → ℕ → ℕ → Type 0
EndsIn frames.None a place = ⊥
EndsIn (frames.One first) a place = first ≡ place / frame_bytes
EndsIn (frames.Two first second) a place = (second ≡ place / frame_bytes) × (a % page_bytes + 2 < page_bytes)

-- the next halfword cannot be read
abbrev pub cut_short : Failure → Text → Frames → Reading
cut_short f text t = record { failure = Some f; text = text; frames = t }

abbrev pub whole : Text → Frames → Reading
whole text t = record { failure = None; text = text; frames = t }

-- no halfword can be read
abbrev pub unfetched : Failure → Fetched
unfetched f = record { opcode = no_opcode; reading = cut_short f no_text no_frames }
