-- An outcome put into effect: how the unit ended, and the state, the storage and the keys that it leaves.
use Rattle.std.specs.Prelude.{ℕ, ◌+◌, ◌*◌, ◌/◌, ◌%◌, ◌≤◌, ◌<◌, ◌≡◌, List, ◌++◌, length, set, Err, Ok, Result, None, Some, Option}
use Rattle.machine.specs.declared.Cpu.{Cpu}
use Rattle.machine.specs.declared.Guest.{Guest}
use Rattle.machine.specs.declared.Psw.{Psw}
use Rattle.machine.specs.declared.Registers.{Registers}
use Rattle.machine.specs.declared.Text.{Text}
use Rattle.machine.specs.Words.{word_bytes}
use Rattle.machine.specs.Psw.{with_psw}
use Rattle.machine.specs.Host.{Host, backing, view, referenced, stored, marked}
use Rattle.machine.specs.Outcomes.{Outcome, completed, intercepted, faulted, Progress}
use Rattle.machine.specs.Interruptions.{Areas, fields_beside, interrupt}
use Rattle.machine.specs.Run.{marked_by}
use Rattle.marks.specs.Marks.{mark_frame}
use Rattle.interruptions.specs.declared.Done.{Done}
use Rattle.interruptions.specs.declared.Event.{Event}
use Rattle.interruptions.specs.declared.Event.TheVariants as event
use Rattle.interruptions.specs.declared.Frames.{Frames}
use Rattle.interruptions.specs.declared.Frames.TheVariants as frames
use Rattle.interruptions.specs.declared.Interruption.{Interruption}
use Rattle.machine.specs.Walk.{Walk}
use Rattle.machine.specs.declared.Failure.{Failure}

-- how an interruption comes out: the new PSW, or its areas cannot be stored into
abbrev pub Took : Type 0
Took = Result Psw Failure

unfoldable pub event_of : Outcome → Event
event_of (completed c e) = event.Completed
event_of (intercepted r c) = event.Intercepted r
event_of (faulted f) = event.Faulted f

-- a host fault leaves the state as it was
unfoldable pub cpu_after : Cpu → Outcome → Cpu
cpu_after before (completed c e) = c
cpu_after before (intercepted r c) = c
cpu_after before (faulted f) = before

unfoldable pub storage_after : (ℕ → Walk) → Outcome → List ℕ → List ℕ
storage_after behind (completed c e) storage = stored behind e.stores storage
storage_after behind (intercepted r c) storage = storage
storage_after behind (faulted f) storage = storage

unfoldable pub keys_after : (ℕ → Walk) → Outcome → List ℕ → List ℕ
keys_after behind (completed c e) keys = marked_by behind e keys
keys_after behind (intercepted r c) keys = keys
keys_after behind (faulted f) keys = keys

-- an outcome that completes a unit: the state, and what becomes of storage and keys
pub record Completes (behind : ℕ → Walk) (o : Outcome) (c : Cpu) (stores marks : List ℕ → List ℕ) : Type 0 where
  pub event : event_of o ≡ event.Completed
  pub cpu : (before : Cpu) → cpu_after before o ≡ c
  pub storage : (t : List ℕ) → storage_after behind o t ≡ stores t
  pub keys : (k : List ℕ) → keys_after behind o k ≡ marks k

-- the general registers, one of which may have a new value
abbrev pub set_by : Option (ℕ × ℕ) → List ℕ → List ℕ
set_by None words = words
set_by (Some (i, value)) words = set words i value

-- the state that `Done` leaves of a state
unfoldable pub left_by : Cpu → Done → Cpu
left_by c d = record {
  psw = d.psw;
  timer = d.timer;
  control = d.control;
  general = record { words = set_by d.set c.general.words };
}

-- with these control registers
abbrev pub with_registers : Cpu → Registers → Cpu
with_registers c control = record { psw = c.psw; timer = c.timer; control = control; general = c.general }

-- the frames of a text have keys
abbrev pub WithKeys : List ℕ → Frames → Type 0
WithKeys keys frames.None = Unit {0}
WithKeys keys (frames.One first) = first < length keys
WithKeys keys (frames.Two first second) = (first < length keys) × (second < length keys)

-- the marks of a text that was fetched from these frames
unfoldable pub mark_text : Frames → List ℕ → List ℕ
mark_text frames.None keys = keys
mark_text (frames.One first) keys = mark_frame referenced first keys
mark_text (frames.Two first second) keys = mark_frame referenced second (mark_frame referenced first keys)

-- a unit in progress, as the code holds it
pub record Standing (h : Host) (x : Progress) (g : Guest) (clock : ℕ) (c : Cpu) (text : Text) (t : Frames) : Type 0 where
  pub of_guest : x.guest ≡ g
  pub of_clock : x.clock ≡ clock
  pub of_view : x.view ≡ view g h
  pub of_cpu : x.cpu ≡ c
  pub of_text : x.text ≡ text
  pub marks : (k : List ℕ) → marked (backing g h) referenced x.fetched k ≡ mark_text t k

-- what the code leaves of storage and keys is what the outcome says
pub record Left (h : Host) (g : Guest) (c : Cpu) (o : Outcome) (d : Done) (storage keys : List ℕ) : Type 0 where
  pub event : d.event ≡ event_of o
  pub cpu : left_by c d ≡ cpu_after c o
  pub bytes : storage ≡ storage_after (backing g h) o h.storage
  pub marks : keys ≡ keys_after (backing g h) o h.keys

-- a word, and an address behind it, if any
abbrev pub code_bytes : ℕ → Option ℕ → List ℕ
code_bytes word None = word_bytes word
code_bytes word (Some address) = word_bytes word ++ word_bytes address

-- the state before the unit, of which the code holds all but the general registers
pub record Before (c : Cpu) (psw : Psw) (after : Done) : Type 0 where
  pub of_psw : c.psw ≡ psw
  pub of_timer : c.timer ≡ after.timer
  pub of_control : c.control ≡ after.control

-- the areas of an interruption
abbrev pub areas_of : Interruption → Areas
areas_of i = record { old = i.old; code = i.code; new = i.new }

-- the ILC and the code in an interruption's word
abbrev pub ilc_of : Interruption → ℕ
ilc_of i = i.word / 131072 % 4

abbrev pub code_of : Interruption → ℕ
code_of i = i.word % 65536

-- the code fields of an interruption: a word, and an address behind it, if any
abbrev pub fields_of : Interruption → List ℕ
fields_of i = code_bytes i.word i.address

-- the areas stand in the prefix page
abbrev pub InPrefixPage : Interruption → Type 0
InPrefixPage i = (i.old + 8 ≤ 4096) × (i.code + 8 ≤ 4096) × (i.new + 8 ≤ 4096)

-- a page that is found lies in the storage, and has a key and a frame number of 19 bits
abbrev pub Keyed : List ℕ → List ℕ → Walk → Type 0
Keyed storage keys (Err f) = Unit {0}
Keyed storage keys (Ok page) = (page.frame * 4096 + 4096 ≤ length storage) × (page.frame < length keys) × (page.frame < 524288)

-- how an interruption ends the unit
unfoldable pub event_by : Took → Event
event_by (Err f) = event.Faulted f
event_by (Ok psw) = event.Completed

-- the state that it leaves: the one before the unit, or the one that it came upon, with the new PSW
unfoldable pub cpu_by : Cpu → Cpu → Took → Cpu
cpu_by before to (Err f) = before
cpu_by before to (Ok psw) = with_psw to psw

-- an interruption of the state `to`, as it came out, is what the outcome says
pub record Taken (h : Host) (g : Guest) (to : Cpu) (o : Outcome) (took : Took) (storage keys : List ℕ) : Type 0 where
  pub event : event_of o ≡ event_by took
  pub cpu : (before : Cpu) → cpu_after before o ≡ cpu_by before to took
  pub bytes : storage ≡ storage_after (backing g h) o h.storage
  pub marks : keys ≡ keys_after (backing g h) o h.keys

-- so for every unit in progress that stands so, and every state with this PSW, which becomes the old one
abbrev pub Takes : Host → Guest → Psw → Interruption → Frames → Took → List ℕ → List ℕ → Type 0
Takes h g psw i t took storage keys =
    (x : Progress) (clock : ℕ) (c to : Cpu) (text : Text) → Standing h x g clock c text t → to.psw ≡ psw → ilc_of i ≡ text.ilc
    → Taken h g to (interrupt x to (areas_of i) (code_of i) (fields_beside to (fields_of i))) took storage keys
