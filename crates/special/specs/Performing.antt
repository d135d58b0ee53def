-- Instructions with an operand that change more than a lap does, or take clock or CPU timer: their operand stands on a kept block, and
-- they are done by numbers.
use Rattle.std.specs.Prelude.{ℕ, ◌/◌, ◌%◌, ◌<◌, ◌≡◌, false, List, length}
use Rattle.machine.specs.declared.Cpu.{Cpu}
use Rattle.machine.specs.declared.Guest.{Guest}
use Rattle.machine.specs.declared.Psw.{Psw}
use Rattle.machine.specs.Psw.{wrap}
use Rattle.machine.specs.Host.{Host}
use Rattle.machine.specs.Opcodes.{length_of}
use Rattle.machine.specs.Outcomes.{Outcome, Progress}
use Rattle.machine.specs.Execute.{operand_address}
use Rattle.interruptions.specs.declared.Done.{Done as Leaves}
use Rattle.interruptions.specs.After.{Standing, Left}
use Rattle.guard.specs.Guarding.{Alike}
use Rattle.psws.specs.Psws.{psw_at}
use Rattle.blocks.specs.Keeping.{Block, Keeps, Inside, HasMarks, Marks, Free}
use Rattle.steps.specs.Texting.{short_text, text_frame}
use Rattle.special.specs.declared.Want.{Want}
use Rattle.special.specs.declared.Want.TheVariants.{Lap, Tests, Other, Fetch, Store, Area}
use Rattle.special.specs.declared.Change.{Change}
use Rattle.special.specs.declared.Change.TheVariants.{Calm, Called, Changed}
use Rattle.special.specs.declared.Done.{Done}

-- an address that is wanted is one of 31 bits
abbrev pub Below : Want → Type 0
Below Lap = Unit {0}
Below Tests = Unit {0}
Below Other = Unit {0}
Below (Fetch a) = a < 2147483648
Below (Store a) = a < 2147483648
Below Area = Unit {0}

-- what is so where address, condition code and storage alone changed
abbrev pub IfCalm : Change → Type 0 → Type 0
IfCalm Calm P = P
IfCalm Called P = Unit {0}
IfCalm Changed P = Unit {0}

-- the PSW that a done unit leaves
abbrev pub psw_in : Done → Psw → Psw
psw_in d psw = record { left = d.left; right = d.right; system370 = psw.system370 }

-- a PSW that differs from another in address and condition code alone
pub record Near (psw later : Psw) : Type 0 where
  pub address : ℕ
  pub code : ℕ
  pub small : code < 4
  pub own : later ≡ psw_at psw address code

-- an instruction in progress, its text fetched from a kept block and its operand at a wrapped logical address
pub record Begun (kept storage guard : List ℕ) (psw : Psw) (a : ℕ) (h : Host) (g : Guest) (x : Progress) (clock : ℕ) (c : Cpu) (text : Block) (first second : ℕ) : Type 0 where
  pub standing : Standing h x g clock c (short_text first second) (text_frame text)
  pub two : length_of first ≡ 2
  pub text_marks : HasMarks h.keys false text
  pub bytes : h.storage ≡ storage
  pub of_psw : c.psw ≡ psw
  pub sixteen : length c.general.words ≡ 16
  pub inside : Inside storage kept
  pub marks : Marks h.keys kept
  pub free : Free guard kept
  pub keeps : Keeps g h c kept
  pub address : operand_address x ≡ a
  pub wrapped : wrap c a ≡ a

-- the instruction leaves this state and this storage, whatever guest and host are
abbrev pub Performs : List ℕ → Psw → ℕ → List ℕ → (Guest → ℕ → Cpu → ℕ → Type 0) → (Progress → Outcome) → (Cpu → Leaves) → List ℕ → Type 0
Performs kept psw a storage when outcome done storage' =
    (guard : List ℕ) (h : Host) (g : Guest) (x : Progress) (clock : ℕ) (c : Cpu) (text : Block) (first second : ℕ)
    → Begun kept storage guard psw a h g x clock c text first second → when g clock c first
    → Left h g c (outcome x) (done c) storage' h.keys × Alike guard storage storage'

-- when an instruction leaves so: always; at this guest clock; with this CPU timer; with these control registers, and R1 and R3

abbrev pub Always : Guest → ℕ → Cpu → ℕ → Type 0
Always g clock c first = Unit {0}

abbrev pub AtClock : ℕ → ℕ → Guest → ℕ → Cpu → ℕ → Type 0
AtClock epoch now g clock c first = (g.epoch ≡ epoch) × (clock ≡ now)

abbrev pub AtTimer : ℕ → Guest → ℕ → Cpu → ℕ → Type 0
AtTimer timer g clock c first = c.timer ≡ timer

abbrev pub WithControls : List ℕ → ℕ → ℕ → Guest → ℕ → Cpu → ℕ → Type 0
WithControls control r1 r3 g clock c first = (c.control.words ≡ control) × (first / 16 % 16 ≡ r1) × (first % 16 ≡ r3)
