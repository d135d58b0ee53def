-- Units one after the other on kept blocks, in which registers, address, condition code and storage change, and nothing else.
use Rattle.std.specs.Prelude.{◌≡◌, ℕ, suc, ◌<◌, List, slice_set}
use Rattle.machine.specs.declared.Cpu.{Cpu}
use Rattle.machine.specs.declared.Guest.{Guest}
use Rattle.machine.specs.declared.Psw.{Psw}
use Rattle.machine.specs.declared.Registers.{Registers}
use Rattle.machine.specs.Psw.{instruction_address}
use Rattle.machine.specs.Record.{Sixteen}
use Rattle.machine.specs.Host.{host, view}
use Rattle.machine.specs.Units.{started, instruction}
use Rattle.address.specs.Touching.{seen}
use Rattle.interruptions.specs.After.{Left}
use Rattle.guard.specs.Guarding.{Alike}
use Rattle.psws.specs.Psws.{state, psw_at, Wrapped}
use Rattle.blocks.specs.Keeping.{Holds, Marks, Free}
use Rattle.steps.specs.Texting.{done_with}
use Rattle.lap.specs.declared.Lap.{Lap}

-- what a unit in a lap changes
pub record Stance : Type 0 where
  pub psw : Psw
  pub words : List ℕ
  pub storage : List ℕ

abbrev pub stance : Psw → List ℕ → List ℕ → Stance
stance psw words storage = record { psw = psw; words = words; storage = storage }

-- one unit leads from a stance to another, whatever clock and CPU timer say, with keys and control registers as they are
pub record Turns (g : Guest) (designation : ℕ) (keys : List ℕ) (control : Registers) (from to : Stance) : Type 0 where
  pub register : ℕ
  pub value : ℕ
  pub words : to.words ≡ slice_set from.words register value
  pub left : (clock : ℕ) (c : Cpu) → c.psw ≡ from.psw → c.control ≡ control → c.general.words ≡ from.words
      → Left (host designation from.storage keys) g c (instruction (started g clock (view g (host designation from.storage keys)) c 1))
      (done_with c to.psw register value) to.storage keys

-- a stance whose PSW differs from this in address and condition code alone, and that has sixteen registers
pub record Near (psw : Psw) (at : Stance) : Type 0 where
  pub address : ℕ
  pub code : ℕ
  pub small : code < 4
  pub own : at.psw ≡ psw_at psw address code
  pub sixteen : Sixteen at.words

-- so many units lead from a stance to another
pub data Goes (psw : Psw) (g : Guest) (designation : ℕ) (keys : List ℕ) (control : Registers) (from : Stance) : ℕ → Stance → Type 0 where
  none : Goes psw g designation keys control from 0 from
  more : {units : ℕ} {at to : Stance} → Goes psw g designation keys control from units at → Near psw at → Turns g designation keys control at to
      → Goes psw g designation keys control from (suc units) to

-- what a lap leaves
abbrev pub Laps : List ℕ → Psw → List ℕ → List ℕ → Lap → List ℕ → List ℕ → Type 0
Laps kept psw words storage r words' storage' =
    (g : Guest) (designation : ℕ) (keys guard : List ℕ) (control : Registers) → Wrapped psw (instruction_address (state psw)) → Marks keys kept → Free guard kept
    → Holds guard g (host designation storage keys) (seen psw control) kept
    → Goes psw g designation keys control (stance psw words storage) r.units (stance (psw_at psw r.address r.code) words' storage')
    × Alike guard storage storage'
