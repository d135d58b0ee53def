-- TWO READINGS OF ONE CLOCK, request 5/12: any two values that STCK stores in one run differ. Courses has the same over runs one after the
-- other. The proofs are in proofs/Readings.
--
-- What keeps it true: every completed unit, an interruption too, advances the host clock by the time, which is 1 at least (refusal 6); STCK
-- stores the guest clock of its unit's start; and the budget times the time, 65,535 times 1,048,576 at most, stays below 2^64, after which the
-- clock would come round. The epoch, added modulo 2^64, keeps values apart.
use Rattle.std.specs.Prelude.{ℕ, ◌+◌, ◌-◌, ◌*◌, ◌%◌, ◌^◌, ◌<◌, ◌≡◌, Bool, true, false, List}
use Rattle.machine.specs.declared.Cpu.{Cpu}
use Rattle.machine.specs.declared.End.{End}
use Rattle.machine.specs.declared.End.TheVariants.{BudgetUsed}
use Rattle.machine.specs.declared.Numbers.{Numbers}
use Rattle.machine.specs.Words.{double_at, double_bytes}
use Rattle.machine.specs.Record.{system370_mode, guest_of, cpu_of}
use Rattle.machine.specs.Psw.{instruction_address, malformed}
use Rattle.machine.specs.Time.{guest_clock}
use Rattle.machine.specs.Host.{Located, view}
use Rattle.machine.specs.Addresses.{all, access, accesses, span}
use Rattle.machine.specs.Outcomes.{Effects, completed, Progress}
use Rattle.machine.specs.Interruptions.{with_bytes, bytes_of}
use Rattle.machine.specs.Execute.{operand_address}
use Rattle.machine.specs.Units.{halfword, reading, first_text, second_text, half_of, started}
use Rattle.machine.specs.Run.{Machine, host_of, unit_from, run}
use Rattle.machine.specs.Operations.{machine_of, run_of}
use Rattle.machine.specs.Answers.{run_answer}

-- the unit from here, before anything is fetched
abbrev pub begun : Numbers → Machine → Progress
begun n m = started (guest_of m.description) m.clock (view (guest_of m.description) (host_of n m)) (cpu_of m.description) 1

-- a unit whose instruction's first two halfwords are fetched
abbrev pub with_first : Progress → List Located → Progress
with_first x first = reading x (first_text x.cpu.psw.system370 (half_of first)) first

abbrev pub with_second : Progress → List Located → Progress
with_second x second = reading x (second_text x.text (half_of second)) second

-- The unit from `m` executes STCK and stores `value`: its PSW is well formed and its address even, its text is fetched and is STCK's, every
-- byte of the operand is reached, and it completes, having stored the bytes of `value`. Where one of these is not so, a unit that
-- completes at an STCK is an interruption.
pub record StoresClock (n : Numbers) (m : Machine) (value : ℕ) : Type 0 where
  pub well_formed : malformed (cpu_of m.description) ≡ false
  pub even : instruction_address (cpu_of m.description) % 2 ≡ 0
  pub first : List Located
  pub first_read : halfword (begun n m) 0 ≡ all first
  pub stck : half_of first ≡ 0xb205
  pub second : List Located
  pub second_read : halfword (with_first (begun n m) first) 1 ≡ all second
  pub operand : List Located
  pub reached : accesses (access (guest_of m.description) (begun n m).view (cpu_of m.description) true)
      (span (cpu_of m.description) (operand_address (with_second (with_first (begun n m) first) second)) 8)
      ≡ all operand
  pub cpu : Cpu
  pub effects : Effects
  pub completes : unit_from n m ≡ completed cpu effects
  pub stored : double_at (bytes_of effects.stores) 0 ≡ value

-- the machine that unit `i` of a run starts from, counted from 0
abbrev pub before_unit : Numbers → List ℕ → List ℕ → List ℕ → ℕ → Machine
before_unit n r storage keys i = (run i n (machine_of n r storage keys)).machine

-- which value it is, and where it goes: the guest clock of the unit's start, `i` times the time after that of the run's, at the operand
abbrev pub ReadingsAreTheGuestClock : Type 0
ReadingsAreTheGuestClock = (n : Numbers) (r storage keys : List ℕ) (end : End) (units : ℕ) → (run_of n r storage keys).answer ≡ run_answer end units
    → (i value : ℕ) → i < units → (s : StoresClock n (before_unit n r storage keys i) value)
    → (value ≡ guest_clock (guest_of r) (n.clock + i * n.time)) × (s.effects.stores ≡ with_bytes s.operand (double_bytes value))

-- TWO READINGS: the values of two completed units of one run that execute STCK differ, whatever lies between them and however the run ends
abbrev pub TwoReadingsDiffer : Type 0
TwoReadingsDiffer = (n : Numbers) (r storage keys : List ℕ) (end : End) (units : ℕ) → (run_of n r storage keys).answer ≡ run_answer end units
    → (i j v w : ℕ) → i < j → j < units → StoresClock n (before_unit n r storage keys i) v → StoresClock n (before_unit n r storage keys j) w
    → v ≡ w → ⊥

-- Such runs exist, of 370-XA guests and of System/370 ones: with time 1, an STCK, an SVC that interrupts, and an STCK again, while the clock
-- comes round. The proof is in crate witnesses.
pub record ReadTwice (system370 : Bool) (n : Numbers) (r storage keys : List ℕ) : Type 0 where
  pub mode : system370_mode (guest_of r).mode ≡ system370
  pub time : n.time ≡ 1
  pub ended : (run_of n r storage keys).answer ≡ run_answer BudgetUsed 3
  pub at_first : StoresClock n (before_unit n r storage keys 0) (2 ^ 64 - 1)
  pub after_svc : StoresClock n (before_unit n r storage keys 2) 1

abbrev pub ReadingsExist : Type 0
ReadingsExist = (system370 : Bool) → (n : Numbers) × (r storage keys : List ℕ) × ReadTwice system370 n r storage keys
