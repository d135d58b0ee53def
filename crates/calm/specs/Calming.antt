-- A stretch of units before each of which the list comes to the instruction, as long as only registers, address, condition code and
-- storage change.
use Rattle.std.specs.Prelude.{◌≡◌, ℕ, ◌+◌, ◌-◌, ◌*◌, ◌%◌, ◌^◌, ◌<◌, Bool}
use Rattle.machine.specs.declared.Cpu.{Cpu}
use Rattle.machine.specs.declared.Guest.{Guest}
use Rattle.machine.specs.Host.{Cell}
use Rattle.machine.specs.Units.{started, instruction, unit}
use Rattle.psws.specs.Psws.{psw_at}

-- the host clock after so many units
unfoldable pub clocks : ℕ → ℕ → ℕ → ℕ
clocks clock time k = (clock + k * time) % 2 ^ 64

-- the CPU timer after so many units
unfoldable pub timers : ℕ → ℕ → ℕ → ℕ
timers timer time k = (timer + k * (2 ^ 64 - time)) % 2 ^ 64

-- the interval timer's residue after so many units in which the word does not fall
unfoldable pub residues : ℕ → ℕ → ℕ → ℕ
residues residue time k = residue + k * (3 * time)

-- a state that has the other's control registers, and its PSW but for address and condition code
pub record Later (c later : Cpu) : Type 0 where
  pub address : ℕ
  pub code : ℕ
  pub small : code < 4
  pub psw : later.psw ≡ psw_at c.psw address code
  pub control : later.control ≡ c.control

-- before each of n units from this state on the list comes to the instruction
abbrev pub Calm : Guest → ℕ → ℕ → Bool → Cpu → ℕ → Type 0
Calm g clock time requested c n =
    (j : ℕ) → j < n → (v : ℕ → Cell) (later : Cpu) → Later c later → later.timer ≡ timers c.timer time j
    → unit g (clocks clock time j) requested v later ≡ instruction (started g (clocks clock time j) v later 1)
