-- A run with its state in hand: the record of the definition is the one that the run began with, and this state put into it.
use Rattle.std.specs.Prelude.{ℕ, ◌-◌, ◌≤◌, ◌≡◌, true, cond, List, length}
use Rattle.machine.specs.declared.Cpu.{Cpu}
use Rattle.machine.specs.declared.Guest.{Guest}
use Rattle.machine.specs.declared.Numbers.{Numbers}
use Rattle.machine.specs.Record.{record_length, long_length, guest_of, with_cpu, with_interval}
use Rattle.machine.specs.Interval.{active}
use Rattle.machine.specs.Run.{Machine, run}
use Rattle.machine.proofs.Runs.{more}

-- the machine of the definition that stands so, with no interval timer
abbrev pub plain_at : List ℕ → Cpu → ℕ → List ℕ → List ℕ → Machine
plain_at d c clock storage keys = record { description = with_cpu c d; clock = clock; storage = storage; keys = keys }

-- the same, with an interval timer
abbrev pub timed_at : List ℕ → Cpu → ℕ → ℕ → ℕ → List ℕ → List ℕ → Machine
timed_at d c request residue clock storage keys =
    record { description = with_interval request residue (with_cpu c d); clock = clock; storage = storage; keys = keys }

-- the record with this state, and with the interval timer's fields where the timer is active
abbrev pub record_at : Guest → List ℕ → Cpu → ℕ → ℕ → List ℕ
record_at g d c request residue = cond (active g) (with_interval request residue (with_cpu c d)) (with_cpu c d)

-- the machine of the definition that stands so
abbrev pub machine_at : Guest → List ℕ → Cpu → ℕ → ℕ → ℕ → List ℕ → List ℕ → Machine
machine_at g d c request residue clock storage keys =
    record { description = record_at g d c request residue; clock = clock; storage = storage; keys = keys }

-- a record of this guest, with the timer's fields where the timer is active
pub record OfGuest (g : Guest) (d : List ℕ) : Type 0 where
  pub long : record_length ≤ length d
  pub timed : active g ≡ true → length d ≡ long_length
  pub own : guest_of d ≡ g

-- what is left to run, from here, is what was left at the start
abbrev pub Remains : Numbers → ℕ → Machine → ℕ → Machine → Type 0
Remains n budget start units here = run budget n start ≡ more units (run (budget - units) n here)
