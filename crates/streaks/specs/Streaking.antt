-- A streak of units on kept blocks.
use Rattle.std.specs.Prelude.{ℕ, ◌<◌, ◌≡◌, Bool, ◌&&◌, List}
use Rattle.machine.specs.declared.Cpu.{Cpu}
use Rattle.machine.specs.declared.Guest.{Guest}
use Rattle.machine.specs.declared.Numbers.{Numbers}
use Rattle.machine.specs.Record.{Bounded}
use Rattle.machine.specs.Interval.{active, period, pending}
use Rattle.remaining.specs.Remaining.{machine_at, OfGuest, Remains}
use Rattle.streaks.specs.declared.Streak.{Streak}

-- the state that a streak leaves
abbrev pub after_streak : Streak → Cpu
after_streak r = record { psw = r.psw; timer = r.timer; control = r.control; general = r.general }

-- the streak of no units
abbrev pub unbegun : Cpu → ℕ → ℕ → Streak
unbegun c clock residue =
    record { psw = c.psw; timer = c.timer; clock = clock; control = c.control; general = c.general; units = 0; residue = residue }

-- a streak, or none, of a guest with this request and residue of the interval timer: as many units of the definition, each with its tick
pub record Paced (designation : ℕ) (g : Guest) (clock time budget : ℕ) (c : Cpu) (requested : Bool) (residue : ℕ) (storage keys : List ℕ) (r : Streak) (storage' : List ℕ) : Type 0 where
  pub bounded : Bounded (after_streak r)
  pub architecture : r.psw.system370 ≡ c.psw.system370
  pub small : r.residue < period
  pub remains : (n : Numbers) (d : List ℕ) (request : ℕ) → n.designation ≡ designation → n.time ≡ time → OfGuest g d → requested ≡ (active g && pending request)
      → Remains n budget (machine_at g d c request residue clock storage keys) r.units (machine_at g d (after_streak r) request r.residue r.clock storage' keys)
