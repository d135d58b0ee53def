-- One unit with its tick, from a state in hand: a step of the definition.
use Rattle.std.specs.Prelude.{ℕ, ◌<◌, ◌≡◌, None, Some, List}
use Rattle.machine.specs.declared.Cpu.{Cpu}
use Rattle.machine.specs.declared.End.{End}
use Rattle.machine.specs.declared.Guest.{Guest}
use Rattle.machine.specs.declared.Numbers.{Numbers}
use Rattle.machine.specs.Record.{Bounded}
use Rattle.machine.specs.Interval.{period}
use Rattle.machine.specs.Run.{goes, ends, step}
use Rattle.remaining.specs.Remaining.{machine_at, OfGuest}
use Rattle.ticking.specs.declared.Step.{Step}

-- it completes, and the run goes on; or it ends the run
pub record Steps (designation : ℕ) (g : Guest) (clock time : ℕ) (c : Cpu) (request residue : ℕ) (storage keys : List ℕ) (r : Step) (storage' keys' : List ℕ) : Type 0 where
  pub bounded : r.end ≡ None → Bounded r.cpu
  pub architecture : r.end ≡ None → r.cpu.psw.system370 ≡ c.psw.system370
  pub small : r.end ≡ None → r.residue < period
  pub on : r.end ≡ None → (n : Numbers) (d : List ℕ) → n.designation ≡ designation → n.time ≡ time → OfGuest g d
      → step n (machine_at g d c request residue clock storage keys) ≡ goes (machine_at g d r.cpu r.request r.residue r.clock storage' keys')
  pub exit : (e : End) → r.end ≡ Some e → (n : Numbers) (d : List ℕ) → n.designation ≡ designation → n.time ≡ time → OfGuest g d
      → step n (machine_at g d c request residue clock storage keys) ≡ ends e (machine_at g d r.cpu r.request r.residue clock storage' keys')
