-- When the list before a unit comes to the instruction, by guest and PSW, and by what external interruptions ask.
use Rattle.std.specs.Prelude.{◌≡◌, ℕ, Bool, false, ◌&&◌}
use Rattle.machine.specs.declared.Guest.{Guest}
use Rattle.machine.specs.declared.Psw.{Psw}
use Rattle.machine.specs.Words.{bit}
use Rattle.machine.specs.Psw.{io_enabled, external_enabled, waiting, not_installed, malformed}
use Rattle.machine.specs.Time.{comparator_due}
use Rattle.machine.specs.Units.{stop_requested, external_requested, io_requested}
use Rattle.psws.specs.Psws.{state}
use Rattle.calm.specs.Calming.{clocks, timers}

-- steps 1 to 3 and 6 to 8 do not apply
pub record Passes (g : Guest) (p : Psw) : Type 0 where
  pub goes : stop_requested g ≡ false
  pub installed : not_installed (state p) ≡ false
  pub formed : malformed (state p) ≡ false
  pub external : (external_requested g && external_enabled (state p)) ≡ false
  pub io : (io_requested g && io_enabled (state p)) ≡ false
  pub awake : waiting (state p) ≡ false

-- before unit j, with this control register 0: neither comparator, CPU timer nor interval timer interrupts

abbrev pub ComparatorSilent : Guest → ℕ → ℕ → ℕ → ℕ → Type 0
ComparatorSilent g clock cr0 time j = (bit 32 20 cr0 && comparator_due g (clocks clock time j)) ≡ false

abbrev pub TimerSilent : ℕ → ℕ → ℕ → ℕ → Type 0
TimerSilent timer cr0 time j = (bit 32 21 cr0 && bit 64 0 (timers timer time j)) ≡ false

abbrev pub IntervalSilent : Bool → ℕ → Type 0
IntervalSilent requested cr0 = (bit 32 24 cr0 && requested) ≡ false

-- none of them does
pub record Silent (g : Guest) (clock : ℕ) (requested : Bool) (timer cr0 time j : ℕ) : Type 0 where
  pub comparator : ComparatorSilent g clock cr0 time j
  pub timed : TimerSilent timer cr0 time j
  pub interval : IntervalSilent requested cr0
