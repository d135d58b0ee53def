-- Document 01, "Before each unit": the guest clock, the comparator, the CPU timer and the time per unit. All are modulo 2^64.
use Rattle.std.specs.Prelude.{ℕ, ◌+◌, ◌-◌, ◌%◌, ◌^◌, Bool, ltb}
use Rattle.machine.specs.declared.Cpu.{Cpu}
use Rattle.machine.specs.declared.Guest.{Guest}
use Rattle.machine.specs.Words.{bit}
use Rattle.machine.specs.Psw.{with_timer}

-- host clock plus epoch, carry out dropped
unfoldable pub guest_clock : Guest → ℕ → ℕ
guest_clock g clock = (clock + g.epoch) % 2 ^ 64

-- the guest clock is greater than the comparator, unsigned
unfoldable pub comparator_due : Guest → ℕ → Bool
comparator_due g clock = ltb g.comparator (guest_clock g clock)

-- the signed CPU timer is negative
unfoldable pub timer_due : Cpu → Bool
timer_due c = bit 64 0 c.timer

-- the host clock after a unit
unfoldable pub clock_after : ℕ → ℕ → ℕ
clock_after clock time = (clock + time) % 2 ^ 64

-- the CPU timer after a unit
unfoldable pub timer_after : ℕ → ℕ → ℕ
timer_after timer time = (timer + (2 ^ 64 - time)) % 2 ^ 64

unfoldable pub charged : Cpu → ℕ → Cpu
charged c time = with_timer c (timer_after c.timer time)
