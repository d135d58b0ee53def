-- `calm::timer_lasting` meets its contract.
use Prim.Native.Nat.{◌^◌, ◌<◌}
use native.Mathlib.Omega.{arith}
use mathlib.Core.Path.{refl}
use mathlib.Core.Bool.{false}
use mathlib.Core.List.{[]}
use Rattle.std.proofs.lemmas.Bool.Decides.{nat_tests}
use Rattle.machine.specs.declared.Psw.{Psw}
use Rattle.machine.specs.declared.Registers.{Registers}
use Rattle.machine.specs.Words.{bit}
use Rattle.machine.specs.Time.{timer_due}
use Rattle.calm.specs.Calming.{timers}
use Rattle.calm.proofs.Charging.{not_negative}
use Rattle.calm.proofs.Listing.{not_second}
use Rattle.calm.proofs.timer_lasting.Goals as goal

pub returns-else-timer_due : goal.returns-else-timer_due
unfolding timer_due
returns-else-timer_due c =
    let args = c.args in
    let lasts = c.lasting.ensures in
    let time : args.time < 2 ^ 64 = omega arith in
    let none : Registers = record { words = [] } in
    let psw : Psw = record { left = 0; right = 0; system370 = false } in
    let due = c.timer_due.ensures (record { psw = psw; timer = args.timer; control = none; general = none }) refl in
    let positive : args.timer < 2 ^ 63 = grind (arith, nat_tests, due) in (
      lasts.0,
      λ j less.
          not_second (bit 32 21 args.cr0) (bit 64 0 (timers args.timer args.time j))
          (not_negative args.timer args.time j (lasts.1 j less) positive time),
    )
