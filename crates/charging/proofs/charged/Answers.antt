-- `charging::charged` meets its contract.
use borrow.Author.Rules.{rules}
use mathlib.Core.Path.{refl}
use lib.ListN.{get_or}
use mir.Syntax.{w32}
use mir.Val.{Fits}
use Rattle.machine.specs.Psw.{with_timer}
use Rattle.machine.specs.Time.{charged}
use Rattle.charging.proofs.charged.Goals as goal

pub returns : goal.returns
unfolding charged with_timer
returns c =
    let a = c.args in (
      rw c.timer_after.ensures refl,
      record {
        left = search rules;
        right = search rules;
        timer = search rules;
        control = record { long = search rules; small = λ i. let fits : Fits w32 (get_or a.cpu.control.words i 0) = search rules in fits.fits };
        general = record { long = search rules; small = λ i. let fits : Fits w32 (get_or a.cpu.general.words i 0) = search rules in fits.fits };
      },
    )
