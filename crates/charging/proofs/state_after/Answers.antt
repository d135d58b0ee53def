-- `charging::state_after` meets its contract.
use borrow.Author.Rules.{rules}
use lib.ListN.{get_or}
use mir.Syntax.{w32}
use mir.Val.{Fits}
use Rattle.interruptions.specs.After.{left_by}
use Rattle.charging.proofs.state_after.Goals as goal

pub returns : goal.returns
unfolding left_by
returns c =
    let a = c.args in (
      (λ i. record {
        psw = record { left = a.done.psw.left; right = a.done.psw.right; system370 = a.cpu.psw.system370 };
        timer = a.done.timer;
        control = a.done.control;
        general = record { words = c.general_after.ensures.0 i };
      }),
      record {
        left = search rules;
        right = search rules;
        timer = search rules;
        control = record { long = search rules; small = λ i. let fits : Fits w32 (get_or a.done.control.words i 0) = search rules in fits.fits };
        general = c.general_after.ensures.1;
      },
    )
