-- `charging::general_after` meets its contract.
use native.Mathlib.Omega.{arith}
use mathlib.Core.Path.{◌≡◌, sym, ◌∙◌, ap}
use lib.ListN.{length, get_or}
use lib.Seq.{set_out}
use mir.Syntax.{w32}
use mir.Val.{Fits}
use borrow.Author.Rules.{rules}
use Rattle.interruptions.specs.After.{set_by}
use Rattle.charging.proofs.general_after.Goals as goal

pub returns-else-register-lt16 : goal.returns-else-register-lt16
returns-else-register-lt16 c =
    let words = c.args.general.words in
    let sixteen : length words ≡ 16 = search rules in (
      sym (ap (λ set. set_by set words) c.in-Some.is ∙ set_out words c.in-Some.register c.in-Some.value (omega (arith, c.if-register-lt16.false))),
      record { long = sixteen; small = λ i. let fits : Fits w32 (get_or words i 0) = search rules in fits.fits },
    )
