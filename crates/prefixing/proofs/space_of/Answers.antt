-- The space is that of the guest and of every CPU with this PSW and these control registers.
use mathlib.Core.Path.{refl}
use borrow.Author.Rules.{rules}
use Rattle.prefixing.proofs.space_of.Goals as goal

pub returns : goal.returns
returns c = (
  refl,
  λ x psw cr0 cr1. record {
    origin = search rules;
    extent = search rules;
    prefix = search rules;
    dat = (c.addressing_left.ensures x psw).0;
    key = (c.addressing_left.ensures x psw).1;
    cr0 = search rules;
    cr1 = search rules;
  },
)
