-- `execute::program_interruption` meets its contract.
use native.Mathlib.Omega.{arith}
use mathlib.Core.Path.{refl, sym, ◌∙◌}
use Rattle.execute.proofs.Exceptions.{long_fields, short_fields, ilc_of-word, code_of-word}
use Rattle.execute.proofs.program_interruption.Goals as goal

pub returns-then-translation : goal.returns-then-translation
returns-then-translation c =
    let (short, small) = c.requires in (
      (omega arith, omega arith, omega arith),
      refl,
      λ x told. long_fields x c.args.f c.args.ilc short small told (sym c.translation.ensures ∙ c.if-translation.true),
      ilc_of-word c.args.ilc c.args.f.code short small,
      code_of-word c.args.ilc c.args.f.code small,
    )

pub returns-else-translation : goal.returns-else-translation
returns-else-translation c =
    let (short, small) = c.requires in (
      (omega arith, omega arith, omega arith),
      refl,
      λ x told. short_fields x c.args.f c.args.ilc short small told (sym c.translation.ensures ∙ c.if-translation.false),
      ilc_of-word c.args.ilc c.args.f.code short small,
      code_of-word c.args.ilc c.args.f.code small,
    )
