-- `refusals::short_verdict` meets its contract. Refusals 1 and 2 by the tests that led to each return.
use mathlib.Core.Path.{sym, ◌∙◌}
use Rattle.refusals.proofs.Parts.{short_good, short_field, short_version}
use Rattle.refusals.proofs.short_verdict.Goals as goal

pub returns-then-half_at-ne-RECORD : goal.returns-then-half_at-ne-RECORD
returns-then-half_at-ne-RECORD c = sym (short_field _ c.requires (λ said. c.if-half_at-ne-RECORD.true (c.half_at.ensures.0 ∙ said)))

pub returns-then-r-ne-VERSION : goal.returns-then-r-ne-VERSION
returns-then-r-ne-VERSION c = sym (short_version _ c.requires (sym c.half_at.ensures.0 ∙ c.if-half_at-ne-RECORD.false) c.if-r-ne-VERSION.true)

pub returns : goal.returns
returns c = sym (short_good _ c.requires (sym c.half_at.ensures.0 ∙ c.if-half_at-ne-RECORD.false) c.if-r-ne-VERSION.false)
