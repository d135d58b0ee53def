-- `refusals::long_verdict` meets its contract. Refusals 1 and 2 by the tests that led to each return.
use native.Mathlib.Omega.{arith}
use mathlib.Core.Path.{sym, ◌∙◌}
use Rattle.refusals.proofs.Parts.{long-good, long_version, neither_length}
use Rattle.refusals.proofs.long_verdict.Goals as goal

pub returns-then-r-lt-RECORD : goal.returns-then-r-lt-RECORD
returns-then-r-lt-RECORD c = sym (neither_length _ c.requires (λ long said. absurd (omega (arith, c.if-r-lt-RECORD.true, long))))

pub returns-then-said-r : goal.returns-then-said-r
returns-then-said-r c =
    sym (neither_length _ c.requires (λ long said. c.if-said-r.true (c.half_at-said.ensures.0 ∙ said ∙ sym long)))

pub returns-then-said-ne-LONG_RECORD : goal.returns-then-said-ne-LONG_RECORD
returns-then-said-ne-LONG_RECORD c =
    sym (neither_length _ c.requires (λ long said. c.if-said-ne-LONG_RECORD.true (c.half_at-said.ensures.0 ∙ said)))

pub returns-then-r-ne-LONG_VERSION : goal.returns-then-r-ne-LONG_VERSION
returns-then-r-ne-LONG_VERSION c =
    let half = c.half_at-said.ensures.0 in
    let is = c.if-said-ne-LONG_RECORD.false in
    sym (long_version _ (sym c.if-said-r.false ∙ is) (sym half ∙ is) c.if-r-ne-LONG_VERSION.true)

pub returns : goal.returns
returns c =
    let half = c.half_at-said.ensures.0 in
    let is = c.if-said-ne-LONG_RECORD.false in
    sym (long-good _ (sym c.if-said-r.false ∙ is) (sym half ∙ is) c.if-r-ne-LONG_VERSION.false)
