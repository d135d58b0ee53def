-- `refusals::bytes_verdict` meets its contract. By the word and the halfword of the bytes.
use native.Mathlib.Omega.{arith}
use mathlib.Core.Path.{sym}
use Rattle.machine.proofs.Laws.{good_length}
use Rattle.refusals.proofs.Parts.{bytes_used, bytes_free}
use Rattle.refusals.proofs.bytes_verdict.Goals as goal

pub word_at-requires : goal.word_at-requires
word_at-requires c = omega (arith, good_length c.args.r.now c.requires)

pub returns-then-word_at-ne0 : goal.returns-then-word_at-ne0
returns-then-word_at-ne0 c = sym (bytes_used _ (λ none. c.if-word_at-ne0.true (omega (arith, c.word_at.ensures, none))))

pub half_at-requires : goal.half_at-requires
half_at-requires c = omega (arith, good_length c.args.r.now c.requires)

pub returns-then-half_at-ne0 : goal.returns-then-half_at-ne0
returns-then-half_at-ne0 c = sym (bytes_used _ (λ none. c.if-half_at-ne0.true (omega (arith, c.half_at.ensures.0, none))))

pub returns : goal.returns
returns c = sym (bytes_free _ (omega (arith, c.word_at.ensures, c.if-word_at-ne0.false, c.half_at.ensures.0, c.if-half_at-ne0.false)))
