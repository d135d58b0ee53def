-- `refusals::reserved_verdict` meets its contract. Each exit of a `?` is the part of the verdict that refuses.
use mathlib.Core.Path.{refl, sym}
use Rattle.std.proofs.lemmas.Result.{err_from_is_err_and}
use Rattle.refusals.specs.Parts.{first_refusal}
use Rattle.refusals.proofs.Parts.{reserved_parts, interval_none}
use Rattle.refusals.proofs.reserved_verdict.Goals as goal

pub returns-in_err-bytes_verdict : goal.returns-in_err-bytes_verdict
unfolding first_refusal
returns-in_err-bytes_verdict c =
    let p = err_from_is_err_and c.from_residual.result c.from_residual.ensures.1 in
    rw (p.1, p.2) (rw (← reserved_parts _, ← c.bytes_verdict.ensures, c.in_err-bytes_verdict.was) refl)

pub returns-then-r-eq-LONG_RECORD : goal.returns-then-r-eq-LONG_RECORD
unfolding first_refusal
returns-then-r-eq-LONG_RECORD c = rw (← reserved_parts _, ← c.bytes_verdict.ensures, c.in_ok-bytes_verdict.was) c.interval_verdict.ensures

pub returns : goal.returns
unfolding first_refusal
returns c =
    rw (← reserved_parts _, ← c.bytes_verdict.ensures, c.in_ok-bytes_verdict.was) (sym (interval_none _ c.if-r-eq-LONG_RECORD.false))
