-- `refusals::check_verdict` meets its contract. Each exit of a `?` is the part of the verdict that refuses.
use mathlib.Core.Path.{refl, sym, ◌∙◌}
use Rattle.std.proofs.lemmas.Result.{err_from_is_err_and}
use Rattle.refusals.specs.Parts.{first_refusal}
use Rattle.refusals.proofs.Parts.{accepted_head, check_parts}
use Rattle.refusals.proofs.check_verdict.Goals as goal

pub reserved_verdict-requires : goal.reserved_verdict-requires
reserved_verdict-requires c = accepted_head _ (sym c.head_verdict.ensures ∙ c.in_ok-head_verdict.was)

pub returns-in_err-head_verdict : goal.returns-in_err-head_verdict
unfolding first_refusal
returns-in_err-head_verdict c =
    let p = err_from_is_err_and c.from_residual.result c.from_residual.ensures.1 in
    rw (p.1, p.2) (rw (← check_parts c.args.r.now, ← c.head_verdict.ensures, c.in_err-head_verdict.was) refl)

pub returns : goal.returns
unfolding first_refusal
returns c = rw (← check_parts c.args.r.now, ← c.head_verdict.ensures, c.in_ok-head_verdict.was) c.reserved_verdict.ensures
