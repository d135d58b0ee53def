-- `inspect::check` meets its contract.
use mathlib.Core.Path.{refl, sym, ◌∙◌}
use Rattle.std.proofs.lemmas.Result.{err_from_is_err_and}
use Rattle.machine.specs.Operations.{check, checked_as}
use Rattle.inspect.proofs.Accepting.{checked_length, checked_long}
use Rattle.inspect.proofs.check.Goals as goal

pub returns-in_err-check_verdict : goal.returns-in_err-check_verdict
unfolding check checked_as
returns-in_err-check_verdict c =
    let p = err_from_is_err_and c.from_residual.result c.from_residual.ensures.1 in
    rw (p.1, p.2) (rw (← c.check_verdict.ensures, c.in_err-check_verdict.was) refl)

pub guest_of-requires : goal.guest_of-requires
guest_of-requires c = checked_length _ (sym c.check_verdict.ensures ∙ c.in_ok-check_verdict.was)

pub entry_good-requires : goal.entry_good-requires
entry_good-requires c = rw c.guest_of.ensures (checked_long _ (sym c.check_verdict.ensures ∙ c.in_ok-check_verdict.was))

pub returns-then-entry_good : goal.returns-then-entry_good
unfolding check checked_as
returns-then-entry_good c = rw (← c.check_verdict.ensures, c.in_ok-check_verdict.was, ← c.guest_of.ensures, ← c.entry_good.ensures, c.if-entry_good.true)

pub returns : goal.returns
unfolding check checked_as
returns c = rw (← c.check_verdict.ensures, c.in_ok-check_verdict.was, ← c.guest_of.ensures, ← c.entry_good.ensures, c.if-entry_good.false)
