-- `paging::list` meets its contract.
use mathlib.Core.Path.{refl, sym, ◌∙◌}
use Rattle.std.proofs.lemmas.Result.{err_from_is_err_and}
use Rattle.desk.specs.Desk.{list_as, list_of}
use Rattle.paging.proofs.Accepting.{desk_verdict_lem, accepted-long, accepted_version, entered-low}
use Rattle.paging.proofs.list.Goals as goal

pub returns-in_err-desk_verdict : goal.returns-in_err-desk_verdict
unfolding list_of list_as
returns-in_err-desk_verdict c =
    let p = err_from_is_err_and c.from_residual.result c.from_residual.ensures.1 in
    rw (p.1, p.2) (rw (desk_verdict_lem, ← c.desk_verdict.ensures, c.in_err-desk_verdict.was) (record { answer = refl; shown = refl }))

pub guest_of-guest-requires : goal.guest_of-guest-requires
guest_of-guest-requires c = accepted-long _ _ c.args.keys.now (desk_verdict_lem _ _ _ ∙ sym c.desk_verdict.ensures ∙ c.in_ok-desk_verdict.was)

pub entry_good-requires : goal.entry_good-requires
entry_good-requires c =
    rw c.guest_of-guest.ensures (accepted_version _ _ c.args.keys.now (desk_verdict_lem _ _ _ ∙ sym c.desk_verdict.ensures ∙ c.in_ok-desk_verdict.was))

pub returns-then-not-entry_good : goal.returns-then-not-entry_good
unfolding list_of list_as
returns-then-not-entry_good c = rw (desk_verdict_lem, ← c.desk_verdict.ensures, c.in_ok-desk_verdict.was, ← c.guest_of-guest.ensures, ← c.entry_good.ensures, c.if-not-entry_good.true) (record { answer = refl; shown = refl })

pub list_for-requires : goal.list_for-requires
list_for-requires c = entered-low _ (sym c.entry_good.ensures ∙ c.if-not-entry_good.false)

pub returns : goal.returns
unfolding list_of list_as
returns c = rw (desk_verdict_lem, ← c.desk_verdict.ensures, c.in_ok-desk_verdict.was, ← c.guest_of-guest.ensures, ← c.entry_good.ensures, c.if-not-entry_good.false) c.list_for.ensures
