-- `paging::change` meets its contract.
use mathlib.Core.Path.{refl, sym, ◌∙◌}
use Rattle.std.proofs.lemmas.Result.{err_from_is_err_and}
use Rattle.desk.specs.Desk.{desk_as, desk_of}
use Rattle.paging.proofs.Accepting.{desk_verdict_lem, accepted-long, accepted_version, accepted-small, entered-low}
use Rattle.paging.proofs.change.Goals as goal

pub returns-in_err-desk_verdict : goal.returns-in_err-desk_verdict
unfolding desk_of desk_as
returns-in_err-desk_verdict c =
    let p = err_from_is_err_and c.from_residual.result c.from_residual.ensures.1 in
    rw (p.1, p.2) (rw (desk_verdict_lem, ← c.desk_verdict.ensures, c.in_err-desk_verdict.was) (record { answer = refl; bytes = refl; count = refl }))

pub guest_of-guest-requires : goal.guest_of-guest-requires
guest_of-guest-requires c = accepted-long _ _ c.args.keys.now (desk_verdict_lem _ _ _ ∙ sym c.desk_verdict.ensures ∙ c.in_ok-desk_verdict.was)

pub entry_good-requires : goal.entry_good-requires
entry_good-requires c =
    rw c.guest_of-guest.ensures (accepted_version _ _ c.args.keys.now (desk_verdict_lem _ _ _ ∙ sym c.desk_verdict.ensures ∙ c.in_ok-desk_verdict.was))

pub returns-then-not-entry_good : goal.returns-then-not-entry_good
unfolding desk_of desk_as
returns-then-not-entry_good c = rw (desk_verdict_lem, ← c.desk_verdict.ensures, c.in_ok-desk_verdict.was, ← c.guest_of-guest.ensures, ← c.entry_good.ensures, c.if-not-entry_good.true) (record { answer = refl; bytes = refl; count = refl })

pub change_of-requires : goal.change_of-requires
change_of-requires c = record {
  low = entered-low _ (sym c.entry_good.ensures ∙ c.if-not-entry_good.false);
  small = accepted-small _ _ c.args.keys.now (desk_verdict_lem _ _ _ ∙ sym c.desk_verdict.ensures ∙ c.in_ok-desk_verdict.was);
}

pub returns : goal.returns
unfolding desk_of desk_as
returns c = rw (desk_verdict_lem, ← c.desk_verdict.ensures, c.in_ok-desk_verdict.was, ← c.guest_of-guest.ensures, ← c.entry_good.ensures, c.if-not-entry_good.false) c.change_of.ensures
