-- `guard::name_entry` meets its contract.
use Rattle.std.proofs.lemmas.Result.{err_from_is_err_and}
use Rattle.std.specs.Prelude.{Err, Ok}
use mathlib.Core.Path.{refl, sym, ap, ◌∙◌}
use Rattle.address.specs.Touching.{entry_behind}
use Rattle.guard.proofs.Guarded.{entry_above, entry_failed, entry_found, entry_is, entry_past, entry_fits}
use Rattle.guard.proofs.name_entry.Goals as goal

pub returns-then-at-guest : goal.returns-then-at-guest
returns-then-at-guest c =
    let above = c.if-at-guest.true in
    let at = c.prefixed-at.ensures in record { wider = λ frame named. named; by_index = entry_above c.args.guest c.args.designation c.args.storage.now c.args.real c.requires.1 _ at _ above; by_index_2 = λ k. ap Err c.exception_of.ensures ∙ entry_past c.args.guest c.args.designation c.args.storage.now c.args.real c.requires.1 _ at above k }

pub word_at-requires : goal.word_at-requires
word_at-requires c =
    let page = c.backing in
    let at = c.prefixed-at.ensures in
    let behind = sym (page.ensures c.args.guest refl refl) ∙ c.in_ok-page.was in
    entry_fits c.args.guest c.args.designation c.args.storage.now c.args.real c.requires.1 _ at behind

pub returns : goal.returns
unfolding entry_behind
returns c =
    let page = c.backing in
    let at = c.prefixed-at.ensures in
    let behind = sym (page.ensures c.args.guest refl refl) ∙ c.in_ok-page.was in
    let named =
    entry_found c.args.guest c.args.designation c.args.storage.now c.args.real c.requires.1 _ at _ c.name_host.ensures.by_index _ _ behind c.args.guard.now _ c.name_host.ensures.wider c.name_host.array_long
    c.name_frame.ensures
    in
    record { wider = named.0; by_index = named.1; by_index_2 = λ k. ap Ok c.word_at.ensures ∙ entry_is c.args.guest c.args.designation c.args.storage.now c.args.real c.requires.1 _ at _ behind k }

pub returns-in_err-page : goal.returns-in_err-page
unfolding entry_behind
returns-in_err-page c =
    let page = c.backing in
    let at = c.prefixed-at.ensures in
    let behind = sym (page.ensures c.args.guest refl refl) ∙ c.in_err-page.was in
    record { wider = c.name_host.ensures.wider; by_index = entry_failed c.args.guest c.args.designation c.args.storage.now c.args.real c.requires.1 _ at _ c.name_host.ensures.by_index _ behind; by_index_2 = λ k. (let p = err_from_is_err_and c.from_residual.result c.from_residual.ensures.1 in rw (p.1, p.2) (entry_is c.args.guest c.args.designation c.args.storage.now c.args.real c.requires.1 _ at _ behind k)) }
