-- `guard::name_through` meets its contract.
use Rattle.std.proofs.lemmas.Result.{err_from_is_err_and}
use mathlib.Core.Path.{subst}
use Rattle.storage.specs.Steps.{read_through}
use Rattle.address.specs.Touching.{Aligned}
use Rattle.guard.proofs.name_through.Goals as goal

pub name_entry-requires : goal.name_entry-requires
name_entry-requires c = (c.requires.0, subst Aligned c.in_ok-e.was c.requires.1)

pub returns : goal.returns
unfolding read_through
returns c =
    let named = c.name_entry.ensures in
    let word = c.in_ok-e.was in
    record { wider = named.wider; by_index = λ t k alike. rw word (named.by_index t k alike); by_index_2 = λ k. rw word (named.by_index_2 k) }

pub returns-in_err-e : goal.returns-in_err-e
unfolding read_through
returns-in_err-e c = record { wider = λ frame named. named; by_index = λ t k alike. rw c.in_err-e.was; by_index_2 = λ k. (let p = err_from_is_err_and c.from_residual.result c.from_residual.ensures.1 in rw (p.1, p.2, c.in_err-e.was)) }
