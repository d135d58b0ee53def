-- `refusals::short_translate_verdict` meets its contract. Each exit of a `?` is the part of the verdict that refuses.
use mathlib.Core.Path.{refl}
use Rattle.std.proofs.lemmas.Result.{err_from_is_err_and}
use Rattle.refusals.specs.Parts.{first_refusal}
use mathlib.Core.Logic.{inl}
use Rattle.refusals.proofs.Parts.{short_parts}
use Rattle.refusals.proofs.short_translate_verdict.Goals as goal

pub bytes_verdict-requires : goal.bytes_verdict-requires
bytes_verdict-requires c = inl c.requires

pub returns-in_err-short_verdict : goal.returns-in_err-short_verdict
unfolding first_refusal
returns-in_err-short_verdict c =
    let p = err_from_is_err_and c.from_residual.result c.from_residual.ensures.1 in
    rw (p.1, p.2) (rw (← short_parts c.args.r.now c.args.storage.now c.args.keys.now c.args.kind c.requires, ← c.short_verdict.ensures, c.in_err-short_verdict.was) refl)

pub returns-in_err-storage_verdict : goal.returns-in_err-storage_verdict
unfolding first_refusal
returns-in_err-storage_verdict c =
    let p = err_from_is_err_and c.from_residual-in_err-storage_verdict.result c.from_residual-in_err-storage_verdict.ensures.1 in
    rw (p.1, p.2) (rw (← short_parts c.args.r.now c.args.storage.now c.args.keys.now c.args.kind c.requires, ← c.short_verdict.ensures, c.in_ok-short_verdict.was, ← c.storage_verdict.ensures, c.in_err-storage_verdict.was) refl)

pub returns-in_err-bytes_verdict : goal.returns-in_err-bytes_verdict
unfolding first_refusal
returns-in_err-bytes_verdict c =
    let p = err_from_is_err_and c.from_residual-in_err-bytes_verdict.result c.from_residual-in_err-bytes_verdict.ensures.1 in
    rw (p.1, p.2) (rw (← short_parts c.args.r.now c.args.storage.now c.args.keys.now c.args.kind c.requires, ← c.short_verdict.ensures, c.in_ok-short_verdict.was, ← c.storage_verdict.ensures, c.in_ok-storage_verdict.was, ← c.bytes_verdict.ensures, c.in_err-bytes_verdict.was) refl)

pub returns : goal.returns
unfolding first_refusal
returns c = rw (← short_parts c.args.r.now c.args.storage.now c.args.keys.now c.args.kind c.requires, ← c.short_verdict.ensures, c.in_ok-short_verdict.was, ← c.storage_verdict.ensures, c.in_ok-storage_verdict.was, ← c.bytes_verdict.ensures, c.in_ok-bytes_verdict.was) c.access_verdict.ensures
