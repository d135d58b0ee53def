-- `drevokas::drevokas_translate` meets its contract: a refusal at once, else the answer of accepted input.
use mathlib.Core.Path.{sym, ◌∙◌}
use Rattle.machine.specs.Host.{host}
use Rattle.machine.specs.Operations.{translated_as}
use Rattle.inspections.specs.Inspecting.{place_after}
use Rattle.inspect.proofs.Accepting.{too_short, translate_by}
use Rattle.drevokas.proofs.drevokas_translate.Goals as goal
use Rattle.drevokas.proofs.drevokas_translate.Goals.{then-r-eq-RECORD+in_default, else-r-eq-RECORD+in_default-translate_verdict}

pub returns-then-r-lt-RECORD : goal.returns-then-r-lt-RECORD
unfolding place_after
returns-then-r-lt-RECORD c =
    let refused = too_short c.args.r.now (host c.args.designation c.args.storage.now c.args.keys.now) c.args.a c.args.kind c.if-r-lt-RECORD.true in
    (rw (c.pack_translation.ensures, refused), rw refused)

pub returns-in-Err : goal.returns-in-Err
unfolding translated_as place_after
returns-in-Err c =
    let a = c.args in
    let told = sym c.short_translate_verdict.ensures ∙ c.in-Err.is in
    let refused = translate_by a.r.now (host a.designation a.storage.now a.keys.now) a.a a.kind told in
    (rw (c.pack_translation-in-Err.ensures, refused), rw refused)

pub returns-in-Err-translate_verdict : goal.returns-in-Err-translate_verdict
unfolding translated_as place_after
returns-in-Err-translate_verdict c =
    let a = c.args in
    let told = sym c.translate_verdict.ensures ∙ c.in-Err-translate_verdict.is in
    let refused = translate_by a.r.now (host a.designation a.storage.now a.keys.now) a.a a.kind told in
    (rw (c.pack_translation-in-Err-translate_verdict.ensures, refused), rw refused)

pub translate_accepted-requires : goal.translate_accepted-requires
translate_accepted-requires c =
    elim c.if-r-eq-RECORD.branch [
      | then-r-eq-RECORD+in_default w ↦ sym w.short_translate_verdict.ensures ∙ w.in_default.is
      | else-r-eq-RECORD+in_default-translate_verdict w ↦ sym w.translate_verdict.ensures ∙ w.in_default-translate_verdict.is
    ]
