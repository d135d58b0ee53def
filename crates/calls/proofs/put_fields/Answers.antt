-- `calls::put_fields` meets its contract.
use Prim.Native.Nat.{◌+◌}
use mathlib.Core.Path.{refl, ap, sym, ◌∙◌}
use lib.Seq.{sets}
use Rattle.machine.specs.Words.{word_bytes}
use Rattle.machine.specs.Interruptions.{fields_beside}
use Rattle.interruptions.proofs.Words.{two_words}
use Rattle.calls.proofs.put_fields.Goals as goal

pub returns-in-Some : goal.returns-in-Some
unfolding fields_beside
returns-in-Some c =
    let a = c.args in
    λ k same.
    rw (sym (c.basic_control.ensures k same) ∙ c.if-not-basic_control.true, c.in-Some.is)
    (c.put-in-Some.ensures ∙ ap (λ t. sets t (a.base + a.i.code + 4) (word_bytes c.in-Some.address)) c.put.ensures
    ∙ two_words a.storage.now (a.base + a.i.code) (word_bytes a.i.word) (word_bytes c.in-Some.address) refl)

pub returns-in_default : goal.returns-in_default
unfolding fields_beside
returns-in_default c =
    λ k same. rw (sym (c.basic_control.ensures k same) ∙ c.if-not-basic_control.true, c.in_default.is) c.put.ensures

pub returns-else-not-basic_control : goal.returns-else-not-basic_control
unfolding fields_beside
returns-else-not-basic_control c = λ k same. rw (sym (c.basic_control.ensures k same) ∙ c.if-not-basic_control.false) refl
