-- `interruptions::put_areas` meets its contract.
use Prim.Native.Nat.{◌+◌}
use mathlib.Core.Path.{refl, ap, sym, ◌∙◌}
use lib.Seq.{sets}
use Rattle.machine.specs.Record.{psw_bytes}
use Rattle.machine.specs.Psw.{old_psw}
use Rattle.machine.specs.Interruptions.{fields_beside}
use Rattle.machine.specs.Words.{word_bytes}
use Rattle.interruptions.proofs.Words.{two_words}
use Rattle.interruptions.proofs.put_areas.Goals as goal

pub returns-then-basic_control : goal.returns-then-basic_control
unfolding fields_beside
returns-then-basic_control c =
    let a = c.args in
    λ k same.
    rw (sym (c.basic_control.ensures k same) ∙ c.if-basic_control.true)
    (c.put_psw.ensures ∙ ap (λ p. sets a.part.now a.i.old (psw_bytes p)) (c.old_psw-coded.ensures k same))

pub returns-in-Some : goal.returns-in-Some
unfolding fields_beside old_psw
returns-in-Some c =
    let a = c.args in
    λ k same.
    rw (sym (c.basic_control.ensures k same) ∙ c.if-basic_control.false, same, c.in-Some.is)
    (c.put_word-in-Some.ensures
    ∙ ap (λ t. sets t (a.i.code + 4) (word_bytes c.in-Some.address))
    (c.put_word.ensures ∙ ap (λ t. sets t a.i.code (word_bytes a.i.word)) c.put_psw-2.ensures)
    ∙ two_words (sets a.part.now a.i.old (psw_bytes a.psw)) a.i.code (word_bytes a.i.word) (word_bytes c.in-Some.address) refl)

pub returns-in_default : goal.returns-in_default
unfolding fields_beside old_psw
returns-in_default c =
    let a = c.args in
    λ k same.
    rw (sym (c.basic_control.ensures k same) ∙ c.if-basic_control.false, same, c.in_default.is)
    (c.put_word.ensures ∙ ap (λ t. sets t a.i.code (word_bytes a.i.word)) c.put_psw-2.ensures)
