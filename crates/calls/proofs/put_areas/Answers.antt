-- `calls::put_areas` meets its contract.
use Prim.Native.Nat.{◌+◌}
use mathlib.Core.Path.{refl, ap, ◌∙◌}
use lib.Seq.{sets}
use Rattle.machine.specs.Words.{word_bytes}
use Rattle.machine.specs.Record.{psw_bytes}
use Rattle.machine.specs.Interruptions.{fields_beside}
use Rattle.interruptions.specs.After.{fields_of}
use Rattle.interruptions.proofs.Words.{two_words}
use Rattle.calls.proofs.put_areas.Goals as goal

pub returns : goal.returns
returns c =
    let a = c.args in
    let old = c.old_psw-old.result in
    λ k same.
    c.put_fields.ensures k same
    ∙ ap (λ t. sets t (a.base + a.i.code) (fields_beside k (fields_of a.i)))
    (c.put-2.ensures ∙ ap (λ t. sets t (a.base + a.i.old + 4) (word_bytes old.right)) c.put.ensures
    ∙ two_words a.storage.now (a.base + a.i.old) (word_bytes old.left) (word_bytes old.right) refl
    ∙ ap (λ p. sets a.storage.now (a.base + a.i.old) (psw_bytes p)) (c.old_psw-old.ensures k same))
