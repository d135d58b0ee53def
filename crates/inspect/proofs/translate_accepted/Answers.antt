-- `inspect::translate_accepted` meets its contract: either way translate's answer is that of accepted input.
use native.Mathlib.Omega.{arith}
use mathlib.Core.Path.{sym, ◌∙◌}
use Rattle.machine.specs.Record.{guest_of}
use Rattle.machine.specs.Host.{host}
use Rattle.inspect.proofs.Accepting.{translated_length, translate_by}
use Rattle.inspect.proofs.translate_accepted.Goals as goal
use Rattle.inspect.proofs.translate_accepted.Goals.{then-xa_mode, else-xa_mode}

pub bounds-r-4 : goal.bounds-r-4
bounds-r-4 c = let long = translated_length _ _ _ _ c.requires in omega (arith, long)

pub translate_xa-t-requires : goal.translate_xa-t-requires
unfolding guest_of
translate_xa-t-requires c = (sym c.xa_mode.ensures ∙ c.if-xa_mode.true, c.requires)

pub returns : goal.returns
returns c =
    let a = c.args in
    let answer = translate_by a.r.now (host a.designation a.storage.now a.keys.now) a.a a.kind c.requires in
    elim c.if-xa_mode.branch [
      | then-xa_mode w ↦
          (rw (c.pack_translation.ensures, w.t-is, w.translate_xa-t.ensures, answer), rw (c.place_after.ensures, w.t-is, w.translate_xa-t.ensures, answer))
      | else-xa_mode w ↦
          (rw (c.pack_translation.ensures, w.t-is, w.translate_other-t.ensures, answer), rw (c.place_after.ensures, w.t-is, w.translate_other-t.ensures, answer))
    ]
