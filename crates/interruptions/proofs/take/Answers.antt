-- `interruptions::take` meets its contract.
use native.Mathlib.Omega.{arith}
use mathlib.Core.Path.{refl, ap, sym, subst, ◌∙◌}
use Rattle.std.proofs.lemmas.Result.{err_from_is_err_and}
use Rattle.machine.specs.Host.{host, backing, host_page}
use Rattle.machine.specs.Walk.{at_frame}
use Rattle.interruptions.specs.After.{Keyed}
use Rattle.interruptions.proofs.Leaving.{keyed_found, interrupted_failed, interrupted_protected, interrupted_open}
use Rattle.interruptions.proofs.take.Goals as goal

pub returns-in_err-frame : goal.returns-in_err-frame
unfolding backing host_page
returns-in_err-frame c =
    let a = c.args in
    let p = err_from_is_err_and c.from_residual.result c.from_residual.ensures.1 in
    λ x clock k to text standing same ilc.
    rw (p.1, p.2)
    (interrupted_failed (host a.designation _ _) x standing to a.i c.requires.with_keys.2 ilc _
    (sym (c.backing-page.ensures a.guest refl refl) ∙ c.in_err-frame.was) refl refl)

pub returns-then-protected : goal.returns-then-protected
unfolding backing host_page
returns-then-protected c =
    let a = c.args in
    let frame = c.in_ok-frame.field-0.frame in
    λ x clock k to text standing same ilc.
    interrupted_protected (host a.designation _ _) x standing to a.i c.requires.with_keys.2 ilc frame
    (sym (c.backing-page.ensures a.guest refl refl) ∙ c.in_ok-frame.was ∙ ap (at_frame frame) c.if-protected.true) _ (omega arith) refl refl

pub interrupt_open-requires-clause-with_keys : goal.interrupt_open-requires-clause-with_keys
interrupt_open-requires-clause-with_keys c =
    let a = c.args in
    let keyed = keyed_found a.guest.origin a.guest.extent a.designation _ _ _ c.backing-page.ensures c.requires.with_keys.1 in
    (c.requires.with_keys.0, (subst (Keyed _ _) c.in_ok-frame.was keyed).1)

pub interrupt_open-requires-clause-in_prefix_page : goal.interrupt_open-requires-clause-in_prefix_page
interrupt_open-requires-clause-in_prefix_page c =
    let a = c.args in
    let keyed = keyed_found a.guest.origin a.guest.extent a.designation _ _ _ c.backing-page.ensures c.requires.with_keys.1 in
    let (inside, key, small) = subst (Keyed _ _) c.in_ok-frame.was keyed in
    (c.requires.with_keys.2, inside, small)

pub returns : goal.returns
unfolding backing host_page
returns c =
    let a = c.args in
    let frame = c.in_ok-frame.field-0.frame in
    let left = c.interrupt_open.ensures in
    λ x clock k to text standing same ilc.
    interrupted_open (host a.designation _ _) x standing to a.i c.requires.with_keys.2 ilc frame c.interrupt_open.result
    (sym (c.backing-page.ensures a.guest refl refl) ∙ c.in_ok-frame.was ∙ ap (at_frame frame) c.if-protected.false) (rw same left.value) (left.storage_after to same)
    left.keys_after
