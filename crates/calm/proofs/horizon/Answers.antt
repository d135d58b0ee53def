-- `calm::horizon` meets its contract.
use Rattle.std.proofs.Common.{◌^◌, ◌<◌, sym, refl, ◌∙◌, arith}
use Rattle.psws.specs.Psws.{state}
use Rattle.calm.proofs.Listing.{formed_wrapped, calm_disabled, calm_silent}
use Rattle.calm.proofs.horizon.Goals as goal

pub returns-then-not-external_enabled : goal.returns-then-not-external_enabled
returns-then-not-external_enabled c =
    let args = c.args in
    let left : args.psw.left < 2 ^ 32 = omega arith in
    let right : args.psw.right < 2 ^ 32 = omega arith in
    let passes = c.passes.ensures c.if-not-passes.false in
    let off = sym (c.external_enabled.ensures (state args.psw) refl) ∙ c.if-not-external_enabled.true in (
      omega arith,
      λ some. formed_wrapped args.psw passes.formed,
      λ cpu psw timer control. calm_disabled args.guest args.clock args.time args.requested cpu (rw psw left) (rw psw right) (rw psw passes) (rw psw off) args.most,
    )

pub returns-else-not-external_enabled : goal.returns-else-not-external_enabled
returns-else-not-external_enabled c =
    let args = c.args in
    let left : args.psw.left < 2 ^ 32 = omega arith in
    let right : args.psw.right < 2 ^ 32 = omega arith in
    let passes = c.passes.ensures c.if-not-passes.false in
    let lasts = c.external_lasting.ensures in (
      lasts.0,
      λ some. formed_wrapped args.psw passes.formed,
      λ cpu psw timer control. calm_silent args.guest args.clock args.time args.requested cpu (rw psw left) (rw psw right) (rw psw passes) c.external_lasting.result (λ j less. rw (timer, control) (lasts.1 j less)),
    )
