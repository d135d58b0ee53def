-- `denials::of_text` meets its contract.
use native.Mathlib.Omega.{arith}
use mathlib.Core.Path.{refl}
use Rattle.std.proofs.lemmas.Result.{IfOk-weaker}
use Rattle.psws.specs.Psws.{state}
use Rattle.denials.proofs.Denying.{text_denies}
use Rattle.denials.proofs.of_text.Goals as goal

pub returns-clause-denying : goal.returns-clause-denying
returns-clause-denying c =
    let address = c.instruction_address.ensures (state c.args.psw) refl in
    IfOk-weaker c.excepted.result _ _ (λ d (same, placed, interrupts, calmly). (
      (λ words kept sixteen.
          text_denies c.args.guest c.args.psw c.args.timer words c.args.area sixteen c.args.f c.args.storage.now d c.excepted.new.storage same placed
          interrupts (omega (arith, address, c.if-instruction_address-eq1.false)) kept),
      calmly,
    )) c.excepted.ensures.interrupts
