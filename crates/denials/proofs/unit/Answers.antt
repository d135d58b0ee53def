-- `denials::unit` meets its contract.
use mathlib.Core.Path.{sym, ◌∙◌}
use Rattle.std.proofs.lemmas.Result.{IfOk-weaker}
use Rattle.machine.specs.Host.{host}
use Rattle.address.specs.Touching.{seen}
use Rattle.denials.proofs.Reaching.{denied_code}
use Rattle.denials.proofs.unit.Goals as goal

pub denied-requires : goal.denied-requires
denied-requires c =
    let h = host c.args.designation c.args.storage.now c.args.keys.now in
    let known = sym c.touch-place.ensures ∙ c.in-Err.is in
    (c.requires.inside.0, c.requires.inside.1, c.requires.inside.3, denied_code c.args.guest h (seen c.args.psw (record { words = c.args.control.now })) c.args.store c.args.a known)

pub returns-in-Err-clause-singles : goal.returns-in-Err-clause-singles
returns-in-Err-clause-singles c =
    IfOk-weaker c.denied.result _ _ (λ d (denies, calmly). (
      (λ clock. denies clock c.args.designation c.args.keys.now c.args.control.now (sym c.touch-place.ensures ∙ c.in-Err.is)),
      calmly,
    )) c.denied.ensures.denying
