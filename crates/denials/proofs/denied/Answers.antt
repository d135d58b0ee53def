-- `denials::denied` meets its contract.
use mathlib.Core.Path.{sym, ◌∙◌}
use Rattle.std.proofs.lemmas.Result.{IfOk-weaker}
use Rattle.address.specs.Touching.{seen, touch_of}
use Rattle.machine.specs.Host.{host}
use Rattle.denials.proofs.denied.Goals as goal

pub returns-then-is_text-clause-denying : goal.returns-then-is_text-clause-denying
returns-then-is_text-clause-denying c =
    let (fetch, at) = c.is_text.ensures c.if-is_text.true in
    IfOk-weaker c.of_text.result _ _ (λ d (denies, calmly). (
      (λ clock designation keys control denied.
          denies c.args.words.now c.args.kept.now c.requires.1 clock designation keys control
          ((λ i. touch_of c.args.guest (host designation c.args.storage.now keys) (seen c.args.psw (record { words = control })) (sym fetch i) (sym at i)) ∙ denied)),
      calmly,
    )) c.of_text.ensures.denying
