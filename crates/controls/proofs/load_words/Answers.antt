-- `controls::load_words` meets its contract.
use Prim.Native.Nat.{◌+◌, ◌%◌}
use native.Mathlib.Omega.{arith}
use mathlib.Core.Path.{◌≡◌, ◌∙◌}
use Rattle.laws.proofs.Lens.{sixteen_set}
use Rattle.loads.proofs.Loading.{one_register, all_registers}
use borrow.Author.Rules.{rules}
use Rattle.controls.proofs.load_words.Goals as goal

pub loop-k-preserved : goal.loop-k-preserved
loop-k-preserved c =
    let loop = c.loop-k in
    let at = (c.args.i + loop.k) % 16 in
    let on : (c.args.i + (loop.k + 1)) % 16 ≡ (at + 1) % 16 = omega arith in (
      sixteen_set _ at c.word_at.result loop.invariant.0 (omega arith),
      λ k. rw (on, c.word_at.ensures) (one_register k loop.control at _ loop.k _ c.loop-k-test.true ∙ loop.invariant.1 k),
    )

pub returns : goal.returns
returns c =
    (c.loop-k.invariant.0, λ k same. all_registers k _ _ ((c.args.i + c.loop-k.k) % 16) _ _ c.loop-k.k _ (search rules) same (c.loop-k.invariant.1 k))
