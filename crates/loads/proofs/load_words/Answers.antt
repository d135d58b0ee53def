-- `loads::load_words` meets its contract. The loop's invariant: the words that are left, loaded behind the first `k`, give what all of them give.
use Prim.Native.Nat.{◌+◌, ◌%◌}
use native.Mathlib.Omega.{arith}
use mathlib.Core.Path.{◌≡◌, refl, ◌∙◌}
use borrow.Author.Rules.{rules}
use Rattle.loads.proofs.Loading.{one_register, all_registers}
use Rattle.loads.proofs.load_words.Goals as goal

pub loop-k-init : goal.loop-k-init
loop-k-init c =
    let start : (c.args.i + 0) % 16 ≡ c.args.i = omega arith in
    (search rules, λ k. rw start refl)

pub loop-k-preserved : goal.loop-k-preserved
loop-k-preserved c =
    let loop = c.loop-k in
    let at = (c.args.i + loop.k) % 16 in
    let on : (c.args.i + (loop.k + 1)) % 16 ≡ (at + 1) % 16 = omega arith in
    (search rules, λ k. rw (on, c.word_at.ensures) (one_register k loop.control at _ loop.k _ (search rules) ∙ loop.invariant.1 k))

pub returns : goal.returns
returns c =
    λ k same. all_registers k _ _ ((c.args.i + c.loop-k.k) % 16) _ _ c.loop-k.k _ (search rules) same (c.loop-k.invariant.1 k)
