-- `controls::store_words` meets its contract.
use Prim.Native.Nat.{◌+◌, ◌-◌, ◌%◌}
use native.Mathlib.Omega.{arith}
use mathlib.Core.Path.{◌≡◌, ap, sym, ◌∙◌}
use lib.ListN.{get_or}
use borrow.Author.Rules.{rules}
use Rattle.machine.specs.Words.{words_bytes}
use Rattle.machine.specs.Execute.{controls_from}
use Rattle.words.proofs.Parts.{sets_of_whole}
use Rattle.stores.proofs.Controls.{one_control_more, length_controls}
use Rattle.controls.proofs.store_words.Goals as goal

pub loop-k-preserved : goal.loop-k-preserved
loop-k-preserved c =
    let loop = c.loop-k in
    let at = (c.args.i + loop.k) % 16 in
    let on : (c.args.i + (loop.k + 1)) % 16 ≡ (at + 1) % 16 = omega arith in (
      search rules,
      λ k same. rw (on, c.put_word.ensures) (one_control_more loop.part k at loop.k c.args.n _ c.loop-k-test.true (ap (λ ws. get_or ws at 0) (sym same)) ∙ loop.invariant.1 k same),
    )

pub returns : goal.returns
unfolding words_bytes controls_from
returns c =
    let n = c.args.n in
    let i = c.args.i in
    let none : n - c.loop-k.k ≡ 0 = omega (arith, c.loop-k-test.false) in
    λ k same. (rw none at (c.loop-k.invariant.1 k same)) ∙ sets_of_whole c.args.part.now (words_bytes (controls_from k i n)) (c.requires.2 ∙ sym (length_controls k i n))
