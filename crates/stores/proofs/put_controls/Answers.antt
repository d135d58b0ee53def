-- `stores::put_controls` meets its contract. The loop's invariant: with the registers that are left stored behind the first `k`, all
use Prim.Native.Nat.{◌+◌, ◌-◌, ◌%◌}
use native.Mathlib.Omega.{arith}
use mathlib.Core.Path.{◌≡◌, refl, ap, sym, ◌∙◌}
use lib.ListN.{get_or}
use borrow.Author.Rules.{rules}
use Rattle.machine.specs.Words.{words_bytes}
use Rattle.machine.specs.Execute.{controls_from}
use Rattle.stores.proofs.Controls.{one_control_more}
use Rattle.stores.proofs.put_controls.Goals as goal

pub loop-k-init : goal.loop-k-init
loop-k-init c =
    let all : c.args.n - 0 ≡ c.args.n = omega arith in
    let start : (c.args.i + 0) % 16 ≡ c.args.i = omega arith in
    (refl, λ k same. rw (all, start))

pub loop-k-preserved : goal.loop-k-preserved
loop-k-preserved c =
    let at = (c.args.i + c.loop-k.k) % 16 in
    let on : (c.args.i + (c.loop-k.k + 1)) % 16 ≡ (at + 1) % 16 = omega arith in (
      search rules,
      λ k same. rw (on, c.put_word.ensures) (one_control_more c.loop-k.bytes k at c.loop-k.k c.args.n _ (search rules) (ap (λ ws. get_or ws at 0) (sym same))
          ∙ c.loop-k.invariant.1 k same),
    )

pub returns : goal.returns
unfolding words_bytes controls_from
returns c =
    let none : c.args.n - c.loop-k.k ≡ 0 = omega arith in
    λ k same. rw none at (c.loop-k.invariant.1 k same)
