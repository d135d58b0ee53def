-- Without its bit 5 the word has DAT off and the same access key; where the PSW is not a BC one, bit 5 says DAT.
use Prim.Native.Nat.{◌+◌, ◌*◌, ◌/◌, ◌%◌}
use native.Mathlib.Omega.{arith}
use mathlib.Core.Path.{◌≡◌}
use mathlib.Core.Bool.{and-false, and-true}
use borrow.Author.Tests.{eq-eqb, ne_eqb}
use Rattle.prefixing.proofs.addressing_left.Goals as goal
use Rattle.prefixing.proofs.addressing_left.Goals.{else-psw-via-then-psw+else-psw-ne1, else-psw-via-else-psw}

pub returns-then-psw-ne1 : goal.returns-then-psw-ne1
returns-then-psw-ne1 c =
    let left = c.args.psw.left in
    let basic : left / 524288 % 2 ≡ 1 → ⊥ = λ e. omega (arith, c.if-psw-ne1.true) in
    let off : (left / 134217728 * 134217728 + left % 67108864) / 67108864 % 2 ≡ 1 → ⊥ = λ e. omega arith in
    λ x psw. (rw (← psw, c.if-psw.true, ne_eqb _ _ basic, ne_eqb _ _ off, and-false), rw (← psw) (omega arith))

pub returns-else-psw : goal.returns-else-psw
returns-else-psw c =
    elim c.else-psw.branch [
      | else-psw-via-then-psw+else-psw-ne1 w ↦
          let extended : c.args.psw.left / 524288 % 2 ≡ 1 = omega (arith, w.if-psw-ne1.false) in
          λ x psw. (rw (← psw, w.if-psw.true, eq-eqb _ _ extended, and-true), rw (← psw))
      | else-psw-via-else-psw w ↦ λ x psw. (rw (← psw, w.if-psw.false, and-true), rw (← psw))
    ]
