-- `registers::add` meets its contract.
use borrow.Author.Rules.{rules}
use Prim.Native.Nat.{◌/◌, ◌%◌}
use native.Mathlib.Omega.{arith}
use mathlib.Core.Path.{◌≡◌}
use lib.ListN.{length}
use Rattle.machine.specs.Execute.{sum_of, sum_overflows, add}
use Rattle.machine.specs.Host.{host}
use Rattle.machine.specs.Psw.{general}
use Rattle.adder.proofs.Sums.{sum_psw, sum_value}
use Rattle.execute.proofs.Ending.{of_words}
use Rattle.registers.proofs.add.Goals as goal

pub returns : goal.returns
unfolding add
returns c =
    let k = c.args.cpu in
    let i = c.args.text.first / 16 % 16 in
    let a = general k i in
    let b = general k (c.args.text.first % 16) in
    let after = c.added-after.result in
    let sixteen : length after.general.words ≡ 16 = search rules in
    λ clock x standing.
    of_words (host c.args.designation _ _) x standing c.summed.result sum_of sum_overflows after.psw (general after i) (
      sum_psw k (sum_of a b) (sum_overflows a b) i after c.added-after.ensures,
      sum_value k (sum_of a b) (sum_overflows a b) i after c.added-after.ensures (omega (arith, sixteen)),
    )
    (λ overflow coded. c.summed.ensures overflow clock coded x standing)
