-- `adder::add_registers` meets its contract: the state with the sum, by its PSW and its register.
use mathlib.Core.Path.{refl, ap, ◌∙◌}
use Rattle.machine.specs.Psw.{with_psw, with_general, with_condition_code}
use Rattle.adder.proofs.Sums.{small_code, sum_state}
use Rattle.adder.proofs.add_registers.Goals as goal

pub with_condition_code-psw-requires : goal.with_condition_code-psw-requires
with_condition_code-psw-requires c = rw c.add-sum.ensures.2 (small_code _ _)

pub returns : goal.returns
unfolding with_psw with_general
returns c =
    let cpu = c.args.cpu in
    rw c.add-sum.ensures.0
    (sum_state cpu _ _ c.args.i c.with_condition_code-psw.result
    (c.with_condition_code-psw.ensures cpu refl ∙ ap (λ n. (with_condition_code cpu n).psw) c.add-sum.ensures.2))
