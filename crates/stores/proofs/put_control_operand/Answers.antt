-- `stores::put_control_operand` meets its contract.
use Prim.Native.Nat.{◌*◌}
use mathlib.Core.Path.{sym, ap, ◌∙◌}
use lib.ListN.{take, drop}
use lib.Seq.{sets, length-take-le}
use borrow.Author.Rules.{rules}
use Rattle.stores.proofs.Controls.{length_controls, take-sets}
use Rattle.stores.proofs.put_control_operand.Goals as goal

pub slice_bounds-put_operand-end : goal.slice_bounds-put_operand-end
slice_bounds-put_operand-end c = sym (length-take-le (4 * c.args.n) c.put_controls.new.bytes (search rules))

pub put_operand-requires : goal.put_operand-requires
put_operand-requires c =
    let pre = c.requires.count_bound in
    rw (length-take-le (4 * c.args.n) c.put_controls.new.bytes (search rules)) record { count_bound = pre.0; first_in_bounds = pre.1; second_in_bounds = pre.2 }

pub returns : goal.returns
returns c =
    let args = c.args in
    λ k same.
    c.put_operand.ensures
    ∙ ap (λ bytes. sets (sets args.storage.now args.p.first (take args.p.count bytes)) args.p.second (drop args.p.count bytes))
    (take-sets _ _ c.put_controls.new.bytes (4 * args.n) (c.put_controls.ensures k (ap (λ r. r.words) same)) (length_controls k args.i args.n) (search rules))
