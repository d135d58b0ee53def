-- `packing::pack_staged` meets its contract.
use native.Mathlib.Omega.{arith}
use Rattle.packing.proofs.Numbers.{kind_tag, stage_tag, stage-small}
use Rattle.packing.proofs.pack_staged.Goals as goal

pub returns : goal.returns
returns c =
    let kind = kind_tag c.args.kind in
    let stage = stage_tag c.args.stage in
    let small = stage-small c.args.stage in
    (omega arith, omega arith)
