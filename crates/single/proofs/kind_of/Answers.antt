-- `single::kind_of` meets its contract.
use Prim.Native.Nat.{◌+◌, ◌*◌}
use native.Mathlib.Omega.{arith}
use mathlib.Core.Path.{refl, ◌∙◌}
use Rattle.single.proofs.Deciding.{one_byte, two_bytes}
use Rattle.single.proofs.kind_of.Goals as goal

pub returns-in-130 : goal.returns-in-130
returns-in-130 c =
    let a = c.args in
    (one_byte (a.op * 256 + a.second) 130 (omega (arith, c.in-130.is, c.ranges.second.fits)) refl, omega (arith, c.in-130.is), omega (arith, c.in-130.is))

pub returns-in-182 : goal.returns-in-182
returns-in-182 c =
    let a = c.args in
    (one_byte (a.op * 256 + a.second) 182 (omega (arith, c.in-182.is, c.ranges.second.fits)) refl, omega (arith, c.in-182.is), omega (arith, c.in-182.is))

pub returns-in-183 : goal.returns-in-183
returns-in-183 c =
    let a = c.args in
    (one_byte (a.op * 256 + a.second) 183 (omega (arith, c.in-183.is, c.ranges.second.fits)) refl, omega (arith, c.in-183.is), omega (arith, c.in-183.is))

pub returns-in-5 : goal.returns-in-5
returns-in-5 c =
    let a = c.args in
    let key = c.in-178.is in
    (two_bytes (a.op * 256 + a.second) (omega (arith, key, c.ranges.second.fits)) ∙ omega (arith, key, c.in-5.is), omega (arith, key), omega (arith, key))

pub returns-in-8 : goal.returns-in-8
returns-in-8 c =
    let a = c.args in
    let key = c.in-178.is in
    (two_bytes (a.op * 256 + a.second) (omega (arith, key, c.ranges.second.fits)) ∙ omega (arith, key, c.in-8.is), omega (arith, key), omega (arith, key))

pub returns-in-9 : goal.returns-in-9
returns-in-9 c =
    let a = c.args in
    let key = c.in-178.is in
    (two_bytes (a.op * 256 + a.second) (omega (arith, key, c.ranges.second.fits)) ∙ omega (arith, key, c.in-9.is), omega (arith, key), omega (arith, key))
