-- `single::operand` meets its contract.
use Prim.Native.Nat.{◌+◌, ◌*◌, ◌/◌, ◌%◌}
use native.Mathlib.Omega.{arith}
use mathlib.Core.Path.{◌≡◌, ap, ◌∙◌}
use Rattle.machine.specs.Words.{byte_at, half_at}
use Rattle.lap.specs.Stepping.{cut, part_of}
use Rattle.single.proofs.operand.Goals as goal

pub returns : goal.returns
returns c =
    let a = c.args in
    let one = c.wide in
    let two = c.wide-2 in
    let (base, less) = c.part.ensures in
    let (cuts, small) = c.wrapped.ensures in
    let further : a.at + 3 ≡ a.at + 2 + 1 = omega arith in
    let half : one.result * 256 + two.result ≡ half_at a.storage.now (a.at + 2) =
    λ i. one.ensures.0 i * 256 + (two.ensures.0 ∙ ap (byte_at a.storage.now) further) i in
    (cuts ∙ (λ i. cut a.long ((base ∙ ap (λ n. part_of a.words.now (n / 4096)) half) i + half i % 4096)), small)
