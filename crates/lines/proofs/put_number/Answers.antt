-- `lines::put_number` meets its contract.
use native.Mathlib.Omega.{arith}
use mathlib.Core.List.{[], ◌∷◌, append_assoc}
use mathlib.Core.Path.{ap}
use lib.ListN.{length, length-append}
use Rattle.lines.specs.Line.{space}
use Rattle.lines.proofs.Lines.{decimal_lem}
use Rattle.lines.proofs.put_number.Goals as goal

pub returns : goal.returns
returns c =
    let line = c.args.line.now.bytes in
    let spaced = c.push.ensures.ascii (omega arith) in (
      rw (c.push_str.ensures.bytes, spaced, c.format.ensures.text, decimal_lem c.args.n c.ranges.n.fits, append_assoc line),
      omega (arith, c.push_str.ensures.len, c.format.ensures.fits, ap length spaced, length-append line (space ∷ [])),
    )
