-- A halfword at an even address stands on one page.
use Prim.Native.Nat.{◌≤◌}
use native.Mathlib.Omega.{arith}
use borrow.Author.Tests.{le-leb}
use Rattle.operands.specs.Operands.{to_page_end, operand_of}
use Rattle.text.proofs.find_half.Goals as goal

pub returns : goal.returns
unfolding operand_of
returns c =
    let inside : 2 ≤ to_page_end c.args.at = omega (arith, c.requires.2) in
    rw (c.one_page.ensures, c.touch-place.ensures, le-leb _ _ inside)
