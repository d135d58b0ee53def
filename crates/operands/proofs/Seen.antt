-- An operand is looked for by the PSW and the control registers alone.
-- Assumes nothing.
use Prim.Native.Nat.{ℕ, ◌+◌}
use mathlib.Core.Path.{◌≡◌}
use mathlib.Core.Bool.{Bool, cond}
use lib.Dec.{leb}
use Rattle.machine.specs.declared.Cpu.{Cpu}
use Rattle.machine.specs.declared.Guest.{Guest}
use Rattle.machine.specs.Psw.{wrap}
use Rattle.machine.specs.Host.{Host, view}
use Rattle.address.specs.Touching.{seen, touched_by}
use Rattle.address.proofs.Seen.{access-seen}
use Rattle.operands.specs.Operands.{in_one_page, in_two_pages, to_page_end, operand_of}

pub operand_seen : (g : Guest) (h : Host) (c : Cpu) (store : Bool) (a n : ℕ)
    → operand_of g h c store a n ≡ operand_of g h (seen c.psw c.control) store a n
unfolding operand_of wrap
operand_seen g h c store a n =
    λ i.
    cond (leb n (to_page_end a)) (in_one_page n (touched_by g h (access-seen g (view g h) c store a i)))
    (in_two_pages (to_page_end a) (touched_by g h (access-seen g (view g h) c store a i))
    (touched_by g h (access-seen g (view g h) c store (wrap c (a + to_page_end a)) i)))
