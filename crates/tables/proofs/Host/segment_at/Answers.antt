-- `tables::Host::segment_at` meets its contract.
use Prim.Native.Nat.{◌+◌}
use native.Mathlib.Nat.{div-one}
use native.Mathlib.Omega.{arith}
use mathlib.Core.Path.{◌≡◌}
use mathlib.Core.Bool.{not, ◌&&◌}
use lib.Dec.{leb}
use lib.ListN.{length}
use Rattle.std.proofs.lemmas.Bool.Decides.{nat_tests}
use Rattle.machine.specs.Walk.{segment_entry_at, past_segment_table}
use Rattle.tables.proofs.Tabling.{segment_there}
use Rattle.tables.proofs.Host.segment_at.Goals as goal
use Rattle.tables.proofs.Host.segment_at.Goals.{then-index-self, else-index-self}

pub returns : goal.returns
returns c =
    let d = c.args.self.designation in
    let index = c.args.index in
    let tests : c.if-index-self.then_some ≡ (not (past_segment_table d index) && leb (segment_entry_at d index + 4) (length c.args.self.storage.now)) =
    elim c.if-index-self.branch [ then-index-self w ↦ rw div-one (grind (arith, nat_tests)) | else-index-self w ↦ rw div-one (grind (arith, nat_tests)) ] in
    rw (c.then_some.ensures, tests) (segment_there d c.args.self.storage.now index)
