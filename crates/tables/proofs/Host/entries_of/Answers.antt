-- `tables::Host::entries_of` meets its contract.
use native.Mathlib.Omega.{arith}
use borrow.Author.Tests.{le-ltb}
use mathlib.Core.Path.{◌≡◌, sym, ◌∙◌}
use Prim.Native.Nat.{◌+◌, ◌/◌}
use Rattle.tables.proofs.Tabling.{none_of_missed}
use Rattle.tables.proofs.Entries.{entries_there}
use Rattle.tables.proofs.Host.entries_of.Goals as goal

pub returns-in-Some : goal.returns-in-Some
returns-in-Some c =
    let span = c.args.span in
    let index : c.segment.result ≡ span.from / 256 = omega arith in
    let told = c.table_at.ensures.0 c.args.self.designation span.from span.to (omega arith) (omega arith) (rw index at c.in-Some.ensures) in
    rw c.as_chunks.ensures.front (entries_there c.args.self.designation c.args.self.storage.now span.from span.to _ _ told)

pub returns-in-None : goal.returns-in-None
returns-in-None c =
    record {
      few = omega arith;
      reach = λ k h. none_of_missed c.args.self.designation c.args.self.storage.now _ c.in-None.ensures (c.args.span.from + k) (omega arith) ∙ sym (le-ltb k 0 (omega arith));
      is = λ k h. absurd (omega arith);
    }
