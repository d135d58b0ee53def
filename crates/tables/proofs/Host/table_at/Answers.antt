-- `tables::Host::table_at` meets its contract.
use Prim.Native.Nat.{◌+◌, ◌*◌, ◌/◌, ◌≤◌, ◌<◌, ◌-◌}
use native.Mathlib.Omega.{arith}
use mathlib.Core.Path.{refl}
use mathlib.Core.Logic.{inl, inr}
use Rattle.machine.proofs.Tests.{tests}
use Rattle.tables.proofs.Tabling.{no_table, table-named}
use Rattle.tables.proofs.Host.table_at.Goals as goal
use Rattle.tables.proofs.Host.table_at.Goals.{then-entry-eq1-via-then-entry-eq1, then-entry-eq1-via-else-entry-eq1+then-entry-eq1-2, then-entry-eq1-via-else-entry-eq1+else-entry-eq1-2+then-self-base}

pub returns-then-entry-eq1 : goal.returns-then-entry-eq1
returns-then-entry-eq1 c =
    let span = c.args.span in
    let s = c.args.self.storage.now in (
      λ d from to same long there.
          let some : from < to = omega (arith, long, span.some) in
          let one : to ≤ from / 256 * 256 + 256 = omega (arith, same, long, span.some, span.one_segment) in
          no_table d s from to c.args.at there some one _ _ c.word_at-entry.ensures refl
          (elim c.then-entry-eq1.branch [
            | then-entry-eq1-via-then-entry-eq1 w ↦ inl (search tests)
            | then-entry-eq1-via-else-entry-eq1+then-entry-eq1-2 w ↦ inr (inl (search tests))
            | then-entry-eq1-via-else-entry-eq1+else-entry-eq1-2+then-self-base w ↦ inr (inr (omega arith))
          ]),
      record { count = 0; whole = refl; few = omega (arith, span.some); fits = omega arith },
    )

pub returns : goal.returns
returns c =
    let span = c.args.span in
    let s = c.args.self.storage.now in (
      λ d from to same long there.
          let some : from < to = omega (arith, long, span.some) in
          let one : to ≤ from / 256 * 256 + 256 = omega (arith, same, long, span.some, span.one_segment) in
          table-named d s from to c.args.at there some one _ _ c.word_at-entry.ensures refl
          (search tests) (search tests) (omega arith) c.min-limit.result _ _ (omega arith) (omega (arith, same)) (omega (arith, same, long)),
      record { count = c.min-end.result - c.min-first.result; whole = omega arith; few = omega (arith, span.some); fits = omega arith },
    )
