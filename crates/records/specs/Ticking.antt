-- The interval timer's fields in a record.
use Rattle.std.specs.Prelude.{ℕ, List, Option, Some, None}
use Rattle.machine.specs.Record.{with_interval}
use Rattle.records.specs.declared.Ticks.{Ticks}

-- the record with these fields, where the timer is active
abbrev pub with_ticks : Option Ticks → List ℕ → List ℕ
with_ticks (Some t) r = with_interval t.request t.residue r
with_ticks None r = r
