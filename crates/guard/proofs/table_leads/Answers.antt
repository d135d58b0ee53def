-- `guard::table_leads` meets its contract.
use mathlib.Core.Path.{sym}
use Rattle.guard.proofs.table_leads.Goals as goal

pub returns : goal.returns
returns c = rw c.place_of.ensures (sym c.by_table.ensures)
