-- `storage::segment_found` meets its contract.
use native.Mathlib.Nat.{div-one}
use Rattle.machine.proofs.Tests.{tests}
use Rattle.storage.specs.Steps.{read_through, table_leads, segment_leads}
use Rattle.storage.specs.Found.{leads_on}
use Rattle.storage.proofs.Held.{held_read}
use Rattle.storage.proofs.Found.{table-read}
use Rattle.storage.proofs.segment_found.Goals as goal

pub returns-then-designation-index : goal.returns-then-designation-index
unfolding read_through table_leads segment_leads leads_on
returns-then-designation-index c = λ a small own. rw own (search (tests, div-one))

pub returns : goal.returns
returns c =
    λ a small own.
    rw (table-read c.args.designation c.args.storage.now a (rw own (search (tests, div-one))), own)
    (rw (c.word_or.ensures, held_read) at (c.segment_by_word.ensures a))
