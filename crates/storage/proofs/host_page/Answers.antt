-- `storage::host_page` meets its contract.
use mathlib.Core.Path.{sym}
use Rattle.storage.proofs.host_page.Goals as goal

pub returns : goal.returns
returns c = rw c.page_of_found.ensures (sym (c.page_for.ensures _ c.segment_found-segment.ensures))
