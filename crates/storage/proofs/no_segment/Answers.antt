-- `storage::no_segment` meets its contract.
use native.Mathlib.Omega.{arith}
use Rattle.storage.proofs.no_segment.Goals as goal

pub returns : goal.returns
returns c = λ d s a small own. absurd (omega arith)
