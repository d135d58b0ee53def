-- `storage::segment_by_word` meets its contract.
use native.Mathlib.Omega.{arith}
use native.Mathlib.Nat.{div-one}
use Rattle.machine.proofs.Tests.{tests}
use Rattle.storage.specs.Steps.{segment_leads, inside}
use Rattle.storage.specs.Found.{leads_on}
use Rattle.storage.proofs.Held.{segment_held}
use Rattle.storage.proofs.segment_by_word.Goals as goal

pub returns-then-word-eq1 : goal.returns-then-word-eq1
unfolding segment_leads
returns-then-word-eq1 c = λ a. rw c.stop_at.ensures (segment_held a _ 16 (omega arith) (inside c.args.storage.now c.args.at) (search (tests, div-one)))

pub returns-then-word-eq1-2 : goal.returns-then-word-eq1-2
unfolding segment_leads
returns-then-word-eq1-2 c = λ a. rw c.stop_at-then-word-eq1-2.ensures (segment_held a _ 18 (omega arith) (inside c.args.storage.now c.args.at) (search (tests, div-one)))

pub returns-then-at-storage : goal.returns-then-at-storage
unfolding segment_leads leads_on
returns-then-at-storage c = λ a. search (tests, div-one)

pub returns-else-at-storage : goal.returns-else-at-storage
unfolding segment_leads leads_on
returns-else-at-storage c = λ a. search (tests, div-one)
