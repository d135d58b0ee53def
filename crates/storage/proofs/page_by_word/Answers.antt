-- `storage::page_by_word` meets its contract.
use native.Mathlib.Omega.{arith}
use Rattle.machine.specs.Walk.{walk_page}
use Rattle.machine.specs.Host.{in_storage}
use Rattle.machine.proofs.Tests.{tests}
use Rattle.storage.specs.Found.{page_found}
use Rattle.storage.specs.Steps.{inside}
use Rattle.storage.proofs.Held.{page_held}
use Rattle.storage.proofs.page_by_word.Goals as goal
use Rattle.storage.proofs.page_by_word.Goals.{else-at-storage-via-then-at-storage+else-word-storage, else-at-storage-via-else-at-storage}

pub returns-then-word-eq1 : goal.returns-then-word-eq1
unfolding walk_page
returns-then-word-eq1 c = λ a. rw c.stop_at.ensures (page_held a _ 17 (omega arith) _ (inside c.args.storage.now c.args.at) (search tests))

pub returns-then-page_malformed : goal.returns-then-page_malformed
unfolding walk_page
returns-then-page_malformed c = λ a. rw c.stop_at-then-page_malformed.ensures (page_held a _ 18 (omega arith) _ (inside c.args.storage.now c.args.at) (search tests))

pub returns-then-word-storage : goal.returns-then-word-storage
unfolding walk_page in_storage page_found
returns-then-word-storage c = λ a. search tests

pub returns-else-at-storage : goal.returns-else-at-storage
unfolding walk_page in_storage page_found
returns-else-at-storage c = λ a. elim c.else-at-storage.branch [ else-at-storage-via-then-at-storage+else-word-storage w ↦ search tests | else-at-storage-via-else-at-storage w ↦ search tests ]
