-- `storage::page_for` meets its contract.
use native.Mathlib.Nat.{div-one}
use native.Mathlib.Omega.{arith}
use Rattle.machine.specs.Walk.{walk_page}
use Rattle.machine.specs.Host.{in_storage}
use Rattle.machine.proofs.Tests.{tests}
use Rattle.storage.specs.Found.{leads_on, page_found}
use Rattle.storage.specs.Steps.{read_through}
use Rattle.storage.proofs.Held.{held_read}
use Rattle.storage.proofs.Found.{page_served, segment-read}
use Rattle.storage.proofs.page_for.Goals as goal

pub returns-then-found-ge-STOPPED : goal.returns-then-found-ge-STOPPED
unfolding leads_on read_through walk_page in_storage page_found
returns-then-found-ge-STOPPED c = λ d serves. rw (page_served d c.args.storage.now c.args.a c.args.found (omega arith) serves) (search tests)

pub returns-then-segment-index : goal.returns-then-segment-index
unfolding leads_on read_through walk_page in_storage page_found
returns-then-segment-index c = λ d serves. rw (page_served d c.args.storage.now c.args.a c.args.found (omega arith) serves) (search (tests, div-one))

pub returns : goal.returns
returns c =
    λ d serves.
    rw (
      page_served d c.args.storage.now c.args.a c.args.found (omega arith) serves,
      segment-read c.args.storage.now c.args.a c.args.found (omega arith) (search (tests, div-one)),
    )
    (rw (c.word_or.ensures, held_read) at (c.page_by_word.ensures c.args.a))
