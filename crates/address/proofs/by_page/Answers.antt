-- `address::by_page` meets its contract.
use native.Mathlib.Omega.{arith}
use Rattle.machine.specs.Walk.{walk_page}
use Rattle.machine.proofs.Tests.{tests}
use Rattle.address.specs.Locating.{failure_in, page_in}
use Rattle.address.proofs.Located.{frame_whole}
use Prim.Native.Nat.{◌/◌, ◌%◌}
use mathlib.Core.Path.{sym, ◌∙◌}
use Rattle.std.proofs.lemmas.Bool.{true≢false}
use borrow.Author.Tests.{eq-eqb}
use Rattle.address.proofs.by_page.Goals as goal

pub returns-then-word-eq1 : goal.returns-then-word-eq1
unfolding walk_page page_in failure_in
returns-then-word-eq1 c = λ a. rw c.excepted.ensures (search tests)

pub returns-then-page_malformed : goal.returns-then-page_malformed
unfolding walk_page page_in failure_in
returns-then-page_malformed c = λ a. rw c.excepted-then-page_malformed.ensures (search tests)

pub returns-else-page_malformed : goal.returns-else-page_malformed
unfolding walk_page page_in
returns-else-page_malformed c = λ a. rw (frame_whole c.args.word (omega arith) (λ e. true≢false (rw (eq-eqb (c.args.word / 2147483648 % 2) 1 e) at (sym c.page_malformed.ensures ∙ c.if-page_malformed.false)))) (search tests)
