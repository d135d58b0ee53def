-- `address::settle` meets its contract.
use native.Mathlib.Omega.{arith}
use mathlib.Core.Path.{sym, ◌∙◌}
use Rattle.machine.specs.Failures.{walk_exception}
use Rattle.address.specs.Touching.{settled}
use Rattle.address.specs.Locating.{fault_number, failure_in, place_in}
use Rattle.address.proofs.Located.{failed_place, failure_fault, found-place}
use Rattle.machine.specs.Walk.{frame_of, page_protected}
use mathlib.Core.Path.{◌≡◌}
use mathlib.Core.Bool.{true, false, ◌&&◌}
use Rattle.std.proofs.lemmas.Bool.Decides.{nat_tests}
use Rattle.address.proofs.settle.Goals as goal

pub returns-then-guest_protects : goal.returns-then-guest_protects
unfolding settled place_in failure_in walk_exception
returns-then-guest_protects c = λ g x absolute a key is. rw (sym (c.guest_protects.ensures x key) ∙ c.if-guest_protects.true, c.excepted.ensures)

pub returns-then-page-eq1 : goal.returns-then-page-eq1
unfolding settled
returns-then-page-eq1 c =
    λ g x absolute a key is.
    let v = c.args.v in
    let bound : (c.args.store && page_protected c.args.page) ≡ true = grind (arith, nat_tests) in
    rw (sym (c.guest_protects.ensures x key) ∙ c.if-guest_protects.false, bound, c.faulted.ensures, failed_place a (fault_number v 4) (omega arith), failure_fault a v 4 (omega arith), is)

pub returns : goal.returns
unfolding settled
returns c =
    λ g x absolute a key is.
    let free : (c.args.store && page_protected c.args.page) ≡ false = grind (arith, nat_tests) in
    rw (sym (c.guest_protects.ensures x key) ∙ c.if-guest_protects.false, free) (found-place g absolute (frame_of c.args.page) c.args.v a is (omega arith))
