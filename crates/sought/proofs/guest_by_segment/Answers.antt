-- `sought::guest_by_segment` meets its contract.
use Prim.Native.Nat.{◌/◌}
use native.Mathlib.Nat.{div-one}
use native.Mathlib.Omega.{arith}
use mathlib.Core.Path.{sym, ap, subst, ◌∙◌}
use borrow.Author.Tests.{le-ltb}
use Rattle.machine.specs.Words.{bits}
use Rattle.machine.specs.Walk.{page_index, page_entry_at}
use Rattle.machine.specs.Host.{host, view}
use Rattle.machine.specs.Addresses.{guest_entry}
use Rattle.machine.specs.Sought.{way_of_page, way_of_segment, guest_sought_by}
use Rattle.machine.proofs.Tests.{tests}
use Rattle.faults.proofs.Ways.{segment-onward}
use Rattle.sought.specs.Failing.{ExceptsBy}
use Rattle.address.proofs.Located.{sees_bound, inside_extent, outside_extent}
use Rattle.sought.proofs.Failing.{page_by_code, page_clear, valid_by_code, entry_past, entry_excepts}
use Rattle.sought.proofs.guest_by_segment.Goals as goal

pub returns-then-word-eq1 : goal.returns-then-word-eq1
unfolding way_of_segment guest_sought_by
returns-then-word-eq1 c =
    λ g x sees d s k by. rw (c.sought_at.ensures, valid_by_code (guest_entry g (view g (host d s k))) c.args.at (page_index c.args.a) c.args.word c.args.code by c.requires) (search (tests, div-one))

pub returns-then-word-page : goal.returns-then-word-page
unfolding way_of_segment guest_sought_by
returns-then-word-page c =
    λ g x sees d s k by. rw (c.sought_at-then-word-page.ensures, valid_by_code (guest_entry g (view g (host d s k))) c.args.at (page_index c.args.a) c.args.word c.args.code by c.requires) (search (tests, div-one))

pub returns-then-code-ne-ADDRESSING : goal.returns-then-code-ne-ADDRESSING
returns-then-code-ne-ADDRESSING c =
    λ g x sees d s k by.
    let onward = segment-onward (guest_entry g (view g (host d s k))) c.args.at (page_index c.args.a) c.args.word (valid_by_code (guest_entry g (view g (host d s k))) c.args.at (page_index c.args.a) c.args.word c.args.code by c.requires) (search (tests, div-one)) (search (tests, div-one)) in
    rw c.sought_at-then-code-ne-ADDRESSING.ensures
    (sym (ap guest_sought_by onward ∙ page_by_code (page_entry_at c.args.word (page_index c.args.a)) c.args.code (guest_entry g (view g (host d s k)) (page_entry_at c.args.word (page_index c.args.a))) (subst (λ w. ExceptsBy w c.args.code) onward by) c.if-code-ne-ADDRESSING.true))

pub returns-then-virtual_of-ge-STOPPED : goal.returns-then-virtual_of-ge-STOPPED
unfolding way_of_page guest_sought_by
returns-then-virtual_of-ge-STOPPED c =
    λ g x sees d s k by.
    let onward = segment-onward (guest_entry g (view g (host d s k))) c.args.at (page_index c.args.a) c.args.word (valid_by_code (guest_entry g (view g (host d s k))) c.args.at (page_index c.args.a) c.args.word c.args.code by c.requires) (search (tests, div-one)) (le-ltb (bits 32 28 31 c.args.word) (page_index c.args.a / 16) (omega (arith, c.if-word-page.false))) in
    let past = outside_extent g d s _ _ (sees_bound _ g x sees) (c.virtual_of.ensures g x sees) c.if-virtual_of-ge-STOPPED.true in
    rw c.sought_at-then-virtual_of-ge-STOPPED.ensures (sym (ap guest_sought_by onward ∙ ap (λ e. guest_sought_by (way_of_page (page_entry_at c.args.word (page_index c.args.a)) e)) (entry_past g d s k (page_entry_at c.args.word (page_index c.args.a)) past)))

pub returns : goal.returns
returns c =
    λ g x sees d s k by.
    let onward = segment-onward (guest_entry g (view g (host d s k))) c.args.at (page_index c.args.a) c.args.word (valid_by_code (guest_entry g (view g (host d s k))) c.args.at (page_index c.args.a) c.args.word c.args.code by c.requires) (search (tests, div-one)) (le-ltb (bits 32 28 31 c.args.word) (page_index c.args.a / 16) (omega (arith, c.if-word-page.false))) in
    let below = inside_extent g d s _ _ (sees_bound _ g x sees) (c.virtual_of.ensures g x sees) c.if-virtual_of-ge-STOPPED.false in
    rw c.nowhere.ensures
    (sym (ap guest_sought_by onward
    ∙ page_clear (page_entry_at c.args.word (page_index c.args.a)) (guest_entry g (view g (host d s k)) (page_entry_at c.args.word (page_index c.args.a))) (subst (λ n. ExceptsBy (way_of_page (page_entry_at c.args.word (page_index c.args.a)) (guest_entry g (view g (host d s k)) (page_entry_at c.args.word (page_index c.args.a)))) n) c.if-code-ne-ADDRESSING.false (subst (λ w. ExceptsBy w c.args.code) onward by))
    λ f e guest. absurd (omega (arith, below, (entry_excepts g d s k (page_entry_at c.args.word (page_index c.args.a)) f e guest).0))))
