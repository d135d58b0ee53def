-- `guard::name_tables` meets its contract.
use Rattle.std.specs.Prelude.{Err}
use mathlib.Core.Path.{refl, sym, ap, ◌∙◌}
use borrow.Author.Tests.{eq-eqb, ne_eqb}
use Rattle.machine.specs.Addresses.{format_good}
use Rattle.address.specs.Touching.{seen}
use Rattle.address.proofs.Touches.{aligned_table_leads, aligned_segment_leads}
use Rattle.guard.proofs.Guarded.{real_off, real_malformed, real_walked}
use Rattle.guard.proofs.name_tables.Goals as goal

pub returns-then-not-dat_on : goal.returns-then-not-dat_on
returns-then-not-dat_on c =
    let x = seen c.args.psw c.args.control in
    let others = real_off _ c.args.guest c.args.designation c.args.storage.now x c.args.a (sym (c.dat_on.ensures x refl) ∙ c.if-not-dat_on.true) in record { wider = λ frame named. named; by_index = others.0; by_index_2 = others.1 }

pub returns-then-cr0-ne22 : goal.returns-then-cr0-ne22
unfolding format_good
returns-then-cr0-ne22 c =
    let x = seen c.args.psw c.args.control in
    let found =
    real_malformed _ c.args.guest c.args.designation c.args.storage.now x c.args.a
    (sym (c.dat_on.ensures x refl) ∙ c.if-not-dat_on.false)
    (ne_eqb _ _ c.if-cr0-ne22.true)
    in
    record { wider = λ frame named. named; by_index = found.0; by_index_2 = λ k. ap Err c.exception_of.ensures ∙ found.1 k }

pub name_through-segment-requires : goal.name_through-segment-requires
name_through-segment-requires c = (c.requires, rw c.table_leads.ensures (aligned_table_leads _ _ _))

pub name_through-page-requires : goal.name_through-page-requires
name_through-page-requires c =
    (c.requires, rw c.segment_leads.ensures (aligned_segment_leads _ _ _))

pub returns : goal.returns
unfolding format_good
returns c =
    let x = seen c.args.psw c.args.control in
    let first = c.name_through-segment.ensures in
    let second = c.name_through-page.ensures in let others = real_walked _ c.args.guest c.args.designation c.args.storage.now x c.args.a
    (sym (c.dat_on.ensures x refl) ∙ c.if-not-dat_on.false)
    (eq-eqb _ _ c.if-cr0-ne22.false)
    _ _ _ _ _
    c.table_leads.ensures
    first.by_index_2
    c.segment_leads.ensures
    second.by_index_2
    c.page_leads.ensures
    _
    second.wider
    first.by_index
    second.by_index in record { wider = λ frame named. second.wider frame (first.wider frame named); by_index = others.0; by_index_2 = others.1 }
