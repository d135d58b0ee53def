-- `lap::unit` meets its contract.
use Rattle.std.proofs.Common.{◌+◌, ◌/◌, ◌<◌, not, ◌&&◌, get_or, sym, refl, ap, ◌∙◌, rules, eq-eqb, ne_eqb}
use Rattle.machine.specs.Words.{half_at}
use Rattle.machine.specs.Execute.{selected}
use Rattle.sums.specs.Summing.{code_in}
use Rattle.lap.specs.Stepping.{cut}
use Rattle.lap.proofs.Turning.{turned_lr, turned_ar, turned_sr, turned_bcr_stays, turned_bcr, turned_la, turned_bc_stays, turned_bc, turned_l, turned_st}
use Rattle.lap.proofs.unit.Goals as goal

pub returns-then-r2-eq0 : goal.returns-then-r2-eq0
returns-then-r2-eq0 c =
    let byte : get_or c.args.storage.now (c.args.at + 1) 0 < 256 = search rules in
    let half : half_at c.args.storage.now (c.args.at + 2) < 65536 = search rules in
    let turned = turned_bcr_stays c.args.storage.now c.args.kept.now c.requires.0 c.args.at c.args.sum c.args.words.now c.requires.3 c.args.trap c.args.long c.args.top c.args.target _ (get_or c.args.storage.now (c.args.at + 1) 0) refl refl byte half c.stepped-then-r2-eq0.result c.in-7.is (ap (λ b. not b && selected (get_or c.args.storage.now (c.args.at + 1) 0 / 16) (code_in c.args.sum)) (eq-eqb _ 0 c.if-r2-eq0.true)) c.stepped-then-r2-eq0.ensures in
    record { stepped = turned.0; storage_unchanged = turned.1.0; by_index = turned.1.1 }

pub returns-then-selects : goal.returns-then-selects
returns-then-selects c =
    let byte : get_or c.args.storage.now (c.args.at + 1) 0 < 256 = search rules in
    let half : half_at c.args.storage.now (c.args.at + 2) < 65536 = search rules in
    let turned = turned_bcr c.args.storage.now c.args.kept.now c.requires.0 c.args.at c.args.sum c.args.words.now c.requires.3 c.args.trap c.args.long c.args.top c.args.target _ (get_or c.args.storage.now (c.args.at + 1) 0) refl refl byte half c.branch_step.result c.in-7.is (ap (λ b. not b && selected (get_or c.args.storage.now (c.args.at + 1) 0 / 16) (code_in c.args.sum)) (ne_eqb _ 0 c.if-r2-eq0.false) ∙ sym c.selects.ensures ∙ c.if-selects.true) c.branch_step.ensures in
    record { stepped = turned.0; storage_unchanged = turned.1.0; by_index = turned.1.1 }

pub returns-else-selects : goal.returns-else-selects
returns-else-selects c =
    let byte : get_or c.args.storage.now (c.args.at + 1) 0 < 256 = search rules in
    let half : half_at c.args.storage.now (c.args.at + 2) < 65536 = search rules in
    let turned = turned_bcr_stays c.args.storage.now c.args.kept.now c.requires.0 c.args.at c.args.sum c.args.words.now c.requires.3 c.args.trap c.args.long c.args.top c.args.target _ (get_or c.args.storage.now (c.args.at + 1) 0) refl refl byte half c.stepped-in-7.result c.in-7.is (ap (λ b. not b && selected (get_or c.args.storage.now (c.args.at + 1) 0 / 16) (code_in c.args.sum)) (ne_eqb _ 0 c.if-r2-eq0.false) ∙ sym c.selects.ensures ∙ c.if-selects.false) c.stepped-in-7.ensures in
    record { stepped = turned.0; storage_unchanged = turned.1.0; by_index = turned.1.1 }

pub returns-then-selects-2 : goal.returns-then-selects-2
returns-then-selects-2 c =
    let byte : get_or c.args.storage.now (c.args.at + 1) 0 < 256 = search rules in
    let half : half_at c.args.storage.now (c.args.at + 2) < 65536 = search rules in
    let turned = turned_bc c.args.storage.now c.args.kept.now c.requires.0 c.args.at c.args.sum c.args.words.now c.requires.3 c.args.trap c.args.long c.args.top c.args.target _ (get_or c.args.storage.now (c.args.at + 1) 0) refl refl byte half c.branch_step-then-selects-2.result c.in-71.is (sym c.selects-in-71.ensures ∙ c.if-selects-2.true) (rw (← c.total-then-selects-2.ensures.0) c.total-then-selects-2.ensures.1) (rw (← c.total-then-selects-2.ensures.0) c.branch_step-then-selects-2.ensures) in
    record { stepped = turned.0; storage_unchanged = turned.1.0; by_index = turned.1.1 }

pub returns-else-selects-2 : goal.returns-else-selects-2
returns-else-selects-2 c =
    let byte : get_or c.args.storage.now (c.args.at + 1) 0 < 256 = search rules in
    let half : half_at c.args.storage.now (c.args.at + 2) < 65536 = search rules in
    let turned = turned_bc_stays c.args.storage.now c.args.kept.now c.requires.0 c.args.at c.args.sum c.args.words.now c.requires.3 c.args.trap c.args.long c.args.top c.args.target _ (get_or c.args.storage.now (c.args.at + 1) 0) refl refl byte half c.stepped-in-71.result c.in-71.is (sym c.selects-in-71.ensures ∙ c.if-selects-2.false) c.stepped-in-71.ensures in
    record { stepped = turned.0; storage_unchanged = turned.1.0; by_index = turned.1.1 }

pub returns-in-24 : goal.returns-in-24
returns-in-24 c =
    let byte : get_or c.args.storage.now (c.args.at + 1) 0 < 256 = search rules in
    let half : half_at c.args.storage.now (c.args.at + 2) < 65536 = search rules in
    let turned = turned_lr c.args.storage.now c.args.kept.now c.requires.0 c.args.at c.args.sum c.args.words.now c.requires.3 c.args.trap c.args.long c.args.top c.args.target _ (get_or c.args.storage.now (c.args.at + 1) 0) refl refl byte half c.stepped.result c.in-24.is c.stepped.ensures in
    record { stepped = turned.0; storage_unchanged = turned.1.0; by_index = turned.1.1 }

pub returns-in-26 : goal.returns-in-26
returns-in-26 c =
    let byte : get_or c.args.storage.now (c.args.at + 1) 0 < 256 = search rules in
    let half : half_at c.args.storage.now (c.args.at + 2) < 65536 = search rules in
    let turned = turned_ar c.args.storage.now c.args.kept.now c.requires.0 c.args.at c.args.sum c.args.words.now c.requires.3 c.args.trap c.args.long c.args.top c.args.target _ (get_or c.args.storage.now (c.args.at + 1) 0) refl refl byte half c.sum_step.result c.in-26.is c.add.result c.add.ensures c.sum_step.ensures in
    record { stepped = turned.0; storage_unchanged = turned.1.0; by_index = turned.1.1 }

pub returns-in-27 : goal.returns-in-27
returns-in-27 c =
    let byte : get_or c.args.storage.now (c.args.at + 1) 0 < 256 = search rules in
    let half : half_at c.args.storage.now (c.args.at + 2) < 65536 = search rules in
    let turned = turned_sr c.args.storage.now c.args.kept.now c.requires.0 c.args.at c.args.sum c.args.words.now c.requires.3 c.args.trap c.args.long c.args.top c.args.target _ (get_or c.args.storage.now (c.args.at + 1) 0) refl refl byte half c.sum_step-in-27.result c.in-27.is c.subtract.result c.subtract.ensures c.sum_step-in-27.ensures in
    record { stepped = turned.0; storage_unchanged = turned.1.0; by_index = turned.1.1 }

pub returns-in-65 : goal.returns-in-65
returns-in-65 c =
    let byte : get_or c.args.storage.now (c.args.at + 1) 0 < 256 = search rules in
    let half : half_at c.args.storage.now (c.args.at + 2) < 65536 = search rules in
    let turned = turned_la c.args.storage.now c.args.kept.now c.requires.0 c.args.at c.args.sum c.args.words.now c.requires.3 c.args.trap c.args.long c.args.top c.args.target _ (get_or c.args.storage.now (c.args.at + 1) 0) refl refl byte half c.stepped-in-65.result c.in-65.is c.wrapped.result (c.wrapped.ensures.0 ∙ ap (cut c.args.long) c.total.ensures.0) c.stepped-in-65.ensures in
    record { stepped = turned.0; storage_unchanged = turned.1.0; by_index = turned.1.1 }

pub returns-in-88 : goal.returns-in-88
returns-in-88 c =
    let byte : get_or c.args.storage.now (c.args.at + 1) 0 < 256 = search rules in
    let half : half_at c.args.storage.now (c.args.at + 2) < 65536 = search rules in
    let turned = turned_l c.args.storage.now c.args.kept.now c.requires.0 c.args.at c.args.sum c.args.words.now c.requires.3 c.args.trap c.args.long c.args.top c.args.target _ (get_or c.args.storage.now (c.args.at + 1) 0) refl refl byte half c.load_step.result c.wrapped-in-88.result c.wrapped-in-88.ensures.1 (c.wrapped-in-88.ensures.0 ∙ ap (cut c.args.long) c.total-in-88.ensures.0) c.in-88.is c.load_step.ensures.1 c.load_step.ensures.0 in
    record { stepped = turned.0; storage_unchanged = turned.1.0; by_index = turned.1.1 }

pub returns-in-80 : goal.returns-in-80
returns-in-80 c =
    let byte : get_or c.args.storage.now (c.args.at + 1) 0 < 256 = search rules in
    let half : half_at c.args.storage.now (c.args.at + 2) < 65536 = search rules in
    let turned = turned_st c.args.storage.now c.args.kept.now c.requires.0 c.args.at c.args.sum c.args.words.now c.requires.3 c.args.trap c.args.long c.args.top c.args.target _ (get_or c.args.storage.now (c.args.at + 1) 0) refl refl byte half c.store_step.result c.wrapped-in-80.result c.wrapped-in-80.ensures.1 (c.wrapped-in-80.ensures.0 ∙ ap (cut c.args.long) c.total-in-80.ensures.0) c.in-80.is c.store_step.ensures.2 _ refl _ c.store_step.ensures.0 c.store_step.ensures.1 in
    record { stepped = turned.0; storage_unchanged = turned.1.0; by_index = turned.1.1 }
