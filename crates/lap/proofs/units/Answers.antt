-- `lap::units` meets its contract.
use Rattle.std.proofs.Common.{◌≡◌, ℕ, suc, ◌+◌, ◌-◌, ◌≤◌, sym, refl, ap, ◌∙◌, subst, arith, w32, Fits, rules}
use Rattle.execute.proofs.Ending.{small_code}
use Rattle.psws.specs.Psws.{state, psw_at}
use Rattle.sums.specs.Summing.{code_in}
use Rattle.lap.specs.Stepping.{cut}
use Rattle.lap.proofs.Lapping.{Reached, standing, begun, nowhere_gone, landed, turned, jumped_to, onward, stands_here, no_target, target_found, cut_standing, jump_landed, jump_cut, laps_so, cut_cut, lapped_as}
use Rattle.lap.proofs.units.Goals.{then-s-eq-DONE, else-s-eq-DONE+else-s-ne-JUMPED+in-Some-land}
use Rattle.lap.proofs.units.Goals as goal

-- something is wanted of a turn that is neither done nor jumped
wanted : (want : ℕ) → (want ≡ 0 → ⊥) → (want ≡ 1 → ⊥) → 2 ≤ want
wanted want some other = omega (arith, some, other)

pub sum_for-sum-requires : goal.sum_for-sum-requires
sum_for-sum-requires c =
    let psw = c.args.psw in
    omega (arith, c.condition_code.ensures (state psw) refl, small_code (state psw))

pub returns-in_default : goal.returns-in_default
returns-in_default c =
    let psw = c.args.psw in
    let left : Fits w32 psw.left = search rules in
    let right : Fits w32 psw.right = search rules in
    let e = c.elsewhere.ensures in (
      omega (arith, e.0),
      e.3,
      omega (arith, e.1, c.wrapped-address.ensures.1),
      e.4,
      c.requires.1,
      laps_so c.args.kept.now c.is_long-long.result c.overflow_enabled-trap.result c.wrapped-address.result c.sum_for-sum.result c.args.words.now c.args.storage.now _ _ 0 psw left.fits right.fits
          (c.overflow_enabled-trap.ensures (state psw) refl) (c.is_long-long.ensures (state psw) refl)
          (sym (c.condition_code.ensures (state psw) refl) ∙ sym c.sum_for-sum.ensures)
          (c.wrapped-address.ensures.0 ∙ ap (cut c.is_long-long.result) (c.instruction_address.ensures (state psw) refl)) c.elsewhere.result e.0 _ _ e.1 e.2
          (nowhere_gone c.args.kept.now c.is_long-long.result c.overflow_enabled-trap.result c.wrapped-address.result c.sum_for-sum.result c.args.words.now c.args.storage.now _ refl),
    )

pub overflow_add-last : goal.overflow_add-last
overflow_add-last c =
    let long = c.is_long-long.result in
    let uncut = ap (cut long) c.wrapped-address.ensures.0 ∙ cut_cut long _ ∙ sym c.wrapped-address.ensures.0 in
    let found = c.land.ensures c.in-Some.first c.in-Some.is in
    let text = (landed c.args.kept.now c.is_long-long.result c.overflow_enabled-trap.result c.wrapped-address.result c.sum_for-sum.result c.args.words.now c.args.storage.now c.in-Some.first c.wrapped-address.result c.wrapped-address.ensures.1 uncut found).0 in
    record { fits = omega (arith, (stands_here c.args.kept.now c.is_long-long.result c.overflow_enabled-trap.result c.wrapped-address.result c.sum_for-sum.result c.args.words.now c.args.storage.now c.requires.0 c.in-Some.first.page c.in-Some.first.base text).small) }

pub loop-n-init : goal.loop-n-init
loop-n-init c =
    let long = c.is_long-long.result in
    let uncut = ap (cut long) c.wrapped-address.ensures.0 ∙ cut_cut long _ ∙ sym c.wrapped-address.ensures.0 in
    let found = c.land.ensures c.in-Some.first c.in-Some.is in
    let first = c.in-Some.first in
    let none : 0 ≡ c.args.most - c.args.most = omega arith in
    let stood = landed c.args.kept.now c.is_long-long.result c.overflow_enabled-trap.result c.wrapped-address.result c.sum_for-sum.result c.args.words.now c.args.storage.now first c.wrapped-address.result c.wrapped-address.ensures.1 uncut found in
    record {
      few = omega arith;
      length = refl;
      sixteen = c.requires.1;
      text = stood.0;
      place = stood.1;
      end = refl;
      aim = no_target c.args.kept.now c.is_long-long.result c.overflow_enabled-trap.result c.wrapped-address.result c.sum_for-sum.result c.args.words.now c.args.storage.now first.page first.base;
      reached = subst (λ u. Reached c.args.kept.now c.is_long-long.result c.overflow_enabled-trap.result c.wrapped-address.result c.sum_for-sum.result c.args.words.now c.args.storage.now u (standing first.page first.base first.at c.sum_for-sum.result) c.args.words.now c.args.storage.now) none
          (begun c.args.kept.now c.is_long-long.result c.overflow_enabled-trap.result c.wrapped-address.result c.sum_for-sum.result c.args.words.now c.args.storage.now first found);
    }

pub returns-then-at-base : goal.returns-then-at-base
returns-then-at-base c =
    let psw = c.args.psw in
    let left : Fits w32 psw.left = search rules in
    let right : Fits w32 psw.right = search rules in
    let (is, small) = c.ended.ensures in (
      rw is (omega (arith, c.loop-n.invariant.few)),
      rw is small,
      rw is c.wrapped-a.ensures.1,
      rw is (omega arith),
      c.loop-n.invariant.sixteen,
      laps_so c.args.kept.now c.is_long-long.result c.overflow_enabled-trap.result c.wrapped-address.result c.sum_for-sum.result c.args.words.now c.args.storage.now _ _ (c.args.most - c.loop-n.n) psw left.fits right.fits
          (c.overflow_enabled-trap.ensures (state psw) refl) (c.is_long-long.ensures (state psw) refl)
          (sym (c.condition_code.ensures (state psw) refl) ∙ sym c.sum_for-sum.ensures)
          (c.wrapped-address.ensures.0 ∙ ap (cut c.is_long-long.result) (c.instruction_address.ensures (state psw) refl)) c.ended.result (ap (λ r. r.units) is) _ c.loop-n.sum (ap (λ r. r.address) is ∙ c.wrapped-a.ensures.0) (ap (λ r. r.code) is)
          (cut_standing c.args.kept.now c.is_long-long.result c.overflow_enabled-trap.result c.wrapped-address.result c.sum_for-sum.result c.args.words.now c.args.storage.now _ _ _ _ _ _ _ c.loop-n.invariant.reached),
    )

pub returns-then-at-last : goal.returns-then-at-last
returns-then-at-last c =
    let psw = c.args.psw in
    let left : Fits w32 psw.left = search rules in
    let right : Fits w32 psw.right = search rules in
    let (is, small) = c.ended-then-at-last.ensures in (
      rw is (omega (arith, c.loop-n.invariant.few)),
      rw is small,
      rw is c.wrapped-a.ensures.1,
      rw is (omega arith),
      c.loop-n.invariant.sixteen,
      laps_so c.args.kept.now c.is_long-long.result c.overflow_enabled-trap.result c.wrapped-address.result c.sum_for-sum.result c.args.words.now c.args.storage.now _ _ (c.args.most - c.loop-n.n) psw left.fits right.fits
          (c.overflow_enabled-trap.ensures (state psw) refl) (c.is_long-long.ensures (state psw) refl)
          (sym (c.condition_code.ensures (state psw) refl) ∙ sym c.sum_for-sum.ensures)
          (c.wrapped-address.ensures.0 ∙ ap (cut c.is_long-long.result) (c.instruction_address.ensures (state psw) refl)) c.ended-then-at-last.result (ap (λ r. r.units) is) _ c.loop-n.sum (ap (λ r. r.address) is ∙ c.wrapped-a.ensures.0) (ap (λ r. r.code) is)
          (cut_standing c.args.kept.now c.is_long-long.result c.overflow_enabled-trap.result c.wrapped-address.result c.sum_for-sum.result c.args.words.now c.args.storage.now _ _ _ _ _ _ _ c.loop-n.invariant.reached),
    )

pub returns-then-s-ne-JUMPED : goal.returns-then-s-ne-JUMPED
returns-then-s-ne-JUMPED c =
    let psw = c.args.psw in
    let left : Fits w32 psw.left = search rules in
    let right : Fits w32 psw.right = search rules in
    let block = stands_here c.args.kept.now c.is_long-long.result c.overflow_enabled-trap.result c.wrapped-address.result c.sum_for-sum.result c.args.words.now c.args.storage.now c.requires.0 c.loop-n.page c.loop-n.base c.loop-n.invariant.text in
    let (same, low) = c.unit-s.ensures.storage_unchanged (wanted _ c.if-s-eq-DONE.false c.if-s-ne-JUMPED.true) in
    let (is, small) = c.ended-then-s-ne-JUMPED.ensures in (
      rw is (omega (arith, c.loop-n.invariant.few)),
      rw is small,
      rw is (omega (arith, c.loop-n.invariant.text.low, c.loop-n.invariant.place.from, c.loop-n.invariant.end, c.if-at-last.false, block.aligned)),
      rw is low,
      c.loop-n.invariant.sixteen,
      laps_so c.args.kept.now c.is_long-long.result c.overflow_enabled-trap.result c.wrapped-address.result c.sum_for-sum.result c.args.words.now c.args.storage.now _ _ (c.args.most - c.loop-n.n) psw left.fits right.fits
          (c.overflow_enabled-trap.ensures (state psw) refl) (c.is_long-long.ensures (state psw) refl)
          (sym (c.condition_code.ensures (state psw) refl) ∙ sym c.sum_for-sum.ensures)
          (c.wrapped-address.ensures.0 ∙ ap (cut c.is_long-long.result) (c.instruction_address.ensures (state psw) refl)) c.ended-then-s-ne-JUMPED.result (ap (λ r. r.units) is) (c.loop-n.page + (c.loop-n.at - c.loop-n.base)) c.loop-n.sum (ap (λ r. r.address) is) (ap (λ r. r.code) is)
          (subst (Reached c.args.kept.now c.is_long-long.result c.overflow_enabled-trap.result c.wrapped-address.result c.sum_for-sum.result c.args.words.now c.args.storage.now (c.args.most - c.loop-n.n) (standing c.loop-n.page c.loop-n.base c.loop-n.at c.loop-n.sum) c.loop-n.words) (sym same) c.loop-n.invariant.reached),
    )

pub returns-in_default-land : goal.returns-in_default-land
returns-in_default-land c =
    let psw = c.args.psw in
    let left : Fits w32 psw.left = search rules in
    let right : Fits w32 psw.right = search rules in
    let u = c.unit-s in
    let fits : c.loop-n.at + 4 ≤ c.loop-n.base + 2048 = omega (arith, c.loop-n.invariant.end, c.if-at-last.false) in
    let jumps : u.result.want ≡ 1 = c.if-s-ne-JUMPED.false in
    let stepped = u.ensures.stepped (omega (arith, jumps)) in
    let e = c.elsewhere-in_default-land.ensures in
    let count : suc (c.args.most - c.loop-n.n) ≡ c.args.most - c.loop-n.n + 1 = omega arith in (
      omega (arith, e.0, c.loop-n.invariant.few, c.loop-n-test.true),
      e.3,
      omega (arith, e.1, c.wrapped-a-else-s-eq-DONE.ensures.1),
      e.4,
      c.loop-n.invariant.sixteen,
      laps_so c.args.kept.now c.is_long-long.result c.overflow_enabled-trap.result c.wrapped-address.result c.sum_for-sum.result c.args.words.now c.args.storage.now _ _ (suc (c.args.most - c.loop-n.n)) psw left.fits right.fits
          (c.overflow_enabled-trap.ensures (state psw) refl) (c.is_long-long.ensures (state psw) refl)
          (sym (c.condition_code.ensures (state psw) refl) ∙ sym c.sum_for-sum.ensures)
          (c.wrapped-address.ensures.0 ∙ ap (cut c.is_long-long.result) (c.instruction_address.ensures (state psw) refl)) c.elsewhere-in_default-land.result (e.0 ∙ sym count) _ u.result.sum e.1 e.2
          (jump_cut c.args.kept.now c.is_long-long.result c.overflow_enabled-trap.result c.wrapped-address.result c.sum_for-sum.result c.args.words.now c.args.storage.now c.loop-n.words u.new.storage (suc (c.args.most - c.loop-n.n)) c.wrapped-a-else-s-eq-DONE.result u.result.a u.result.sum (sym c.wrapped-a-else-s-eq-DONE.ensures.0)
          (jumped_to c.args.kept.now c.is_long-long.result c.overflow_enabled-trap.result c.wrapped-address.result c.sum_for-sum.result c.args.words.now c.args.storage.now c.requires.0 c.loop-n.storage c.loop-n.words c.loop-n.invariant.length c.loop-n.invariant.sixteen c.loop-n.sum c.loop-n.page c.loop-n.base c.loop-n.at c.loop-n.top c.loop-n.target (c.args.most - c.loop-n.n) c.loop-n.invariant.text c.loop-n.invariant.place fits c.loop-n.invariant.aim c.loop-n.invariant.reached u.result u.new.storage stepped u.ensures.by_index jumps)),
    )

pub overflow_add-last-else-s-eq-DONE : goal.overflow_add-last-else-s-eq-DONE
overflow_add-last-else-s-eq-DONE c =
    let long = c.is_long-long.result in
    let a = c.wrapped-a-else-s-eq-DONE in
    let next = c.in-Some-land.next in
    let found = c.land-else-s-eq-DONE.ensures next c.in-Some-land.is in
    let text = (landed c.args.kept.now c.is_long-long.result c.overflow_enabled-trap.result c.wrapped-address.result c.sum_for-sum.result c.args.words.now c.args.storage.now next a.result a.ensures.1 (ap (cut long) a.ensures.0 ∙ cut_cut long _ ∙ sym a.ensures.0) found).0 in
    record { fits = omega (arith, (stands_here c.args.kept.now c.is_long-long.result c.overflow_enabled-trap.result c.wrapped-address.result c.sum_for-sum.result c.args.words.now c.args.storage.now c.requires.0 next.page next.base text).small) }

pub loop-n-preserved : goal.loop-n-preserved
loop-n-preserved c =
    let long = c.is_long-long.result in
    let u = c.unit-s in
    let fits : c.loop-n.at + 4 ≤ c.loop-n.base + 2048 = omega (arith, c.loop-n.invariant.end, c.if-at-last.false) in
    let count : suc (c.args.most - c.loop-n.n) ≡ c.args.most - (c.loop-n.n - 1) = omega (arith, c.loop-n.invariant.few, c.loop-n-test.true) in
    elim c.if-s-eq-DONE.branch [
      | then-s-eq-DONE w ↦
          let stepped = u.ensures.stepped (omega (arith, w.if-s-eq-DONE.true)) in
          lapped_as c.args.kept.now c.is_long-long.result c.overflow_enabled-trap.result c.wrapped-address.result c.sum_for-sum.result c.args.words.now c.args.storage.now _ _ _ _ _ _ _ _ _ _ _ _ _ _ _ _ _ _ _ w.words-is w.sum-is w.page-is w.base-is w.last-is w.at-is w.top-is w.target-is
          (record {
            few = omega (arith, c.loop-n.invariant.few);
            length = u.auto.storage ∙ c.loop-n.invariant.length;
            sixteen = w.set_register.ensures.1;
            text = c.loop-n.invariant.text;
            place = onward c.args.kept.now c.is_long-long.result c.overflow_enabled-trap.result c.wrapped-address.result c.sum_for-sum.result c.args.words.now c.args.storage.now c.requires.0 c.loop-n.storage c.loop-n.words c.loop-n.invariant.length c.loop-n.invariant.sixteen c.loop-n.sum c.loop-n.page c.loop-n.base c.loop-n.at c.loop-n.top c.loop-n.target (c.args.most - c.loop-n.n) c.loop-n.invariant.text c.loop-n.invariant.place fits c.loop-n.invariant.aim c.loop-n.invariant.reached u.result u.new.storage stepped u.ensures.by_index w.if-s-eq-DONE.true;
            end = c.loop-n.invariant.end;
            aim = c.loop-n.invariant.aim;
            reached = subst (λ n. Reached c.args.kept.now c.is_long-long.result c.overflow_enabled-trap.result c.wrapped-address.result c.sum_for-sum.result c.args.words.now c.args.storage.now n (standing c.loop-n.page c.loop-n.base u.result.at u.result.sum) w.set_register.new.words u.new.storage) count
                (subst (λ ws. Reached c.args.kept.now c.is_long-long.result c.overflow_enabled-trap.result c.wrapped-address.result c.sum_for-sum.result c.args.words.now c.args.storage.now (suc (c.args.most - c.loop-n.n)) (standing c.loop-n.page c.loop-n.base u.result.at u.result.sum) ws u.new.storage) (sym w.set_register.ensures.0)
                (turned c.args.kept.now c.is_long-long.result c.overflow_enabled-trap.result c.wrapped-address.result c.sum_for-sum.result c.args.words.now c.args.storage.now c.requires.0 c.loop-n.storage c.loop-n.words c.loop-n.invariant.length c.loop-n.invariant.sixteen c.loop-n.sum c.loop-n.page c.loop-n.base c.loop-n.at c.loop-n.top c.loop-n.target (c.args.most - c.loop-n.n) c.loop-n.invariant.text c.loop-n.invariant.place fits c.loop-n.invariant.aim c.loop-n.invariant.reached u.result u.new.storage stepped u.ensures.by_index w.if-s-eq-DONE.true));
          })
      | else-s-eq-DONE+else-s-ne-JUMPED+in-Some-land w ↦
          let jumps : u.result.want ≡ 1 = w.if-s-ne-JUMPED.false in
          let stepped = u.ensures.stepped (omega (arith, jumps)) in
          let next = w.in-Some-land.next in
          let a = w.wrapped-a-else-s-eq-DONE in
          let found = w.land-else-s-eq-DONE.ensures next w.in-Some-land.is in
          let cuts = sym a.ensures.0 in
          let (text, place) = landed c.args.kept.now c.is_long-long.result c.overflow_enabled-trap.result c.wrapped-address.result c.sum_for-sum.result c.args.words.now c.args.storage.now next a.result a.ensures.1 (ap (cut long) a.ensures.0 ∙ cut_cut long _ ∙ cuts) found in
          lapped_as c.args.kept.now c.is_long-long.result c.overflow_enabled-trap.result c.wrapped-address.result c.sum_for-sum.result c.args.words.now c.args.storage.now _ _ _ _ _ _ _ _ _ _ _ _ _ _ _ _ _ _ _ w.words-is w.sum-is w.page-is w.base-is w.last-is w.at-is w.top-is w.target-is
          (record {
            few = omega (arith, c.loop-n.invariant.few);
            length = u.auto.storage ∙ c.loop-n.invariant.length;
            sixteen = c.loop-n.invariant.sixteen;
            text = text;
            place = place;
            end = refl;
            aim = target_found c.args.kept.now c.is_long-long.result c.overflow_enabled-trap.result c.wrapped-address.result c.sum_for-sum.result c.args.words.now c.args.storage.now next a.result u.result.a cuts found;
            reached = subst (λ n. Reached c.args.kept.now c.is_long-long.result c.overflow_enabled-trap.result c.wrapped-address.result c.sum_for-sum.result c.args.words.now c.args.storage.now n (standing next.page next.base next.at c.loop-n.sum) c.loop-n.words u.new.storage) count
                (jump_landed c.args.kept.now c.is_long-long.result c.overflow_enabled-trap.result c.wrapped-address.result c.sum_for-sum.result c.args.words.now c.args.storage.now c.loop-n.words u.new.storage (suc (c.args.most - c.loop-n.n)) next a.result u.result.a c.loop-n.sum cuts found
                (subst (λ s. Reached c.args.kept.now c.is_long-long.result c.overflow_enabled-trap.result c.wrapped-address.result c.sum_for-sum.result c.args.words.now c.args.storage.now (suc (c.args.most - c.loop-n.n)) (λ p. psw_at p u.result.a (code_in s)) c.loop-n.words u.new.storage) (stepped.stays jumps).0
                (jumped_to c.args.kept.now c.is_long-long.result c.overflow_enabled-trap.result c.wrapped-address.result c.sum_for-sum.result c.args.words.now c.args.storage.now c.requires.0 c.loop-n.storage c.loop-n.words c.loop-n.invariant.length c.loop-n.invariant.sixteen c.loop-n.sum c.loop-n.page c.loop-n.base c.loop-n.at c.loop-n.top c.loop-n.target (c.args.most - c.loop-n.n) c.loop-n.invariant.text c.loop-n.invariant.place fits c.loop-n.invariant.aim c.loop-n.invariant.reached u.result u.new.storage stepped u.ensures.by_index jumps)));
          })
    ]

pub returns : goal.returns
returns c =
    let psw = c.args.psw in
    let left : Fits w32 psw.left = search rules in
    let right : Fits w32 psw.right = search rules in
    let all : c.args.most - c.loop-n.n ≡ c.args.most = omega (arith, c.loop-n-test.false) in
    let (is, small) = c.ended-2.ensures in (
      rw is (omega arith),
      rw is small,
      rw is c.wrapped.ensures.1,
      rw is (omega arith),
      c.loop-n.invariant.sixteen,
      laps_so c.args.kept.now c.is_long-long.result c.overflow_enabled-trap.result c.wrapped-address.result c.sum_for-sum.result c.args.words.now c.args.storage.now _ _ (c.args.most - c.loop-n.n) psw left.fits right.fits
          (c.overflow_enabled-trap.ensures (state psw) refl) (c.is_long-long.ensures (state psw) refl)
          (sym (c.condition_code.ensures (state psw) refl) ∙ sym c.sum_for-sum.ensures)
          (c.wrapped-address.ensures.0 ∙ ap (cut c.is_long-long.result) (c.instruction_address.ensures (state psw) refl)) c.ended-2.result (ap (λ r. r.units) is ∙ sym all) _ c.loop-n.sum (ap (λ r. r.address) is ∙ c.wrapped.ensures.0) (ap (λ r. r.code) is)
          (cut_standing c.args.kept.now c.is_long-long.result c.overflow_enabled-trap.result c.wrapped-address.result c.sum_for-sum.result c.args.words.now c.args.storage.now _ _ _ _ _ _ _ c.loop-n.invariant.reached),
    )
