-- `streaks::run_streak` meets its contract.
use native.Mathlib.Omega.{arith}
use mathlib.Core.Path.{refl, sym, ap, ◌∙◌}
use lib.ListN.{get_or}
use Rattle.std.proofs.lemmas.Result.{IfOk-weaker, IfErr-weaker, IfErr-at_err}
use Rattle.turns.proofs.Rising.{residue_below}
use Rattle.single.proofs.Meeting.{calm_so}
use Rattle.streaks.proofs.Streaking.{course, Came, falls_stays, onward-start, onward_lap, onward_keeping, onward_passed, onward_idle}
use Rattle.streaks.proofs.run_streak.Goals as goal

pub loop-s-init : goal.loop-s-init
loop-s-init c =
    let a = c.args in
    let rising = c.rising-rising in
    let horizon = c.horizon-horizon in
    onward-start (course a.designation a.guest a.clock a.time a.budget a.start a.requested a.residue a.storage.now a.keys.now) c.requires.2 c.requires.5 c.ranges.clock.fits _ refl refl refl refl refl refl c.wrapped-text.ensures.0 (omega arith)
    (omega (arith, horizon.ensures.0, rising.ensures.0)) (horizon.ensures.2 a.start refl refl refl)
    (λ runs. residue_below a.residue a.time horizon.result rising.result horizon.ensures.0 (rising.ensures.1 (c.requires.4 ∙ runs)))
    horizon.ensures.1 _

pub lapped-s-requires-clause-units_bound : goal.lapped-s-requires-clause-units_bound
lapped-s-requires-clause-units_bound c =
    let s = c.loop-s.s in
    λ runs. residue_below s.residue c.args.time c.units-l.result.units s.most c.units-l.ensures.0 (c.loop-s.invariant.ahead.rising (sym c.requires.4 ∙ runs))

pub lapped-requires-clause-units_bound : goal.lapped-requires-clause-units_bound
lapped-requires-clause-units_bound c =
    let s = c.loop-s.s in
    λ runs. residue_below s.residue c.args.time c.units-l-in-Err-Lap.result.units s.most c.units-l-in-Err-Lap.ensures.0 (c.loop-s.invariant.ahead.rising (sym c.requires.4 ∙ runs))

pub passed-s-requires-clause-residue_lt_period : goal.passed-s-requires-clause-residue_lt_period
passed-s-requires-clause-residue_lt_period c =
    let s = c.loop-s.s in
    let on = c.loop-s.invariant in
    (on.paced.small, c.requires.6, λ runs. residue_below s.residue c.args.time 1 s.most c.loop-s-test.true (on.ahead.rising (sym c.requires.4 ∙ runs)))

pub passed-requires-clause-residue_lt_period : goal.passed-requires-clause-residue_lt_period
passed-requires-clause-residue_lt_period c =
    let s = c.loop-s.s in
    let on = c.loop-s.invariant in
    (on.paced.small, c.requires.6, λ runs. residue_below s.residue c.args.time 1 s.most c.loop-s-test.true (on.ahead.rising (sym c.requires.4 ∙ runs)))

pub passed-requires-in_default-clause-residue_lt_period : goal.passed-requires-in_default-clause-residue_lt_period
passed-requires-in_default-clause-residue_lt_period c =
    let s = c.loop-s.s in
    let on = c.loop-s.invariant in
    (on.paced.small, c.requires.6, λ runs. residue_below s.residue c.args.time 1 s.most c.loop-s-test.true (on.ahead.rising (sym c.requires.4 ∙ runs)))

pub loop-s-preserved-in-Lap : goal.loop-s-preserved-in-Lap
loop-s-preserved-in-Lap c =
    let a = c.args in
    let lap = c.units-l in
    onward_lap (course a.designation a.guest a.clock a.time a.budget a.start a.requested a.residue a.storage.now a.keys.now) c.requires.3 c.requires.4 c.loop-s.s _ c.loop-s.invariant c.loop-s-test.true lap.result _ _ lap.ensures c.lapped-s.result c.lapped-s.ensures

pub loop-s-smaller-in-Area : goal.loop-s-smaller-in-Area
loop-s-smaller-in-Area c =
    let s = c.loop-s.s in
    falls_stays c.args.budget s c.keep_turn-s.result (c.loop-s.invariant.few c.loop-s-test.true) c.keep_turn-s.ensures.stays

pub loop-s-preserved-in-Area : goal.loop-s-preserved-in-Area
loop-s-preserved-in-Area c =
    let a = c.args in
    let keep = c.keep_turn-s in
    onward_keeping (course a.designation a.guest a.clock a.time a.budget a.start a.requested a.residue a.storage.now a.keys.now) c.loop-s.s _ c.loop-s.invariant keep.result _ _ keep.ensures

pub loop-s-preserved-in-Denied : goal.loop-s-preserved-in-Denied
loop-s-preserved-in-Denied c =
    let a = c.args in
    let s = c.loop-s.s in
    let on = c.loop-s.invariant in
    let x = c.unit-r in
    let came : Came (course a.designation a.guest a.clock a.time a.budget a.start a.requested a.residue a.storage.now a.keys.now) s _ x.result _ _ = record {
      done = IfOk-weaker x.result _ _ (λ d (singles, calm). (singles s.clock, calm_so d.change (λ near. (near.0, near.1, refl)) calm)) x.ensures.singles;
      idle = IfErr-weaker x.result _ _ (λ w (bytes, below). (bytes, refl)) x.ensures.wants;
      sixteen = on.paced.bounded.control;
    } in
    onward_passed (course a.designation a.guest a.clock a.time a.budget a.start a.requested a.residue a.storage.now a.keys.now) c.requires.3 c.requires.4 s _ on c.loop-s-test.true x.result _ _ came c.passed-s.result _ _ c.passed-s.ensures refl refl

pub loop-s-preserved-in-Err-Lap : goal.loop-s-preserved-in-Err-Lap
loop-s-preserved-in-Err-Lap c =
    let a = c.args in
    let s = c.loop-s.s in
    let on = c.loop-s.invariant in
    let one = c.unit-r-in-Single in
    let idle = IfErr-at_err _ c.in-Err-Lap.is one.ensures.wants in
    let same = onward_idle (course a.designation a.guest a.clock a.time a.budget a.start a.requested a.residue a.storage.now a.keys.now) s on idle.0 idle.1 in
    let lap = c.units-l-in-Err-Lap in
    let lapped = c.lapped in
    onward_lap (course a.designation a.guest a.clock a.time a.budget a.start a.requested a.residue a.storage.now a.keys.now) c.requires.3 c.requires.4 s _ same c.loop-s-test.true lap.result _ _ lap.ensures lapped.result lapped.ensures

pub loop-s-preserved-in-Err-Tests : goal.loop-s-preserved-in-Err-Tests
loop-s-preserved-in-Err-Tests c =
    let a = c.args in
    let s = c.loop-s.s in
    let on = c.loop-s.invariant in
    let one = c.unit-r-in-Single in
    let idle = IfErr-at_err _ c.in-Err-Tests.is one.ensures.wants in
    let same = onward_idle (course a.designation a.guest a.clock a.time a.budget a.start a.requested a.residue a.storage.now a.keys.now) s on idle.0 idle.1 in
    let x = c.tested-x in
    let came : Came (course a.designation a.guest a.clock a.time a.budget a.start a.requested a.residue a.storage.now a.keys.now) s _ x.result _ _ = record {
      done = IfOk-weaker x.result _ _ (λ d (singles, calm). (singles s.clock one.new.control a.designation a.keys.now, calm_so d.change (λ near. (near.0, near.1, refl)) calm)) x.ensures.singles;
      idle = IfErr-weaker x.result _ _ (λ w (bytes, below). (bytes, refl)) x.ensures.wants;
      sixteen = one.ensures.sixteen;
    } in
    onward_passed (course a.designation a.guest a.clock a.time a.budget a.start a.requested a.residue a.storage.now a.keys.now) c.requires.3 c.requires.4 s _ same c.loop-s-test.true x.result _ _ came c.passed.result _ _ c.passed.ensures (ap (λ k. get_or k 0 0) (sym idle.1)) (ap (λ k. get_or k 1 0) (sym idle.1))

pub loop-s-preserved : goal.loop-s-preserved
loop-s-preserved c =
    let a = c.args in
    let s = c.loop-s.s in
    let on = c.loop-s.invariant in
    let one = c.unit-r-in-Single in
    let came : Came (course a.designation a.guest a.clock a.time a.budget a.start a.requested a.residue a.storage.now a.keys.now) s _ one.result _ _ = record {
      done = IfOk-weaker one.result _ _ (λ d (singles, calm). (singles a.designation a.keys.now, calm_so d.change (λ near. near (on.ahead.wrapped c.loop-s-test.true)) calm)) one.ensures.singles;
      idle = IfErr-weaker one.result _ _ (λ w (bytes, registers, below). (bytes, registers)) one.ensures.wants;
      sixteen = one.ensures.sixteen;
    } in
    onward_passed (course a.designation a.guest a.clock a.time a.budget a.start a.requested a.residue a.storage.now a.keys.now) c.requires.3 c.requires.4 s _ on c.loop-s-test.true one.result _ _ came c.passed-in_default.result _ _ c.passed-in_default.ensures refl refl
