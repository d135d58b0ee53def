-- `run::run` meets its contract.
use Prim.Native.Nat.{◌+◌, ◌-◌, ◌^◌, ◌≤◌, ◌<◌}
use native.Mathlib.Omega.{arith}
use mathlib.Core.Path.{◌≡◌, refl, ap, ◌∙◌}
use mathlib.Core.Bool.{◌&&◌}
use lib.ListN.{length, get_or}
use mir.Syntax.{w32}
use mir.Val.{Fits}
use borrow.Author.Rules.{rules}
use Rattle.machine.specs.Interval.{active, pending}
use Rattle.remaining.specs.Remaining.{machine_at}
use Rattle.remaining.proofs.Remaining.{budget_ends, one_more, exit_ends}
use Rattle.remaining.proofs.Steps.{remains_start}
use Rattle.run.proofs.Ending.{ended_so}
use Rattle.run.proofs.Standing.{Stands, streak_on}
use Rattle.run.proofs.run.Statement.{statement}
use Rattle.run.proofs.run.Tie as tie

abbrev invariant-loop : tie.invariant-loop-units
invariant-loop storage₀ keys₀ designation guest clock time budget request residue active cpu₀ now₀ units₀ asked₀ rest₀ pace₀ storage keys cpu now units asked rest pace =
    Stands designation guest clock time budget cpu₀ request residue storage₀ keys₀ cpu asked rest now units storage keys
    × (units ≤ budget) × (length storage ≡ length storage₀) × (length keys ≡ length keys₀)

abbrev decreases-loop : tie.decreases-loop-units
decreases-loop storage₀ keys₀ designation guest clock time budget request residue active cpu₀ now₀ units₀ asked₀ rest₀ pace₀ storage keys cpu now units asked rest pace =
    budget - units

active-requires : tie.Need-active-active-requires invariant-loop decreases-loop
active-requires c κs = tt

loop-holds : tie.Need-loop-units-init invariant-loop decreases-loop
loop-holds c = (
  record {
    bounded = record {
      left = search rules;
      right = search rules;
      timer = search rules;
      control = record { long = search rules; small = λ i. let fits : Fits w32 (get_or c.args.start.control.words i 0) = search rules in fits.fits };
      general = record { long = search rules; small = λ i. let fits : Fits w32 (get_or c.args.start.general.words i 0) = search rules in fits.fits };
    };
    kind = c.requires.0.2;
    small = c.requires.1.1;
    remains = λ n d designated timed of. remains_start n _ _;
  },
  omega arith,
  refl,
  refl,
)

told : (p : tie.After-pace_after-pace invariant-loop decreases-loop) → p.requests-requested.result ≡ (active p.args.guest && pending p.loop-units.asked)
told p = p.requests-requested.ensures ∙ ap (λ b. b && pending p.loop-units.asked) p.active-active.ensures

stands : (p : tie.After-pace_after-pace invariant-loop decreases-loop)
    → Stands p.args.designation p.args.guest p.args.clock p.args.time p.args.budget p.args.start p.args.request
    p.args.residue p.args.storage.now p.args.keys.now p.after_streak-cpu.result p.loop-units.asked
    p.paced_streak-streak.result.residue p.paced_streak-streak.result.clock (p.loop-units.units + p.paced_streak-streak.result.units)
    p.paced_streak-streak.new.storage p.loop-units.keys
stands p = let streak = p.paced_streak-streak in
    let after = p.after_streak-cpu in
    streak_on p.loop-units.invariant.0 p.requests-requested.result (told p) streak.result streak.new.storage streak.ensures.1 after.result after.ensures

requests-requires : tie.Need-requests-requested-requires invariant-loop decreases-loop
requests-requires c κs = tt

sub-paced-streak : tie.Need-overflow_sub-budget invariant-loop decreases-loop
sub-paced-streak c = search rules

paced-streak-requires : tie.Need-paced_streak-streak-requires invariant-loop decreases-loop
paced-streak-requires c κs =
    let pre = c.requires in
    let inv = c.loop-units.invariant in
    (pre.0.0, omega (arith, pre.0.1, inv.2, inv.3), inv.0.bounded, inv.0.kind, c.active-active.ensures, inv.0.small, pre.1.0)

after-streak-requires : tie.Need-after_streak-cpu-requires invariant-loop decreases-loop
after-streak-requires c κs = tt

add-units : tie.Need-overflow_add-units invariant-loop decreases-loop
add-units c =
    let small : c.args.budget < 2 ^ 32 = search rules in
    record { fits = omega (arith, small, c.paced_streak-streak.ensures.0, c.loop-units-test.true) }

pace-after-requires : tie.Need-pace_after-pace-requires invariant-loop decreases-loop
pace-after-requires c κs = tt

unit-requires : tie.Need-unit-step-requires invariant-loop decreases-loop
unit-requires c κs =
    let pre = c.requires in
    let inv = c.loop-units.invariant in (
      (pre.0.0, omega (arith, pre.0.1, inv.2, inv.3, c.storage-1.given), (stands c.before.before.before).bounded, (stands c.before.before.before).kind),
      (c.active-active.ensures, told c.before.before.before, (stands c.before.before.before).small, pre.1.0),
    )

told-end : tie.Need-enum_told_at-1 invariant-loop decreases-loop
told-end c = search rules

same_length : tie.Need-shape_of-storage-in-Some invariant-loop decreases-loop
same_length c =
    omega (arith, c.loop-units.invariant.2, c.storage-1.given, c.storage-then-units-budget-1.given)

same-length-2 : tie.Need-shape_of-keys-in-Some invariant-loop decreases-loop
same-length-2 c =
    omega (arith, c.loop-units.invariant.3, c.keys-1.given)

returns : tie.Need-returns-in-Some invariant-loop decreases-loop
returns c =
    let a = c.args in
    let loop = c.loop-units in
    let r = c.paced_streak-streak.result in
    let step = c.unit-step in
    λ n d designated timed of.
    ended_so
    (exit_ends n a.budget _ (loop.units + r.units)
    (machine_at a.guest d c.after_streak-cpu.result loop.asked r.residue r.clock c.paced_streak-streak.new.storage loop.keys)
    ((stands c.before.before.before.before.before.before.before.before.before.before).remains n d designated timed of) c.if-units-budget.true (step.ensures.exit c.in-Some.end c.in-Some.is n d designated timed of))
    refl

told-no-end : tie.Need-enum_told_at-in_default invariant-loop decreases-loop
told-no-end c = search rules

add-units-2 : tie.Need-overflow_add-units-then-units-budget invariant-loop decreases-loop
add-units-2 c =
    record { fits = omega (arith, c.ranges.budget.fits, c.if-units-budget.true) }

loop-less : tie.Need-loop-units-smaller-then-units-budget invariant-loop decreases-loop
loop-less c = omega (arith, c.if-units-budget.true)

loop-again : tie.Need-loop-units-preserved-then-units-budget invariant-loop decreases-loop
loop-again c =
    let a = c.args in
    let loop = c.loop-units in
    let r = c.paced_streak-streak.result in
    let done = c.unit-step in
    let step = done.ensures in
    let on = c.in_default.is in (
      record {
        bounded = step.bounded on;
        kind = step.architecture on ∙ (stands c.before.before.before.before.before.before.before.before.before.before).kind;
        small = step.small on;
        remains = λ n d designated timed of.
            one_more n a.budget _ (loop.units + r.units)
            (machine_at a.guest d c.after_streak-cpu.result loop.asked r.residue r.clock c.paced_streak-streak.new.storage loop.keys)
            ((stands c.before.before.before.before.before.before.before.before.before.before).remains n d designated timed of) c.if-units-budget.true (step.on on n d designated timed of);
      },
      omega (arith, c.if-units-budget.true),
      omega (arith, loop.invariant.2, c.storage-1.given, c.storage-then-units-budget-1.given),
      omega (arith, loop.invariant.3, c.keys-1.given),
    )

loop-less-2 : tie.Need-loop-units-smaller invariant-loop decreases-loop
loop-less-2 c = omega (arith, c.if-units-budget.false, c.loop-units-test.true)

loop-again-2 : tie.Need-loop-units-preserved invariant-loop decreases-loop
loop-again-2 c = (
  stands c.before,
  omega (arith, c.paced_streak-streak.ensures.0, c.loop-units-test.true),
  omega (arith, c.loop-units.invariant.2, c.storage-1.given),
  c.loop-units.invariant.3,
)

same-length-3 : tie.Need-shape_of-storage invariant-loop decreases-loop
same-length-3 c = search rules

same-length-4 : tie.Need-shape_of-keys invariant-loop decreases-loop
same-length-4 c = search rules

returns-2 : tie.Need-returns invariant-loop decreases-loop
returns-2 c =
    let a = c.args in
    let loop = c.loop-units in
    λ n d designated timed of.
    ended_so
    (budget_ends n a.budget _ loop.units (machine_at a.guest d loop.cpu loop.asked loop.rest loop.now loop.storage loop.keys)
    (loop.invariant.0.remains n d designated timed of) loop.invariant.1 c.loop-units-test.false)
    refl

pub run_spec : {M : Type 1} → statement M
run_spec =
    tie.close
    (tie.spec
    invariant-loop
    decreases-loop
    active-requires
    loop-holds
    requests-requires
    sub-paced-streak
    paced-streak-requires
    after-streak-requires
    add-units
    pace-after-requires
    unit-requires
    told-end
    same_length
    same-length-2
    returns
    told-no-end
    add-units-2
    loop-less
    loop-again
    loop-less-2
    loop-again-2
    same-length-3
    same-length-4
    returns-2)
