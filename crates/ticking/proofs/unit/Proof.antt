-- `ticking::unit` meets its contract.
use Rattle.std.specs.Prelude.{None, Some, Option, is_some}
use native.Mathlib.Omega.{arith}
use mathlib.Core.Path.{◌≡◌, ap, sym, ◌∙◌}
use mathlib.Core.Bool.{true, false, ◌&&◌, false≢true}
use borrow.Author.Rules.{rules}
use Rattle.machine.specs.declared.End.{End}
use Rattle.machine.specs.declared.End.TheVariants.{BudgetUsed}
use Rattle.machine.specs.declared.Numbers.{Numbers}
use Rattle.machine.specs.Interval.{residue_after}
use Rattle.machine.specs.Time.{clock_after, charged}
use Rattle.machine.specs.Run.{goes, ends}
use Rattle.machine.specs.Host.{host, view}
use Rattle.machine.specs.Units.{unit}
use Rattle.interruptions.specs.After.{left_by}
use Rattle.unit.specs.Foretelling.{Comes}
use Rattle.charging.specs.Ending.{is_completed, of_xa}
use Rattle.charging.specs.Ticking.{is_shut}
use Rattle.charging.proofs.Dues.{reaches}
use Rattle.charging.proofs.States.{charged_mode}
use Rattle.remaining.specs.Remaining.{machine_at}
use Rattle.ticking.proofs.Whole.{Begun, begun_at, comes_at, goes_to, stops_to, faults_to}
use Rattle.ticking.proofs.unit.Statement.{statement}
use Rattle.ticking.proofs.unit.Tie as tie

-- an end is told, or none is

some-none : {e : End} → Some e ≡ None → ⊥
some-none is = false≢true (sym (ap is_some is))

end_in : Option End → End
end_in None = BudgetUsed
end_in (Some e) = e

same_end : {e f : End} → Some e ≡ Some f → e ≡ f
unfolding end_in
same_end is = ap end_in is

begun : (u : tie.After-undone) → (n : Numbers) → n.designation ≡ u.args.designation → n.time ≡ u.args.time
    → Begun n.designation n.time u.args.guest u.args.request u.args.residue u.args.storage.now u.find_due-due.result
    u.args.requested
begun u n designated at-time = let a = u.args in
    begun_at designated at-time a.guest a.request a.residue a.storage.now u.find_due-due.result a.requested
    (record { found = u.find_due-due.ensures; told = u.requires.1.1 })

comes : (u : tie.After-undone) → (n : Numbers) → n.designation ≡ u.args.designation
    → Comes (is_shut u.find_due-due.result) (host n.designation u.args.storage.now u.args.keys.now) u.args.guest u.args.start
    (unit u.args.guest u.args.clock u.args.requested
    (view u.args.guest (host n.designation u.args.storage.now u.args.keys.now)) u.args.start)
    u.unit-done.result u.unit-done.new.storage u.unit-done.new.keys
comes u n designated = let a = u.args in
    let done = u.unit-done in
    comes_at designated a.guest a.start a.clock a.storage.now a.keys.now u.find_due-due.result a.requested done.result done.new.storage done.new.keys
    u.is_shut-shut.ensures done.ensures

find-due-requires : tie.Need-find_due-due-requires
find-due-requires c κs = search rules

is-shut-requires : tie.Need-is_shut-shut-requires
is-shut-requires c κs = search rules

unit-requires : tie.Need-unit-done-requires
unit-requires c κs = search rules

undone-requires : tie.Need-undone-requires
undone-requires c κs = search rules

fault-end-requires : tie.Need-fault_end-requires
fault-end-requires c κs = search rules

same_length : tie.Need-shape_of-storage-then-undone
same_length c = search rules

same-length-2 : tie.Need-shape_of-keys-then-undone
same-length-2 c = search rules

returns : tie.Need-returns-then-undone
returns c =
    let a = c.args in
    let pre = c.requires in
    let done = c.unit-done in
    let due = c.find_due-due.result in
    let seen : (is_shut due && is_completed done.result.event) ≡ true = sym c.undone.ensures ∙ c.if-undone.true in
    record {
      bounded = λ on. absurd (some-none on);
      architecture = λ on. absurd (some-none on);
      small = λ on. absurd (some-none on);
      on = λ on. absurd (some-none on);
      exit = λ e is n d designated at-time of.
          faults_to n a.guest d of a.start pre.0.2 pre.0.3 a.request a.residue pre.1.2 a.clock a.storage.now a.keys.now due a.requested
          (begun c.before.before n designated at-time) done.result done.new.storage done.new.keys (comes c.before.before n designated) seen
          ∙ ap (λ e. ends e (machine_at a.guest d a.start a.request a.residue a.clock done.new.storage done.new.keys)) (sym c.fault_end.ensures ∙ same_end is);
    }

state-after-requires : tie.Need-state_after-left-requires
state-after-requires c κs = search rules

completed-requires : tie.Need-completed-requires
completed-requires c κs = search rules

tick-requires : tie.Need-tick-ticked-requires
tick-requires c κs =
    let a = c.args in
    let pre = c.requires in (
      pre.1.2,
      pre.1.3,
      reaches a.designation a.guest a.storage.now c.unit-done.new.storage a.residue a.time c.find_due-due.result c.find_due-due.ensures
          c.storage-1.given,
    )

charged-requires : tie.Need-charged-requires
charged-requires c κs = search rules

clock-after-requires : tie.Need-clock_after-requires
clock-after-requires c κs = search rules

same-length-3 : tie.Need-shape_of-storage-then-completed
same-length-3 c =
    omega (arith, c.storage-1.given, c.storage-then-completed-1.given)

same-length-4 : tie.Need-shape_of-keys-then-completed
same-length-4 c = search rules

returns-2 : tie.Need-returns-then-completed
returns-2 c =
    let charged' = c.charged in
    let tick = c.tick-ticked in
    let state = c.state_after-left in
    let a = c.args in
    let pre = c.requires in
    let done = c.unit-done in
    let due = c.find_due-due.result in
    let seen : (is_shut due && is_completed done.result.event) ≡ false = sym c.undone.ensures ∙ c.if-undone.false in
    let whole : is_completed done.result.event ≡ true = sym c.completed.ensures ∙ c.if-completed.true in
    record {
      bounded = λ _. charged'.ensures.1;
      architecture = λ _. ap (λ k. k.psw.system370) (charged'.ensures.0 ∙ ap (λ k. charged k a.time) state.ensures.0)
          ∙ (charged_mode a.start.psw.system370 (left_by a.start done.result) a.time).1;
      small = λ _. tick.ensures.0;
      on = λ _ n d designated at-time of.
          goes_to n a.guest d of a.start pre.0.2 pre.0.3 a.request a.residue pre.1.2 a.clock a.storage.now a.keys.now due a.requested
          (begun c.before.before.before.before.before.before.before.before.before.before n designated at-time) done.result done.new.storage done.new.keys (comes c.before.before.before.before.before.before.before.before.before.before n designated) seen charged'.result charged'.ensures.1 whole
          (ap of_xa (charged'.ensures.0 ∙ (λ i. charged (state.ensures.0 i) (sym at-time i))) ∙ (charged_mode a.start.psw.system370 (left_by a.start done.result) n.time).0)
          tick.result.request tick.result.residue tick.new.storage
          (λ on. ((tick.ensures.1 (pre.1.0 ∙ on)).0, (tick.ensures.1 (pre.1.0 ∙ on)).1 ∙ ap (residue_after a.residue) (sym at-time)))
          (λ off. tick.ensures.2 (pre.1.0 ∙ off))
          ∙ ap (λ t. goes (machine_at a.guest d charged'.result tick.result.request tick.result.residue t tick.new.storage done.new.keys))
          (ap (clock_after a.clock) at-time ∙ sym c.clock_after.ensures);
      exit = λ e off. absurd (some-none (sym off));
    }

end-of-requires : tie.Need-end_of-requires
end-of-requires c κs = search rules

behind-exit-requires : tie.Need-behind_exit-requires
behind-exit-requires c κs = search rules

same-length-5 : tie.Need-shape_of-storage
same-length-5 c = search rules

same-length-6 : tie.Need-shape_of-keys
same-length-6 c = search rules

returns-3 : tie.Need-returns
returns-3 c =
    let state = c.state_after-left in
    let a = c.args in
    let pre = c.requires in
    let done = c.unit-done in
    let due = c.find_due-due.result in
    let seen : (is_shut due && is_completed done.result.event) ≡ false = sym c.undone.ensures ∙ c.if-undone.false in
    let exits : is_completed done.result.event ≡ false = sym c.completed.ensures ∙ c.if-completed.false in
    record {
      bounded = λ on. absurd (some-none on);
      architecture = λ on. absurd (some-none on);
      small = λ on. absurd (some-none on);
      on = λ on. absurd (some-none on);
      exit = λ e is n d designated at-time of.
          stops_to n a.guest d of a.start pre.0.2 pre.0.3 a.request a.residue pre.1.2 a.clock a.storage.now a.keys.now due a.requested
          (begun c.before.before.before.before.before.before n designated at-time) done.result done.new.storage done.new.keys (comes c.before.before.before.before.before.before n designated) seen state.result state.ensures.1 exits
          (ap of_xa state.ensures.0) _ (λ on. c.behind_exit.ensures (pre.1.0 ∙ on))
          ∙ ap (λ e. ends e (machine_at a.guest d state.result c.behind_exit.result a.residue a.clock done.new.storage done.new.keys)) (sym c.end_of.ensures ∙ same_end is);
    }

pub unit_spec : {M : Type 1} → statement M
unit_spec =
    tie.close
    (tie.spec
    find-due-requires
    is-shut-requires
    unit-requires
    undone-requires
    fault-end-requires
    same_length
    same-length-2
    returns
    state-after-requires
    completed-requires
    tick-requires
    charged-requires
    clock-after-requires
    same-length-3
    same-length-4
    returns-2
    end-of-requires
    behind-exit-requires
    same-length-5
    same-length-6
    returns-3)
