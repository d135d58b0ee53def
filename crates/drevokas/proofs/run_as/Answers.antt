-- `drevokas::run_as` meets its contract.
use native.Mathlib.Omega.{arith}
use borrow.Author.Rules.{rules}
use Prim.Native.Nat.{ℕ, ◌≤◌}
use mathlib.Core.Path.{◌≡◌, refl, ap, sym, ◌∙◌}
use mathlib.Core.Bool.{Bool, true, false, cond, false≢true}
use mathlib.Core.List.{List}
use lib.ListN.{length}
use Rattle.std.specs.Prelude.{Option, Some, None, IfSome, MatchOption}
use Rattle.std.specs.Option.{UnwrapsOrElse}
use Rattle.std.specs.Bool.{then_some}
use Rattle.std.proofs.lemmas.Result.{err_from_is_err_and}
use Rattle.machine.specs.declared.Guest.{Guest}
use Rattle.machine.specs.declared.Numbers.{Numbers}
use Rattle.machine.specs.Record.{guest_of, request_of, residue_of, with_cpu, with_results, with_interval}
use Rattle.machine.specs.Entry.{entry_good}
use Rattle.machine.specs.Refusals.{run_verdict, Verdict, no_refusal}
use Rattle.machine.proofs.Verdicts.{accepted_time}
use Rattle.storage.proofs.Entering.{entered}
use Rattle.records.specs.declared.Ticks.{Ticks}
use Rattle.records.specs.Ticking.{with_ticks}
use Rattle.drevokas.specs.Giving.{Starts}
use Rattle.drevokas.proofs.Running.{run_length, run_long, run-keys, start_architecture, timed_length, residue-range, gives_run, gives_validity, gives_as, gives_refused}
use Rattle.drevokas.proofs.run_as.Goals as goal

-- what is known once the guest runs
starts : (n : Numbers) (r storage keys : List ℕ) (v : Verdict) → v ≡ run_verdict n r storage keys → v ≡ no_refusal → (g : Guest) → g ≡ guest_of r
    → (good : Bool) → good ≡ entry_good g → good ≡ true → Starts n r storage keys g
starts n r storage keys v verdict accepted g here good test passed = record { accepted = sym verdict ∙ accepted; here = here; good = sym test ∙ passed }

-- the timer's fields that the run begins with, of the record where the timer is active
held : (r : List ℕ) (timed : Bool) (o : Option Ticks) (t : Ticks) (P : Ticks → Type 0) → ((u : Ticks) → P u → u.residue ≡ 0)
    → MatchOption o (timed ≡ false) (λ u. (timed ≡ true) × (u.request ≡ request_of r) × (u.residue ≡ residue_of r)) → UnwrapsOrElse o P t
    → (timed ≡ true → t.request ≡ request_of r) × (timed ≡ true → t.residue ≡ residue_of r) × (timed ≡ false → t.residue ≡ 0)
held r timed None t P none off is = (λ on. absurd (false≢true (sym off ∙ on)), λ on. absurd (false≢true (sym off ∙ on)), λ _. none t is)
held r timed (Some u) t P none (on, request, residue) is =
    (λ _. ap (λ v. v.request) is ∙ request, λ _. ap (λ v. v.residue) is ∙ residue, λ off. absurd (false≢true (sym off ∙ on)))

-- they are put back where it is active
put_back : (timed : Bool) (t : Ticks) (r : List ℕ) → with_ticks (then_some timed t) r ≡ cond timed (with_interval t.request t.residue r) r
put_back true t r = refl
put_back false t r = refl

has_room : (timed : Bool) (t : Ticks) (n : ℕ) → (timed ≡ true → 208 ≤ n) → IfSome (then_some timed t) (λ u. 208 ≤ n)
has_room true t n room = room refl
has_room false t n room = search rules

pub returns-in_err-v : goal.returns-in_err-v
returns-in_err-v c =
    let a = c.args in
    let p = err_from_is_err_and c.from_residual.result c.from_residual.ensures.1 in
    rw (p.1, p.2) (gives_as a.n _ _ _ a.v _ c.in_err-v.was _ (gives_refused a.n _ _ _ _))

pub guest_of-guest-requires : goal.guest_of-guest-requires
guest_of-guest-requires c = run_length _ _ _ _ (sym c.requires ∙ c.in_ok-v.was)

pub entry_good-requires : goal.entry_good-requires
entry_good-requires c = rw c.guest_of-guest.ensures (run_long _ _ _ _ (sym c.requires ∙ c.in_ok-v.was))

pub put_results-requires : goal.put_results-requires
put_results-requires c = run_length _ _ _ _ (sym c.requires ∙ c.in_ok-v.was)

pub returns-then-not-entry_good : goal.returns-then-not-entry_good
returns-then-not-entry_good c =
    let guest = c.guest_of-guest in
    let a = c.args in
    gives_as a.n _ _ _ a.v _ c.in_ok-v.was _
    (gives_validity a.n _ _ _ guest.result guest.ensures (sym c.entry_good.ensures ∙ c.if-not-entry_good.true) c.put_results.ensures)

pub cpu_of-start-requires : goal.cpu_of-start-requires
cpu_of-start-requires c = run_length _ _ _ _ (sym c.requires ∙ c.in_ok-v.was)

pub ticks_in-requires : goal.ticks_in-requires
ticks_in-requires c =
    let begins = starts _ _ _ _ _ c.requires c.in_ok-v.was _ c.guest_of-guest.ensures _ c.entry_good.ensures c.if-not-entry_good.false in
    λ on. let long = timed_length _ _ _ _ _ begins (sym c.active-timed.ensures ∙ on) in omega arith

pub run-ended-requires-clause-entered : goal.run-ended-requires-clause-entered
run-ended-requires-clause-entered c =
    let begins = starts _ _ _ _ _ c.requires c.in_ok-v.was _ c.guest_of-guest.ensures _ c.entry_good.ensures c.if-not-entry_good.false in
    (entered _ begins.good, run-keys _ _ _ _ begins.accepted, start_architecture _ _ _ _ _ begins _ c.cpu_of-start.ensures)

pub run-ended-requires-clause-time_le_most_time : goal.run-ended-requires-clause-time_le_most_time
run-ended-requires-clause-time_le_most_time c =
    let begins = starts _ _ _ _ _ c.requires c.in_ok-v.was _ c.guest_of-guest.ensures _ c.entry_good.ensures c.if-not-entry_good.false in
    let ticks = c.unwrap_or_default-ticks in
    let (_, residue, none) = held c.args.r.now c.active-timed.result c.ticks_in.result ticks.result _ (λ _ zero. zero.1) c.ticks_in.ensures ticks.ensures in
    (accepted_time _ _ _ _ begins.accepted, residue-range _ _ _ _ _ begins c.active-timed.result c.active-timed.ensures ticks.result.residue residue none)

pub put_cpu-requires : goal.put_cpu-requires
put_cpu-requires c = run_length _ _ _ _ (sym c.requires ∙ c.in_ok-v.was)

pub put_ticks-requires : goal.put_ticks-requires
put_ticks-requires c =
    let begins = starts _ _ _ _ _ c.requires c.in_ok-v.was _ c.guest_of-guest.ensures _ c.entry_good.ensures c.if-not-entry_good.false in
    rw c.then_some.ensures
    (has_room c.active-timed.result _ (length c.put_cpu.new.r)
    (λ on. let long = timed_length _ _ _ _ _ begins (sym c.active-timed.ensures ∙ on) in search rules))

pub put_results-requires-2 : goal.put_results-requires-2
put_results-requires-2 c = let long = run_length _ _ _ _ (sym c.requires ∙ c.in_ok-v.was) in search rules

pub returns : goal.returns
returns c =
    let begins = starts _ _ _ _ _ c.requires c.in_ok-v.was _ c.guest_of-guest.ensures _ c.entry_good.ensures c.if-not-entry_good.false in
    let ran = c.run-ended.result in
    let ticks = c.unwrap_or_default-ticks in
    let (request, residue, _) = held c.args.r.now c.active-timed.result c.ticks_in.result ticks.result _ (λ _ zero. zero.1) c.ticks_in.ensures ticks.ensures in
    let read = c.cpu_of-start in
    let a = c.args in
    gives_as a.n _ _ _ a.v _ c.in_ok-v.was _
    (gives_run a.n _ _ _ _ begins read.result ticks.result.request ticks.result.residue read.ensures
    (λ on. request (c.active-timed.ensures ∙ on)) (λ on. residue (c.active-timed.ensures ∙ on)) (λ i. search rules) ran
    (λ d own. c.run-ended.ensures a.n d refl refl own)
    (c.put_results-2.ensures
    ∙ ap (with_results _)
    (c.put_ticks.ensures ∙ (λ i. with_ticks (c.then_some.ensures i) (c.put_cpu.ensures i))
    ∙ put_back c.active-timed.result (record { request = ran.request; residue = ran.residue }) (with_cpu ran.cpu a.r.now)
    ∙ ap (λ b. cond b (with_interval ran.request ran.residue (with_cpu ran.cpu a.r.now)) (with_cpu ran.cpu a.r.now)) c.active-timed.ensures)))
