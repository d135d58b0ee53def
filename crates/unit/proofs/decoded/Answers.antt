-- `unit::decoded` meets its contract: each arm does what the tests come to.
use Prim.Native.Nat.{ℕ, ◌<◌}
use mathlib.Core.Path.{◌≡◌, ap, sym, subst, ◌∙◌}
use mathlib.Core.List.{List}
use Rattle.machine.specs.declared.Cpu.{Cpu}
use Rattle.machine.specs.declared.Guest.{Guest}
use Rattle.machine.specs.declared.Opcode.{Opcode}
use Rattle.machine.specs.Host.{Host, host}
use Rattle.machine.specs.Outcomes.{Progress}
use Rattle.machine.specs.Units.{decoded}
use Rattle.interruptions.specs.declared.Done.{Done}
use Rattle.interruptions.specs.After.{Left}
use Rattle.text.proofs.Order.{by_failure}
use Rattle.dispatch.specs.declared.Tests.{Tests}
use Rattle.dispatch.specs.Testing.{after_tests, exception_code}
use Rattle.unit.proofs.Order.{excepted_halts, intercepted_halts}
use Rattle.unit.proofs.Foretelling.{comes_left, comes_along}
use Rattle.unit.proofs.decoded.Goals as goal

-- what the arm of the match does is the instruction
by_arm : (h : Host) (g : Guest) (c : Cpu) (x : Progress) (o : Opcode) (d : Done) {r arm : Tests} {storage keys : List ℕ} → decoded x o ≡ after_tests x o r
    → r ≡ arm → Left h g c (after_tests x o arm) d storage keys → Left h g c (decoded x o) d storage keys
by_arm h g c x o d {storage = storage} {keys = keys} same known left =
    subst (λ e. Left h g c e d storage keys) (sym (same ∙ ap (after_tests x o) known)) left

pub excepted-requires : goal.excepted-requires
excepted-requires c =
    record { ready = c.requires.0; code_bound = rw c.exception_of-f.ensures (subst (λ r. exception_code r < 65536) c.in-Excepted.is c.tested-tests.ensures.result_bound) }

pub returns-in-Excepted : goal.returns-in-Excepted
returns-in-Excepted c =
    let a = c.args in
    λ x standing.
    let tests = c.tested-tests.ensures.o_value x standing.of_guest (ap (λ k. k.psw) standing.of_cpu) (ap (λ k. k.general) standing.of_cpu) standing.of_text in
    comes_left a.shut (host a.designation _ _) a.guest a.cpu (decoded x a.o) c.excepted.result
    (λ f word. excepted_halts a.guest (host a.designation _ _) word x standing a.o tests c.in-Excepted.is)
    (by_arm (host a.designation _ _) a.guest a.cpu x a.o c.excepted.result tests c.in-Excepted.is
    (by_failure (host a.designation _ _) a.guest a.cpu x.cpu x c.excepted.result c.exception_of-f.ensures
    (c.excepted.ensures a.clock x standing)))

pub returns-in-Intercepted : goal.returns-in-Intercepted
returns-in-Intercepted c =
    let a = c.args in
    λ x standing.
    let tests = c.tested-tests.ensures.o_value x standing.of_guest (ap (λ k. k.psw) standing.of_cpu) (ap (λ k. k.general) standing.of_cpu) standing.of_text in
    comes_left a.shut (host a.designation _ _) a.guest a.cpu (decoded x a.o) c.intercept_instruction.result
    (λ f word. intercepted_halts a.guest (host a.designation _ _) word x standing a.o tests c.in-Intercepted.is)
    (by_arm (host a.designation _ _) a.guest a.cpu x a.o c.intercept_instruction.result tests c.in-Intercepted.is
    (c.intercept_instruction.ensures (host a.designation _ _) a.guest a.clock a.t x standing))

pub returns-in-Clear : goal.returns-in-Clear
returns-in-Clear c =
    let a = c.args in
    λ x standing.
    comes_along a.shut (host a.designation _ _) a.guest a.cpu c.cleared.result
    (c.tested-tests.ensures.o_value x standing.of_guest (ap (λ k. k.psw) standing.of_cpu) (ap (λ k. k.general) standing.of_cpu) standing.of_text
    ∙ ap (after_tests x a.o) c.in-Clear.is)
    (c.cleared.ensures x standing)
