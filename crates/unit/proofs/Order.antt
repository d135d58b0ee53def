-- What does not complete a unit, in the order of its tests, while the interval timer's word cannot be stored into.
-- Assumes nothing.
use Rattle.std.specs.Prelude.{Some}
use Prim.Native.Nat.{ℕ}
use mathlib.Core.Path.{◌≡◌, refl, ap, ◌∙◌}
use mathlib.Core.Bool.{false}
use Rattle.machine.specs.declared.Cpu.{Cpu}
use Rattle.machine.specs.declared.Failure.{Failure}
use Rattle.machine.specs.declared.Guest.{Guest}
use Rattle.machine.specs.declared.Opcode.{Opcode}
use Rattle.machine.specs.declared.Reason.{Reason}
use Rattle.machine.specs.declared.Text.{Text}
use Rattle.machine.specs.Host.{Host, view}
use Rattle.machine.specs.Outcomes.{Outcome, Progress}
use Rattle.machine.specs.Execute.{intercept_instruction}
use Rattle.machine.specs.Units.{decoded, started}
use Rattle.cpu.specs.declared.Before.{Before}
use Rattle.cpu.specs.declared.Before.TheVariants.{Ends, Malformed}
use Rattle.cpu.specs.Before.{unit_after}
use Rattle.interruptions.specs.declared.Frames.{Frames}
use Rattle.interruptions.specs.After.{Standing}
use Rattle.text.specs.declared.Reading.{Reading}
use Rattle.text.specs.Fetching.{after_fetch, FetchedAs}
use Rattle.ahead.specs.Completing.{is_complete, WordShut}
use Rattle.ahead.proofs.Shut.{exception_incomplete}
use Rattle.dispatch.specs.declared.Tests.{Tests}
use Rattle.dispatch.specs.declared.Tests.TheVariants.{Excepted, Intercepted}
use Rattle.dispatch.specs.Testing.{after_tests}

module _ (g : Guest) (h : Host) {why : Failure} (shut : WordShut g h why) where
  module _ (x : Progress) {clock : ℕ} {c : Cpu} {text : Text} {t : Frames} (standing : Standing h x g clock c text t) (o : Opcode) {r : Tests}
      (tests : decoded x o ≡ after_tests x o r) where
    pub excepted_halts : {code : ℕ} → r ≡ Excepted code → is_complete (decoded x o) ≡ false
    excepted_halts told =
        ap is_complete (tests ∙ ap (after_tests x o) told) ∙ exception_incomplete g h shut x standing.of_guest standing.of_view _ _

    pub intercepted_halts : r ≡ Intercepted → is_complete (decoded x o) ≡ false
    unfolding intercept_instruction is_complete
    intercepted_halts told = ap is_complete (tests ∙ ap (after_tests x o) told)

  -- the fetch of the text
  pub fetch_halts : (clock : ℕ) (c : Cpu) {o : Outcome} (code : Opcode) (r : Reading) → FetchedAs h g clock c o code r → (f : Failure) → r.failure ≡ Some f → is_complete o ≡ false
  fetch_halts clock c code r fetched f failed =
      let (x, standing, comes) = fetched in
      ap is_complete (comes ∙ ap (after_fetch x c code) failed)
      ∙ exception_incomplete g h shut x standing.of_guest standing.of_view c f

  -- the list before the unit
  module _ (clock : ℕ) (c : Cpu) (before : Before) where
    pub list_ends : {reason : Reason} → before ≡ Ends reason → is_complete (unit_after g clock (view g h) c before) ≡ false
    unfolding is_complete
    list_ends told = ap (λ (b : Before). is_complete (unit_after g clock (view g h) c b)) told

    pub list_malformed : before ≡ Malformed → is_complete (unit_after g clock (view g h) c before) ≡ false
    list_malformed told =
        ap (λ (b : Before). is_complete (unit_after g clock (view g h) c b)) told ∙ exception_incomplete g h shut (started g clock (view g h) c 0) refl refl c _
