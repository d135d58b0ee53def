-- A unit told ahead: what does not complete leaves storage and keys as they were.
-- Assumes nothing.
use Rattle.std.specs.Prelude.{None}
use Prim.Native.Nat.{ℕ}
use mathlib.Core.Path.{◌≡◌, refl, ap, sym, subst, ◌∙◌}
use mathlib.Core.Bool.{Bool, true, false}
use mathlib.Core.List.{List}
use Rattle.machine.specs.declared.Class.{Class}
use Rattle.machine.specs.declared.Cpu.{Cpu}
use Rattle.machine.specs.declared.Failure.{Failure}
use Rattle.machine.specs.declared.Guest.{Guest}
use Rattle.machine.specs.declared.Opcode.{Opcode}
use Rattle.machine.specs.declared.Text.{Text}
use Rattle.machine.specs.Host.{Host, view}
use Rattle.machine.specs.Outcomes.{Outcome, completed, intercepted, faulted, Progress}
use Rattle.machine.specs.Execute.{execute}
use Rattle.machine.specs.Units.{decoded, started, instruction}
use Rattle.cpu.specs.declared.Before.{Before}
use Rattle.cpu.specs.declared.Before.TheVariants.{Instruction}
use Rattle.cpu.specs.Before.{unit_after}
use Rattle.interruptions.specs.declared.Done.{Done}
use Rattle.interruptions.specs.declared.Event.TheVariants as event
use Rattle.interruptions.specs.declared.Frames.{Frames}
use Rattle.interruptions.specs.After.{event_of, storage_after, keys_after, Standing, Left}
use Rattle.execute.proofs.Reaching.{not_both}
use Rattle.text.specs.declared.Reading.{Reading}
use Rattle.text.specs.Fetching.{after_fetch, FetchedAs}
use Rattle.ahead.specs.Completing.{is_complete, performs, InHand, WordShut}
use Rattle.ahead.proofs.Shut.{execute_completes}
use Rattle.unit.specs.Foretelling.{Foretold, Comes}

pub told_of : (h : Host) (g : Guest) (c : Cpu) (o : Outcome) (d : Done) {storage keys : List ℕ} → is_complete o ≡ false → Left h g c o d storage keys
    → Foretold h c o d storage keys
unfolding is_complete storage_after keys_after
told_of h g c (completed k e) d halts left = not_both refl halts
told_of h g c (intercepted r k) d halts left = record { event = left.event; cpu = λ _. left.cpu; bytes = left.bytes; marks = left.marks }
told_of h g c (faulted f) d halts left = record { event = left.event; cpu = λ _. left.cpu; bytes = left.bytes; marks = left.marks }

-- and back
pub left_of : (h : Host) (g : Guest) (c : Cpu) (o : Outcome) (d : Done) {storage keys : List ℕ} → is_complete o ≡ false → Foretold h c o d storage keys
    → Left h g c o d storage keys
unfolding is_complete storage_after keys_after
left_of h g c (completed k e) d halts told = not_both refl halts
left_of h g c (intercepted r k) d halts told = record { event = told.event; cpu = told.cpu refl; bytes = told.bytes; marks = told.marks }
left_of h g c (faulted f) d halts told = record { event = told.event; cpu = told.cpu refl; bytes = told.bytes; marks = told.marks }

complete_event : (o : Outcome) → is_complete o ≡ true → event.Completed ≡ event_of o
unfolding is_complete event_of
complete_event (completed k e) whole = refl
complete_event (intercepted r k) whole = not_both whole refl
complete_event (faulted f) whole = not_both whole refl

-- a unit that does not complete while the word is shut
pub comes_left : (shut : Bool) (h : Host) (g : Guest) (c : Cpu) (o : Outcome) (d : Done) {storage keys : List ℕ}
    → ((f : Failure) → WordShut g h f → is_complete o ≡ false) → Left h g c o d storage keys → Comes shut h g c o d storage keys
comes_left shut h g c o d halts left = (λ _. left, λ _ f word. told_of h g c o d (halts f word) left)

-- a unit by an equal outcome
pub comes_along : (shut : Bool) (h : Host) (g : Guest) (c : Cpu) (d : Done) {o p : Outcome} {storage keys : List ℕ} → p ≡ o
    → Comes shut h g c o d storage keys → Comes shut h g c p d storage keys
comes_along shut h g c d {storage = storage} {keys = keys} same comes = subst (λ o. Comes shut h g c o d storage keys) (sym same) comes

-- an instruction whose tests are clear
module _ (shut : Bool) (h : Host) (g : Guest) (c : Cpu) (class : Class) (d : Done) (x : Progress) {clock : ℕ} {text : Text} {t : Frames} {r : Bool}
    (standing : Standing h x g clock c text t) (clear : shut ≡ false → r ≡ false) (told : shut ≡ true → (x : Progress) → InHand h x g c text → r ≡ performs class x) where
  completes_by : shut ≡ true → (f : Failure) → WordShut g h f → is_complete (execute class x) ≡ r
  completes_by is f word =
      execute_completes g h word x standing.of_guest standing.of_view class
      ∙ sym (told is x (record { of_guest = standing.of_guest; of_view = standing.of_view; of_cpu = standing.of_cpu; of_text = standing.of_text }))

  pub cleared_told : r ≡ true → d.event ≡ event.Completed → Comes shut h g c (execute class x) d h.storage h.keys
  cleared_told whole ended = (
    λ is. not_both whole (clear is),
    λ is f word. record {
      event = ended ∙ complete_event (execute class x) (completes_by is f word ∙ whole);
      cpu = λ halts. not_both (completes_by is f word ∙ whole) halts;
      bytes = refl;
      marks = refl;
    },
  )

  pub cleared-done : r ≡ false → {storage keys : List ℕ} → Left h g c (execute class x) d storage keys → Comes shut h g c (execute class x) d storage keys
  cleared-done halts left = (λ _. left, λ is f word. told_of h g c (execute class x) d (completes_by is f word ∙ halts) left)

-- the fetch of the text is whole
pub fetch_comes : (shut : Bool) (h : Host) (g : Guest) (clock : ℕ) (c : Cpu) {o : Outcome} (code : Opcode) (r : Reading) (d : Done) {storage keys : List ℕ}
    → FetchedAs h g clock c o code r → r.failure ≡ None
    → ((x : Progress) → Standing h x g clock c r.text r.frames → Comes shut h g c (decoded x code) d storage keys) → Comes shut h g c o d storage keys
fetch_comes shut h g clock c code r d fetched whole comes =
    let (x, standing, is) = fetched in
    comes_along shut h g c d (is ∙ ap (after_fetch x c code) whole) (comes x standing)

-- the list before the unit comes to the instruction
pub after_comes : (shut : Bool) (h : Host) (g : Guest) (clock : ℕ) (c : Cpu) (before : Before) (d : Done) {storage keys : List ℕ} → before ≡ Instruction
    → Comes shut h g c (instruction (started g clock (view g h) c 1)) d storage keys → Comes shut h g c (unit_after g clock (view g h) c before) d storage keys
after_comes shut h g clock c before d list comes = comes_along shut h g c d (ap (unit_after g clock (view g h) c) list) comes
