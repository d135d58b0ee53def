-- The order of an instruction's tests, test by test.
-- Assumes nothing.
use Rattle.std.specs.Prelude.{None, Some, Option}
use Prim.Native.Nat.{ℕ}
use mathlib.Core.Bool.{false, ◌&&◌}
use mathlib.Core.List.{List}
use mathlib.Core.Path.{◌≡◌, ap, sym, subst, ◌∙◌}
use Rattle.machine.specs.declared.Class.{Class}
use Rattle.machine.specs.declared.Class.TheVariants.{Unassigned}
use Rattle.machine.specs.declared.Cpu.{Cpu}
use Rattle.machine.specs.declared.Failure.{Failure}
use Rattle.machine.specs.declared.Guest.{Guest}
use Rattle.machine.specs.declared.Opcode.{Opcode}
use Rattle.machine.specs.declared.Psw.{Psw}
use Rattle.machine.specs.declared.Reason.{Reason}
use Rattle.machine.specs.declared.Reason.TheVariants as reason
use Rattle.machine.specs.declared.Text.{Text}
use Rattle.machine.specs.Psw.{problem_state, with_psw, advanced}
use Rattle.machine.specs.Failures.{operation, specification, exception_of}
use Rattle.machine.specs.Host.{Host, view}
use Rattle.machine.specs.Opcodes.{same_class}
use Rattle.machine.specs.Outcomes.{Outcome, Progress}
use Rattle.machine.specs.Interruptions.{exception}
use Rattle.machine.specs.Execute.{next, operand_address, intercept_instruction, execute}
use Rattle.machine.specs.Units.{intercepts, misaligned, decoded, started}
use Rattle.cpu.specs.declared.Before.{Before}
use Rattle.cpu.specs.declared.Before.TheVariants.{Ends, Malformed}
use Rattle.cpu.specs.Before.{unit_after}
use Rattle.text.specs.declared.Reading.{Reading}
use Rattle.text.specs.Fetching.{after_fetch, FetchedAs}
use Rattle.interruptions.specs.declared.Done.{Done}
use Rattle.interruptions.specs.declared.Event.TheVariants as event
use Rattle.interruptions.specs.declared.Frames.{Frames}
use Rattle.interruptions.specs.After.{left_by, Standing, Left}
use Rattle.interruptions.proofs.Leaving.{left_intercepted, past_it}

module _ (h : Host) (x : Progress) {g : Guest} {clock : ℕ} {c : Cpu} {text : Text} {t : Frames} (standing : Standing h x g clock c text t) where
  -- code 4
  pub instruction-intercepted : (d : Done) (psw : Psw) → psw ≡ (advanced c text.ilc).psw → d.event ≡ event.Intercepted (reason.Instruction text) → left_by c d ≡ with_psw c psw
      → Left h g c (intercept_instruction x) d h.storage h.keys
  unfolding intercept_instruction
  instruction-intercepted d psw moved ended left =
      left_intercepted h g c (reason.Instruction x.text) (next x x.cpu) d (ended ∙ ap (λ u. event.Intercepted (reason.Instruction u)) (sym standing.of_text))
      (left ∙ past_it h x standing c psw moved ∙ ap (next x) (sym standing.of_cpu))

-- the tests in their order: operation, privilege, interception, alignment, and then the instruction
pub decoded_executed : (x : Progress) (o : Opcode) → same_class o.class Unassigned ≡ false → (o.privileged && problem_state x.cpu) ≡ false
    → intercepts o.class x ≡ false → misaligned o.alignment (operand_address x) ≡ false → decoded x o ≡ execute o.class x
unfolding decoded
decoded_executed x o assigned privileged asked aligned = rw (assigned, privileged, asked, aligned)

-- an exception by an equal failure
pub by_failure : (h : Host) (g : Guest) (c k : Cpu) (x : Progress) (d : Done) {f f' : Failure} {storage keys : List ℕ} → f ≡ f'
    → Left h g c (exception x k f) d storage keys → Left h g c (exception x k f') d storage keys
by_failure h g c k x d {storage = storage} {keys = keys} same left = subst (λ f. Left h g c (exception x k f) d storage keys) same left

-- an instruction by its class
pub performed : (h : Host) (g : Guest) (c : Cpu) (x : Progress) {class kind : Class} (d : Done) {storage keys : List ℕ} → class ≡ kind
    → Left h g c (execute kind x) d storage keys → Left h g c (execute class x) d storage keys
performed h g c x d {storage} {keys} known left = subst (λ k. Left h g c (execute k x) d storage keys) (sym known) left

-- an opcode that is not assigned is an operation exception
pub performed_unassigned : (h : Host) (g : Guest) (c : Cpu) (x : Progress) {class : Class} (d : Done) {storage keys : List ℕ} (f : Failure) → f ≡ exception_of operation
    → class ≡ Unassigned → Left h g c (exception x x.cpu f) d storage keys → Left h g c (execute class x) d storage keys
unfolding execute
performed_unassigned h g c x d f code known left = performed h g c x d known (by_failure h g c x.cpu x d code left)

-- the fetch of the text, as it ended
module _ (h : Host) (g : Guest) (clock : ℕ) (c : Cpu) {o : Outcome} (code : Opcode) (r : Reading) (d : Done) {storage keys : List ℕ}
    (fetched : FetchedAs h g clock c o code r) where
  by_end : (e : Option Failure) → r.failure ≡ e → Left h g c (after_fetch fetched.0 c code e) d storage keys → Left h g c o d storage keys
  by_end e ends left =
      subst (λ o. Left h g c o d storage keys) (sym (fetched.2 ∙ ap (after_fetch fetched.0 c code) ends)) left

  pub fetch_failed : (f : Failure) → r.failure ≡ Some f
      → ((x : Progress) → Standing h x g clock c r.text r.frames → Left h g c (exception x x.cpu f) d storage keys) → Left h g c o d storage keys
  fetch_failed f ends left =
      by_end (Some f) ends (subst (λ k. Left h g c (exception fetched.0 k f) d storage keys) fetched.1.of_cpu (left fetched.0 fetched.1))

  pub fetch_whole : r.failure ≡ None
      → ((x : Progress) → Standing h x g clock c r.text r.frames → Left h g c (decoded x code) d storage keys) → Left h g c o d storage keys
  fetch_whole ends left = by_end None ends (left fetched.0 fetched.1)

-- a unit by what the list before it comes to
module _ (h : Host) (g : Guest) (clock : ℕ) (c : Cpu) (before : Before) (d : Done) where
  pub after_ends : (why : Reason) → before ≡ Ends why → d.event ≡ event.Intercepted why → left_by c d ≡ c
      → Left h g c (unit_after g clock (view g h) c before) d h.storage h.keys
  after_ends why list ended left =
      subst (λ b. Left h g c (unit_after g clock (view g h) c b) d h.storage h.keys) (sym list) (left_intercepted h g c why c d ended left)

  module _ {storage keys : List ℕ} where
    pub after-malformed : (f : Failure) → f ≡ exception_of specification → before ≡ Malformed → Left h g c (exception (started g clock (view g h) c 0) c f) d storage keys
        → Left h g c (unit_after g clock (view g h) c before) d storage keys
    after-malformed f code list left =
        subst (λ b. Left h g c (unit_after g clock (view g h) c b) d storage keys) (sym list)
        (by_failure h g c c (started g clock (view g h) c 0) d code left)
