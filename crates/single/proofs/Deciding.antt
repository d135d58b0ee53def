-- The order of tests of an instruction whose text is fetched, by the table of opcodes.
-- Assumes nothing.
use Prim.Native.Nat.{ℕ, ◌/◌, ◌%◌}
use native.Mathlib.Omega.{arith}
use mathlib.Core.Path.{◌≡◌, refl, ap, sym, ◌∙◌}
use mathlib.Core.Bool.{Bool, true, false, not, ◌&&◌, ◌||◌}
use borrow.Author.Tests.{eq-eqb}
use lib.Dec.{eqb}
use Rattle.machine.specs.declared.Class.{Class}
use Rattle.machine.specs.declared.Class.TheVariants.{Svc, Lpsw, Stctl, Lctl, Stck, Spt, Stpt, Unassigned}
use Rattle.machine.specs.declared.Cpu.{Cpu}
use Rattle.machine.specs.Psw.{problem_state}
use Rattle.machine.specs.Opcodes.{number_of, same_class, both, row, opcodes, has, find, opcode_of}
use Rattle.machine.specs.Outcomes.{Outcome, Progress}
use Rattle.machine.specs.Execute.{operand_address, supervisor_call, load_psw, store_control, load_control, store_clock, set_timer, store_timer, execute}
use Rattle.machine.specs.Units.{intercepts, misaligned, decoded}
use Rattle.execute.proofs.Reaching.{not_both}
use Rattle.text.proofs.Order.{decoded_executed}
use Rattle.single.specs.declared.Operation.{Operation}
use Rattle.single.specs.declared.Operation.TheVariants as operations
use Rattle.single.specs.Deciding.{number, stopped_of}

-- an instruction of the table's that passes its tests is executed
decides : (x : Progress) (system370 : Bool) (first n : ℕ) (p : Bool) (alignment : ℕ) (kind : Class) → number_of first ≡ n → find system370 n opcodes ≡ row both n p alignment kind
    → same_class kind Unassigned ≡ false → (p && problem_state x.cpu) ≡ false → intercepts kind x ≡ false → misaligned alignment (operand_address x) ≡ false
    → decoded x (opcode_of system370 first) ≡ execute kind x
unfolding opcode_of
decides x system370 first n p alignment kind named found assigned privileged asked aligned =
    let same : find system370 (number_of first) opcodes ≡ row both n p alignment kind = ap (λ m. find system370 m opcodes) named ∙ found in
    decoded_executed x (opcode_of system370 first) (ap (λ r. same_class r.class Unassigned) same ∙ assigned) (ap (λ r. r.privileged && problem_state x.cpu) same ∙ privileged)
    (ap (λ r. intercepts r.class x) same ∙ asked) (ap (λ r. misaligned r.alignment (operand_address x)) same ∙ aligned)
    ∙ ap (λ r. execute r.class x) same

-- the number of an opcode whose first byte is not B2
pub one_byte : (first n : ℕ) → first / 256 ≡ n → eqb n 0xb2 ≡ false → number_of first ≡ n
unfolding number_of
one_byte first n here other = rw (here, other)

-- and of one whose first byte is
pub two_bytes : (first : ℕ) → first / 256 ≡ 0xb2 → number_of first ≡ first
unfolding number_of
two_bytes first here = rw here

never_misaligned : (a : ℕ) → misaligned 1 a ≡ false
unfolding misaligned
never_misaligned a = rw (eq-eqb (a % 1) 0 (omega arith))

-- what is not stopped is not in problem state, and aligned
clear_of : (problem other : Bool) → (problem || other) ≡ false → (problem ≡ false) × (other ≡ false)
clear_of true other none = not_both refl none
clear_of false other none = (refl, none)

module _ (x : Progress) (first : ℕ) (c : Cpu) (of_cpu : x.cpu ≡ c) where
  abbrev Decides : (Progress → Outcome) → Type 0
  Decides outcome = decoded x (opcode_of c.psw.system370 first) ≡ outcome x

  -- SUPERVISOR CALL (SVC)
  pub svc_decides : first / 256 ≡ 0x0a → intercepts Svc x ≡ false → Decides supervisor_call
  unfolding find has execute
  svc_decides is clear = decides x c.psw.system370 first 0x0a false 1 Svc (one_byte first 0x0a is refl) refl refl refl clear (never_misaligned (operand_address x))

  module _ (a : ℕ) (address : operand_address x ≡ a) where
    -- a privileged instruction with an operand
    tested : (n alignment : ℕ) (kind : Class) → number_of first ≡ n → ((b : Bool) → find b n opcodes ≡ row both n true alignment kind) → same_class kind Unassigned ≡ false
        → intercepts kind x ≡ false → (problem_state c || not (eqb (a % alignment) 0)) ≡ false → decoded x (opcode_of c.psw.system370 first) ≡ execute kind x
    unfolding misaligned
    tested n alignment kind named found assigned asked clear =
        let (supervisor, aligned) = clear_of (problem_state c) (not (eqb (a % alignment) 0)) clear in
        decides x c.psw.system370 first n true alignment kind named (found c.psw.system370) assigned (ap problem_state of_cpu ∙ supervisor) asked
        (ap (misaligned alignment) address ∙ aligned)

    module _ (operation : Operation) (named : number_of first ≡ number operation) (clear : stopped_of operation c a ≡ false) where
      -- LOAD PSW (LPSW)
      pub lpsw_decides : operation ≡ operations.Lpsw → intercepts Lpsw x ≡ false → Decides load_psw
      unfolding find has execute stopped_of
      lpsw_decides is asked = tested 0x82 8 Lpsw (named ∙ ap number is) (λ b. refl) refl asked (ap (λ o. stopped_of o c a) (sym is) ∙ clear)

      -- SET CPU TIMER (SPT)
      pub spt_decides : operation ≡ operations.Spt → Decides set_timer
      unfolding find has execute stopped_of intercepts
      spt_decides is = tested 0xb208 8 Spt (named ∙ ap number is) (λ b. refl) refl refl (ap (λ o. stopped_of o c a) (sym is) ∙ clear)

      -- STORE CPU TIMER (STPT)
      pub stpt_decides : operation ≡ operations.Stpt → Decides store_timer
      unfolding find has execute stopped_of intercepts
      stpt_decides is = tested 0xb209 8 Stpt (named ∙ ap number is) (λ b. refl) refl refl (ap (λ o. stopped_of o c a) (sym is) ∙ clear)

      -- STORE CLOCK (STCK)
      pub stck_decides : operation ≡ operations.Stck → Decides store_clock
      unfolding find has execute intercepts
      stck_decides is = decides x c.psw.system370 first 0xb205 false 1 Stck (named ∙ ap number is) refl refl refl refl (never_misaligned (operand_address x))

      -- LOAD CONTROL (LCTL)
      pub lctl_decides : operation ≡ operations.Lctl → intercepts Lctl x ≡ false → Decides load_control
      unfolding find has execute stopped_of
      lctl_decides is asked = tested 0xb7 4 Lctl (named ∙ ap number is) (λ b. refl) refl asked (ap (λ o. stopped_of o c a) (sym is) ∙ clear)

      -- STORE CONTROL (STCTL)
      pub stctl_decides : operation ≡ operations.Stctl → Decides store_control
      unfolding find has execute stopped_of intercepts
      stctl_decides is = tested 0xb6 4 Stctl (named ∙ ap number is) (λ b. refl) refl refl (ap (λ o. stopped_of o c a) (sym is) ∙ clear)
