-- An instruction with an operand, done by numbers behind its tests: what the tests and the instruction leave.
-- Assumes nothing.
use Prim.Native.Nat.{ℕ, ◌+◌, ◌-◌, ◌/◌, ◌%◌}
use native.Mathlib.Nat.{div-one}
use native.Mathlib.Omega.{arith}
use mathlib.Core.Path.{◌≡◌, refl, ap, sym, subst, ◌∙◌}
use mathlib.Core.Bool.{false}
use mathlib.Core.List.{List}
use Rattle.machine.specs.declared.Cpu.{Cpu}
use Rattle.machine.specs.declared.Guest.{Guest}
use Rattle.machine.specs.declared.Psw.{Psw}
use Rattle.machine.specs.Words.{bits, bit}
use Rattle.machine.specs.Opcodes.{number_of, opcode_of}
use Rattle.machine.specs.Outcomes.{Outcome, Progress}
use Rattle.machine.specs.Execute.{r1, r2, operand_address, range_count, load_psw, store_control, load_control, store_clock, set_timer, store_timer}
use Rattle.machine.specs.Units.{intercepts_lctl, intercepts, decoded}
use Rattle.interruptions.specs.declared.Done.{Done as Leaving}
use Rattle.interruptions.specs.After.{Left}
use Rattle.steps.specs.Texting.{short_text, done_as}
use Rattle.special.specs.declared.Done.{Done}
use Rattle.special.specs.Performing.{psw_in, Performs, Always, AtClock, AtTimer, WithControls}
use Rattle.single.specs.declared.Operation.{Operation}
use Rattle.single.specs.declared.Operation.TheVariants as operations
use Rattle.single.specs.Deciding.{number, stopped_of, Operates}
use Rattle.single.proofs.Deciding.{lpsw_decides, spt_decides, stpt_decides, stck_decides, lctl_decides, stctl_decides}

module _ (g : Guest) (clock : ℕ) (psw : Psw) (timer : ℕ) (control kept : List ℕ) (operation : Operation) (registers a : ℕ) (storage : List ℕ) (d : Done) where
  abbrev Leaves : List ℕ → List ℕ → Type 0
  Leaves control' storage' = Operates g clock psw timer control kept operation registers a storage d control' storage'

  -- what is known of an instruction in progress
  record Known (x : Progress) (c : Cpu) (first second : ℕ) : Type 0 where
    of_guest : x.guest ≡ g
    of_cpu : x.cpu ≡ c
    of_text : x.text ≡ short_text first second
    of_psw : c.psw ≡ psw
    address : operand_address x ≡ a
    timed : c.timer ≡ timer
    controls : c.control.words ≡ control
    named : number_of first ≡ number operation
    fields : first % 256 ≡ registers

  by_performing : (when : Guest → ℕ → Cpu → ℕ → Type 0) (outcome : Progress → Outcome) (done : Cpu → Leaving) {control' storage' : List ℕ} → Performs kept psw a storage when outcome done storage'
      → ((x : Progress) (c : Cpu) (first second : ℕ) → Known x c first second
      → when g clock c first × (decoded x (opcode_of c.psw.system370 first) ≡ outcome x) × (done c ≡ done_as (psw_in d psw) d.timer (record { words = control' })))
      → Leaves control' storage'
  by_performing when outcome done {control'} {storage'} performs decided guard h x c text first second begun timed controls named fields =
      let known : Known x c first second =
      record {
        of_guest = begun.standing.of_guest;
        of_cpu = begun.standing.of_cpu;
        of_text = begun.standing.of_text;
        of_psw = begun.of_psw;
        address = begun.address;
        timed = timed;
        controls = controls;
        named = named;
        fields = fields;
      } in
      let (fits, decision, same) = decided x c first second known in
      let (left, alike) = performs guard h g x clock c text first second begun fits in (
        subst (λ o. Left h g c o (done_as (psw_in d psw) d.timer (record { words = control' })) storage' h.keys) (sym decision)
            (subst (λ d. Left h g c (outcome x) d storage' h.keys) same left),
        alike,
      )

  module _ (clear : (c : Cpu) → c.psw ≡ psw → stopped_of operation c a ≡ false) where
    -- with the control registers as they are
    module _ {control' storage' : List ℕ} (stays : control' ≡ control) where
      -- STORE CLOCK (STCK)
      pub stck_leaves : operation ≡ operations.Stck → d.timer ≡ timer → Performs kept psw a storage (AtClock g.epoch clock) store_clock (λ c. done_as (psw_in d psw) c.timer c.control) storage' → Leaves control' storage'
      stck_leaves is time performs =
          by_performing (AtClock g.epoch clock) store_clock (λ c. done_as (psw_in d psw) c.timer c.control) performs
          (λ x c first second known. (
            (refl, refl),
            stck_decides x first c known.of_cpu a known.address operation known.named (clear c known.of_psw) is,
            (λ i. done_as (psw_in d psw) ((known.timed ∙ sym time) i) (record { words = (known.controls ∙ sym stays) i })),
          ))

      -- STORE CPU TIMER (STPT)
      pub stpt_leaves : operation ≡ operations.Stpt → d.timer ≡ timer → Performs kept psw a storage (AtTimer timer) store_timer (λ c. done_as (psw_in d psw) c.timer c.control) storage' → Leaves control' storage'
      stpt_leaves is time performs =
          by_performing (AtTimer timer) store_timer (λ c. done_as (psw_in d psw) c.timer c.control) performs
          (λ x c first second known. (
            known.timed,
            stpt_decides x first c known.of_cpu a known.address operation known.named (clear c known.of_psw) is,
            (λ i. done_as (psw_in d psw) ((known.timed ∙ sym time) i) (record { words = (known.controls ∙ sym stays) i })),
          ))

      -- SET CPU TIMER (SPT)
      pub spt_leaves : operation ≡ operations.Spt → Performs kept psw a storage Always set_timer (λ c. done_as (psw_in d psw) d.timer c.control) storage' → Leaves control' storage'
      spt_leaves is performs =
          by_performing Always set_timer (λ c. done_as (psw_in d psw) d.timer c.control) performs
          (λ x c first second known. (
            tt,
            spt_decides x first c known.of_cpu a known.address operation known.named (clear c known.of_psw) is,
            (λ i. done_as (psw_in d psw) d.timer (record { words = (known.controls ∙ sym stays) i })),
          ))

      -- LOAD PSW (LPSW)
      pub lpsw_leaves : operation ≡ operations.Lpsw → bit 8 2 g.interceptions ≡ false → d.timer ≡ timer → Performs kept psw a storage Always load_psw (λ c. done_as (psw_in d psw) c.timer c.control) storage'
          → Leaves control' storage'
      unfolding intercepts
      lpsw_leaves is free time performs =
          by_performing Always load_psw (λ c. done_as (psw_in d psw) c.timer c.control) performs
          (λ x c first second known. (
            tt,
            lpsw_decides x first c known.of_cpu a known.address operation known.named (clear c known.of_psw) is (ap (λ j. bit 8 2 j.interceptions) known.of_guest ∙ free),
            (λ i. done_as (psw_in d psw) ((known.timed ∙ sym time) i) (record { words = (known.controls ∙ sym stays) i })),
          ))

    module _ (one three : ℕ) (is_one : one ≡ registers / 16) (is-three : three ≡ registers % 16) (byte : registers / 256 ≡ 0) where
      -- the registers that the text names
      fields_one : (first : ℕ) → first % 256 ≡ registers → first / 16 % 16 ≡ one
      fields_one first fields = omega (arith, is_one)

      fields_three : (first : ℕ) → first % 256 ≡ registers → first % 16 ≡ three
      fields_three first fields = omega (arith, is-three)

      -- STORE CONTROL (STCTL)
      pub stctl_leaves : {control' storage' : List ℕ} → control' ≡ control → operation ≡ operations.Stctl → d.timer ≡ timer
          → Performs kept psw a storage (WithControls control one three) store_control (λ c. done_as (psw_in d psw) c.timer c.control) storage' → Leaves control' storage'
      stctl_leaves stays is time performs =
          by_performing (WithControls control one three) store_control (λ c. done_as (psw_in d psw) c.timer c.control) performs
          (λ x c first second known. (
            (known.controls, fields_one first known.fields, fields_three first known.fields),
            stctl_decides x first c known.of_cpu a known.address operation known.named (clear c known.of_psw) is,
            (λ i. done_as (psw_in d psw) ((known.timed ∙ sym time) i) (record { words = (known.controls ∙ sym stays) i })),
          ))

      -- LOAD CONTROL (LCTL)
      pub lctl_leaves : {control' storage' : List ℕ} → operation ≡ operations.Lctl → intercepts_lctl g one ((three + (16 - one)) % 16 + 1) ≡ false → d.timer ≡ timer
          → Performs kept psw a storage (WithControls control one three) load_control (λ c. done_as (psw_in d psw) c.timer (record { words = control' })) storage' → Leaves control' storage'
      unfolding intercepts range_count
      lctl_leaves {control'} is free time performs =
          by_performing (WithControls control one three) load_control (λ c. done_as (psw_in d psw) c.timer (record { words = control' })) performs
          (λ x c first second known.
          let from : r1 x ≡ one = ap (λ u. bits 16 8 11 u.first) known.of_text ∙ fields_one first known.fields in
          let to : r2 x ≡ three = ap (λ u. bits 16 12 15 u.first) known.of_text ∙ ap (λ n. n % 16) (div-one first) ∙ fields_three first known.fields in (
            (known.controls, fields_one first known.fields, fields_three first known.fields),
            lctl_decides x first c known.of_cpu a known.address operation known.named (clear c known.of_psw) is
                ((λ i. intercepts_lctl (known.of_guest i) (from i) ((to i + (16 - from i)) % 16 + 1)) ∙ free),
            (λ i. done_as (psw_in d psw) ((known.timed ∙ sym time) i) (record { words = control' })),
          ))
