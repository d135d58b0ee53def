-- How the instructions with no operand in storage end.
-- Assumes nothing.
use Rattle.std.specs.Prelude.{None}
use Prim.Native.Nat.{ℕ, ◌+◌, ◌*◌, ◌%◌, ◌≤◌, ◌<◌}
use native.Mathlib.Nat.{div-one}
use native.Mathlib.Omega.{arith}
use mathlib.Core.Path.{◌≡◌, refl, ap, sym, subst, ◌∙◌}
use mathlib.Core.Bool.{Bool, true, false, cond, ◌&&◌}
use mathlib.Core.List.{List, []}
use Rattle.machine.specs.declared.Cpu.{Cpu}
use Rattle.machine.specs.declared.Guest.{Guest}
use Rattle.machine.specs.declared.Psw.{Psw}
use Rattle.machine.specs.declared.Text.{Text}
use lib.Dec.{eqb}
use Rattle.machine.specs.Words.{bits}
use Rattle.machine.specs.Psw.{basic_control, condition_code, overflow_enabled, wrap, with_psw, with_general, with_address, advanced, with_condition_code, general}
use Rattle.machine.specs.Failures.{fixed_point_overflow, exception_of}
use Rattle.machine.specs.Host.{Host}
use Rattle.machine.specs.Outcomes.{Progress}
use Rattle.machine.specs.Interruptions.{supervisor_call_areas, code_fields, fields_beside, interrupt, exception}
use Rattle.machine.specs.Execute.{r1, r2, next, finish, sum_code, with_sum, summed, branch, supervisor_call}
use Rattle.machine.proofs.Tests.{on_either_arm}
use Rattle.interruptions.specs.declared.Done.{Done}
use Rattle.interruptions.specs.declared.Event.TheVariants as event
use Rattle.interruptions.specs.declared.Frames.{Frames}
use Rattle.interruptions.specs.After.{left_by, mark_text, Standing, Left, code_bytes}
use Rattle.interruptions.proofs.Leaving.{past_it}
use Rattle.execute.proofs.Exceptions.{code_word, code_of-word}
use Rattle.execute.proofs.Reaching.{left_finished}
use Rattle.adder.proofs.Sums.{coded_overflow, sum_state}

-- past an instruction goes the PSW alone
past_general : (c : Cpu) (i value n : ℕ) → (advanced (with_general c i value) n).psw ≡ (advanced c n).psw
unfolding advanced with_address with_psw with_general wrap
past_general c i value n = refl

-- a condition code has two bits
pub small_code : (c : Cpu) → condition_code c < 4
small_code c =
    on_either_arm (λ n. n < 4) (basic_control c) {u = bits 32 2 3 c.psw.right} {v = bits 32 18 19 c.psw.left} (omega arith) (omega arith)

-- a sum is a program exception, by the condition code that the code has
pub sum_interrupts : (c : Cpu) (sum : ℕ) (overflow : Bool) (code : ℕ) → code ≡ condition_code (with_condition_code c (sum_code sum overflow))
    → (interrupts : Bool) → interrupts ≡ (eqb code 3 && overflow_enabled c) → (overflow && overflow_enabled c) ≡ interrupts
sum_interrupts c sum overflow code is interrupts tested =
    sym (tested ∙ ap (λ b. b && overflow_enabled c) (ap (λ n. eqb n 3) is ∙ coded_overflow c sum overflow))

module _ (h : Host) (x : Progress) {g : Guest} {clock : ℕ} {c : Cpu} {text : Text} {t : Frames} (standing : Standing h x g clock c text t) where
  -- the registers that the text names
  pub first_register : general c (bits 16 8 11 text.first) ≡ general x.cpu (r1 x)
  first_register = λ i. general (sym standing.of_cpu i) (bits 16 8 11 (sym standing.of_text i).first)

  pub second_register : general c (text.first % 16) ≡ general x.cpu (r2 x)
  second_register =
      ap (λ n. general c (n % 16)) (sym (div-one text.first)) ∙ (λ i. general (sym standing.of_cpu i) (bits 16 12 15 (sym standing.of_text i).first))

  -- a general register is set
  pub register_set : (d : Done) {keys : List ℕ} (psw : Psw) (value : ℕ) {v : ℕ} → value ≡ v → psw ≡ (advanced c text.ilc).psw
      → d.event ≡ event.Completed → left_by c d ≡ with_psw (with_general c (bits 16 8 11 text.first) value) psw → keys ≡ mark_text t h.keys
      → Left h g c (finish x (next x (with_general x.cpu (r1 x) v)) [] []) d h.storage keys
  register_set d psw value same moved ended left marks =
      left_finished h x standing _ d ended
      (left ∙ past_it h x standing (with_general c (bits 16 8 11 text.first) value) psw (moved ∙ sym (past_general c _ value text.ilc))
      ∙ (λ i. next x (with_general (sym standing.of_cpu i) (bits 16 8 11 (sym standing.of_text i).first) (same i))))
      marks

  -- a branch
  pub branched : (d : Done) {keys : List ℕ} (taken : Bool) (a : ℕ) {b : Bool} {to : ℕ} → taken ≡ b → a ≡ to → d.event ≡ event.Completed
      → left_by c d ≡ cond taken (with_address x.cpu a) (next x x.cpu) → keys ≡ mark_text t h.keys
      → Left h g c (branch x b to) d h.storage keys
  unfolding branch
  branched d taken a same at ended left marks =
      left_finished h x standing _ d ended (left ∙ (λ i. cond (same i) (with_address x.cpu (at i)) (next x x.cpu))) marks

  module _ (sum : ℕ) (overflow : Bool) where
    state : with_sum c (bits 16 8 11 text.first) sum overflow ≡ with_sum x.cpu (r1 x) sum overflow
    state = λ i. with_sum (sym standing.of_cpu i) (bits 16 8 11 (sym standing.of_text i).first) sum overflow

    enabled : (overflow && overflow_enabled x.cpu) ≡ (overflow && overflow_enabled c)
    enabled = ap (λ k. overflow && overflow_enabled k) standing.of_cpu

    -- an overflow that is a program exception has its results set
    pub summed_interrupts : (overflow && overflow_enabled c) ≡ true → (d : Done) {storage keys : List ℕ} (after : Cpu)
        → after ≡ with_sum c (bits 16 8 11 text.first) sum overflow
        → Left h g c (exception x after (exception_of fixed_point_overflow)) d storage keys → Left h g c (summed x sum overflow) d storage keys
    unfolding summed
    summed_interrupts yields d {storage} {keys} after set left =
        subst (λ o. Left h g c o d storage keys)
        (ap (λ k. exception x k (exception_of fixed_point_overflow)) (set ∙ state)
        ∙ sym (ap (λ b. cond b (exception x (with_sum x.cpu (r1 x) sum overflow) (exception_of fixed_point_overflow))
        (finish x (next x (with_sum x.cpu (r1 x) sum overflow)) [] [])) (enabled ∙ yields)))
        left

    pub summed_ends : (overflow && overflow_enabled c) ≡ false → (d : Done) {keys : List ℕ} (coded psw : Psw)
        → coded ≡ (with_condition_code c (sum_code sum overflow)).psw
        → ((k : Cpu) → k.psw ≡ coded → psw ≡ (advanced k text.ilc).psw) → d.event ≡ event.Completed
        → left_by c d ≡ with_psw (with_general c (bits 16 8 11 text.first) sum) psw → keys ≡ mark_text t h.keys
        → Left h g c (summed x sum overflow) d h.storage keys
    unfolding summed with_psw
    summed_ends goes d {keys} coded psw code moved ended left marks =
        subst (λ o. Left h g c o d h.storage keys)
        (sym (ap (λ b. cond b (exception x (with_sum x.cpu (r1 x) sum overflow) (exception_of fixed_point_overflow))
        (finish x (next x (with_sum x.cpu (r1 x) sum overflow)) [] [])) (enabled ∙ goes)))
        (left_finished h x standing _ d ended
        (left ∙ past_it h x standing (with_psw (with_general c (bits 16 8 11 text.first) sum) coded) psw (moved _ refl)
        ∙ ap (next x) (sum_state c sum overflow _ coded code ∙ state))
        marks)

  -- ADD and SUBTRACT, by what the code has of the sum of its two words
  pub of_words : (d : Done) {storage keys : List ℕ} (sum : ℕ → ℕ → ℕ) (overflows : ℕ → ℕ → Bool) (coded : Psw) (value : ℕ)
      → (let a = general c (bits 16 8 11 text.first) in let b = general c (text.first % 16) in
      (coded ≡ (with_condition_code c (sum_code (sum a b) (overflows a b))).psw) × (value ≡ sum a b))
      → ((overflow : Bool) → coded ≡ (with_condition_code c (sum_code value overflow)).psw → Left h g c (summed x value overflow) d storage keys)
      → (let a = general x.cpu (r1 x) in let b = general x.cpu (r2 x) in Left h g c (summed x (sum a b) (overflows a b)) d storage keys)
  of_words d {storage} {keys} sum overflows coded value (code, same) left =
      let over = overflows (general c (bits 16 8 11 text.first)) (general c (text.first % 16)) in
      subst (λ o. Left h g c o d storage keys)
      (λ i. summed x ((same ∙ (λ j. sum (first_register j) (second_register j))) i) (overflows (first_register i) (second_register i)))
      (left over (code ∙ ap (λ n. (with_condition_code c (sum_code n over)).psw) (sym same)))

  -- SUPERVISOR CALL is an interruption behind the instruction
  pub supervisor_called : text.ilc ≤ 3 → (d : Done) {storage keys : List ℕ} (psw : Psw) (after : Cpu) → psw ≡ (advanced c text.ilc).psw
      → after ≡ with_psw c psw
      → (let word = text.ilc * 131072 + text.first % 256 in
      Left h g c (interrupt x after supervisor_call_areas (word % 65536) (fields_beside after (code_bytes word None))) d storage keys)
      → Left h g c (supervisor_call x) d storage keys
  unfolding supervisor_call
  supervisor_called short d {storage} {keys} psw after moved set left =
      let number : text.first % 256 ≡ bits 16 8 15 text.first = ap (λ n. n % 256) (sym (div-one text.first)) in
      let to = set ∙ past_it h x standing c psw moved ∙ ap (next x) (sym standing.of_cpu) in
      let code = code_of-word text.ilc (text.first % 256) (omega arith) ∙ number ∙ ap (λ u. bits 16 8 15 u.first) (sym standing.of_text) in
      let fields =
      code_word text.ilc (text.first % 256) short (omega arith) ∙ ap (code_fields text.ilc) number
      ∙ ap (λ u. code_fields u.ilc (bits 16 8 15 u.first)) (sym standing.of_text) in
      subst (λ o. Left h g c o d storage keys) (λ i. interrupt x (to i) supervisor_call_areas (code i) (fields_beside (to i) (fields i))) left
