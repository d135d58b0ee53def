-- An exception by its cases, and the code fields of a program interruption as one word.
-- Assumes nothing.
use Rattle.std.specs.Prelude.{None, Some}
use Prim.Native.Nat.{ℕ, ◌+◌, ◌*◌, ◌/◌, ◌%◌, ◌≤◌, ◌<◌}
use native.Mathlib.Omega.{arith}
use mathlib.Core.Path.{◌≡◌, refl, ap, sym, subst, ◌∙◌}
use mathlib.Core.Bool.{Bool, true, false, cond, ◌&&◌, ◌||◌}
use mathlib.Core.List.{List, [], ◌∷◌, ◌++◌}
use lib.Dec.{eqb}
use Rattle.machine.specs.declared.Cpu.{Cpu}
use Rattle.machine.specs.declared.Failure.{Failure}
use Rattle.machine.specs.declared.Guest.{Guest}
use Rattle.machine.specs.declared.Psw.{Psw}
use Rattle.machine.specs.declared.Reason.TheVariants.{Program, Operation}
use Rattle.machine.specs.declared.Text.{Text}
use Rattle.machine.specs.Words.{bit, word_bytes}
use Rattle.machine.specs.Psw.{with_psw, with_address, advanced}
use Rattle.machine.specs.Failures.{operation, is_translation}
use Rattle.machine.specs.Host.{Host}
use Rattle.machine.specs.Outcomes.{Outcome, intercepted, faulted, Progress}
use Rattle.machine.specs.Interruptions.{Areas, program_areas, code_fields, fields_beside, interrupt, after_exception, program_fields, exception}
use Rattle.interruptions.specs.declared.Done.{Done}
use Rattle.interruptions.specs.declared.Event.TheVariants as event
use Rattle.interruptions.specs.declared.Frames.{Frames}
use Rattle.interruptions.specs.After.{left_by, Standing, Left, code_bytes}
use Rattle.interruptions.proofs.Leaving.{left_faulted, left_intercepted}

pub code_word : (ilc code : ℕ) → ilc ≤ 3 → code < 65536 → word_bytes (ilc * 131072 + code) ≡ code_fields ilc code
code_word ilc code short small =
    let first : (ilc * 131072 + code) / 65536 / 256 % 256 ≡ 0 = omega arith in
    let second : (ilc * 131072 + code) / 65536 % 256 ≡ ilc * 2 = omega arith in
    let third : (ilc * 131072 + code) / 256 % 256 ≡ code / 256 % 256 = omega arith in
    let fourth : (ilc * 131072 + code) % 256 ≡ code % 256 = omega arith in
    λ i. first i ∷ second i ∷ third i ∷ fourth i ∷ []

-- ILC and code, taken from the word
pub ilc_of-word : (ilc code : ℕ) → ilc ≤ 3 → code < 65536 → (ilc * 131072 + code) / 131072 % 4 ≡ ilc
ilc_of-word ilc code short small = omega arith

pub code_of-word : (ilc code : ℕ) → code < 65536 → (ilc * 131072 + code) % 65536 ≡ code
code_of-word ilc code small = omega arith

-- the code fields of a program interruption, as the code holds them
pub long_fields : (x : Progress) (f : Failure) (ilc : ℕ) → ilc ≤ 3 → f.code < 65536 → x.text.ilc ≡ ilc → is_translation f.code ≡ true
    → code_bytes (ilc * 131072 + f.code) (Some f.address) ≡ program_fields x f
unfolding program_fields
long_fields x f ilc short small told long =
    ap (λ l. l ++ word_bytes f.address) (code_word ilc f.code short small ∙ ap (λ n. code_fields n f.code) (sym told))
    ∙ ap (λ b. code_fields x.text.ilc f.code ++ cond b (word_bytes f.address) []) (sym long)

pub short_fields : (x : Progress) (f : Failure) (ilc : ℕ) → ilc ≤ 3 → f.code < 65536 → x.text.ilc ≡ ilc → is_translation f.code ≡ false
    → code_bytes (ilc * 131072 + f.code) None ≡ program_fields x f
unfolding program_fields
short_fields x f ilc short small told no_address =
    code_word ilc f.code short small ∙ ap (λ n. code_fields n f.code) (sym told)
    ∙ ap (λ b. code_fields x.text.ilc f.code ++ cond b (word_bytes f.address) []) (sym no_address)

taken : {b : Bool} (o p : Outcome) → b ≡ true → cond b o p ≡ o
taken o p e = ap (λ b. cond b o p) e

module _ (h : Host) (x : Progress) {g : Guest} {clock : ℕ} {c : Cpu} {text : Text} {t : Frames} (standing : Standing h x g clock c text t)
    (to : Cpu) (f : Failure) where
  -- an exception that is no host fault goes by the guest's interception controls
  by_controls : f.host ≡ false → exception x to f ≡
      cond (eqb f.code operation && bit 8 0 g.interceptions) (intercepted (Operation text) (after_exception x to f))
      (cond (bit 8 1 g.interceptions) (intercepted (Program f.code text.ilc f.address) (after_exception x to f))
      (interrupt x (after_exception x to f) program_areas f.code (fields_beside (after_exception x to f) (program_fields x f))))
  unfolding exception
  by_controls guests = rw (guests, standing.of_guest, standing.of_text)

  pub excepted_host : f.host ≡ true → (d : Done) → d.event ≡ event.Faulted f → left_by c d ≡ c → Left h g c (exception x to f) d h.storage h.keys
  unfolding exception
  excepted_host host d ended kept =
      subst (λ o. Left h g c o d h.storage h.keys) (sym (taken (faulted f) _ host)) (left_faulted h g c f d ended kept refl refl)

  pub excepted_operation : f.host ≡ false → (eqb f.code operation && bit 8 0 g.interceptions) ≡ true → (d : Done)
      → d.event ≡ event.Intercepted (Operation text) → left_by c d ≡ after_exception x to f → Left h g c (exception x to f) d h.storage h.keys
  excepted_operation guests asked d ended left =
      rw (by_controls guests, asked) (left_intercepted h g c (Operation text) (after_exception x to f) d ended left)

  pub excepted_program : f.host ≡ false → (eqb f.code operation && bit 8 0 g.interceptions) ≡ false → bit 8 1 g.interceptions ≡ true
      → (d : Done) → d.event ≡ event.Intercepted (Program f.code text.ilc f.address) → left_by c d ≡ after_exception x to f
      → Left h g c (exception x to f) d h.storage h.keys
  excepted_program guests other asked d ended left =
      rw (by_controls guests, other, asked)
      (left_intercepted h g c (Program f.code text.ilc f.address) (after_exception x to f) d ended left)

  pub excepted_interruption : f.host ≡ false → (eqb f.code operation && bit 8 0 g.interceptions) ≡ false → bit 8 1 g.interceptions ≡ false
      → (d : Done) {to' : Cpu} {areas : Areas} {code : ℕ} {fields storage keys : List ℕ} → to' ≡ after_exception x to f → areas ≡ program_areas → code ≡ f.code
      → fields ≡ program_fields x f → Left h g c (interrupt x to' areas code (fields_beside to' fields)) d storage keys → Left h g c (exception x to f) d storage keys
  excepted_interruption guests other refused d {storage = storage} {keys = keys} reached areas code fields left =
      rw (by_controls guests, other, refused)
      (subst (λ o. Left h g c o d storage keys) (λ i. interrupt x (reached i) (areas i) (code i) (fields_beside (reached i) (fields i))) left)

module _ (x : Progress) (k : Cpu) (f : Failure) {psw : Psw} where
  pub at_the_instruction : (is_translation f.code || eqb x.text.ilc 0) ≡ true → k.psw ≡ psw → with_psw k psw ≡ after_exception x k f
  unfolding with_psw after_exception
  at_the_instruction stays same =
      ap (with_psw k) (sym same) ∙ sym (ap (λ b. cond b k (advanced k x.text.ilc)) stays)

  pub past_the_instruction : (is_translation f.code || eqb x.text.ilc 0) ≡ false → psw ≡ (advanced k x.text.ilc).psw
      → with_psw k psw ≡ after_exception x k f
  unfolding with_psw after_exception advanced with_address
  past_the_instruction goes moved = ap (with_psw k) moved ∙ sym (ap (λ b. cond b k (advanced k x.text.ilc)) goes)

-- an exception of the state that the unit began with
pub exception_of_lem : (h : Host) (x : Progress) {g : Guest} {clock : ℕ} {c : Cpu} {text : Text} {t : Frames} → Standing h x g clock c text t
    → (k : Cpu) → k ≡ c → (f : Failure) (d : Done) {storage keys : List ℕ} → Left h g c (exception x k f) d storage keys
    → Left h g c (exception x x.cpu f) d storage keys
exception_of_lem h x {g} {clock} {c} standing k same f d {storage} {keys} left =
    subst (λ k. Left h g c (exception x k f) d storage keys) (same ∙ sym standing.of_cpu) left

-- and of the state that it is in
pub exception_of_state : (h : Host) (x : Progress) {g : Guest} {clock : ℕ} {c : Cpu} {text : Text} {t : Frames} → Standing h x g clock c text t
    → (f : Failure) (d : Done) {storage keys : List ℕ} → Left h g c (exception x x.cpu f) d storage keys → Left h g c (exception x c f) d storage keys
exception_of_state h x {g} {clock} {c} standing f d {storage} {keys} left = subst (λ k. Left h g c (exception x k f) d storage keys) standing.of_cpu left
