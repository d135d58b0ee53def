-- The PSW that a done unit leaves.
-- Assumes nothing.
use Prim.Native.Nat.{ℕ, ◌^◌, ◌<◌}
use mathlib.Core.Path.{◌≡◌, refl, ap, sym, ◌∙◌}
use Rattle.machine.specs.declared.Cpu.{Cpu}
use Rattle.machine.specs.declared.Psw.{Psw}
use Rattle.machine.specs.Psw.{basic_control, condition_code, instruction_address, with_psw, with_address, advanced, code_in_left, code_in_right, with_condition_code}
use Rattle.machine.proofs.Tests.{on_either_arm}
use Rattle.execute.proofs.Ending.{small_code}
use Rattle.psws.specs.Psws.{state, Wrapped}
use Rattle.psws.proofs.Placed.{advanced_at, coded_at, at_start}
use Rattle.special.specs.declared.Done.{Done}
use Rattle.special.specs.declared.Change.{Change}
use Rattle.special.specs.declared.Change.TheVariants.{Calm, Called, Changed}
use Rattle.special.specs.Performing.{IfCalm, psw_in, Near}

-- what is so is so where address, condition code and storage alone changed
pub in_calm : (change : Change) {P : Type 0} → P → IfCalm change P
in_calm Calm p = p
in_calm Called p = tt
in_calm Changed p = tt

-- the architecture stays

advanced_kind : (c : Cpu) (n : ℕ) → (advanced c n).psw.system370 ≡ c.psw.system370
unfolding advanced with_address with_psw
advanced_kind c n = refl

coded_kind : (c : Cpu) (code : ℕ) → (with_condition_code c code).psw.system370 ≡ c.psw.system370
unfolding with_condition_code with_psw
coded_kind c code =
    on_either_arm (λ p. p.system370 ≡ c.psw.system370) (basic_control c) {u = code_in_right c.psw code} {v = code_in_left c.psw code} refl refl

of_words : (d : Done) (psw next : Psw) → d.left ≡ next.left → d.right ≡ next.right → next.system370 ≡ psw.system370 → psw_in d psw ≡ next
of_words d psw next left right kind = λ i. record { left = left i; right = right i; system370 = sym kind i }

-- the PSW past an instruction, and with another condition code
module _ (psw next : Psw) (n : ℕ) where
  pub past_psw : ((c : Cpu) → c.psw ≡ psw → next ≡ (advanced c n).psw) → (d : Done) → d.left ≡ next.left → d.right ≡ next.right → psw_in d psw ≡ next
  past_psw moves d left right = of_words d psw next left right (ap (λ p. p.system370) (moves (state psw) refl) ∙ advanced_kind (state psw) n)

  pub coded_psw : (code : ℕ) → ((c : Cpu) → c.psw ≡ psw → next ≡ (advanced (with_condition_code c code) n).psw) → (d : Done) → d.left ≡ next.left → d.right ≡ next.right
      → psw_in d psw ≡ next
  coded_psw code moves d left right =
      of_words d psw next left right
      (ap (λ p. p.system370) (moves (state psw) refl) ∙ advanced_kind (with_condition_code (state psw) code) n ∙ coded_kind (state psw) code)

  -- they differ in address and condition code alone
  module _ (left : psw.left < 2 ^ 32) (right : psw.right < 2 ^ 32) (wrapped : Wrapped psw (instruction_address (state psw))) where
    pub past_near : ((c : Cpu) → c.psw ≡ psw → next ≡ (advanced c n).psw) → Near psw next
    past_near moves =
        let few = small_code (state psw) in
        record {
          address = _;
          code = condition_code (state psw);
          small = few;
          own = moves (state psw) refl
              ∙ advanced_at psw left right (instruction_address (state psw)) (condition_code (state psw)) few (state psw) (sym (at_start psw left right wrapped)) n;
        }

    pub coded_near : (code : ℕ) → code < 4 → ((c : Cpu) → c.psw ≡ psw → next ≡ (advanced (with_condition_code c code) n).psw) → Near psw next
    coded_near code small moves =
        let coded = coded_at psw left right (instruction_address (state psw)) (condition_code (state psw)) (small_code (state psw)) (state psw) (sym (at_start psw left right wrapped)) code small in
        record {
          address = _;
          code = code;
          small = small;
          own = moves (state psw) refl ∙ advanced_at psw left right (instruction_address (state psw)) code small (with_condition_code (state psw) code) coded n;
        }
