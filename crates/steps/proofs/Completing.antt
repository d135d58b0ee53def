-- Instructions with no operand in storage, whose text stands on a kept block.
-- Assumes nothing.
use Prim.Native.Nat.{ℕ}
use native.Mathlib.Omega.{arith}
use mathlib.Core.Path.{◌≡◌, refl, ap, sym, ◌∙◌}
use mathlib.Core.Bool.{Bool, true, false, cond, ◌&&◌}
use mathlib.Core.List.{[]}
use lib.ListN.{length}
use lib.Seq.{set_out}
use Rattle.machine.specs.declared.Cpu.{Cpu}
use Rattle.machine.specs.declared.Guest.{Guest}
use Rattle.machine.specs.declared.Psw.{Psw}
use Rattle.machine.specs.Words.{bits}
use Rattle.machine.specs.Psw.{overflow_enabled, with_psw, with_general, with_address, advanced, with_condition_code}
use Rattle.machine.specs.Host.{Host}
use Rattle.machine.specs.Opcodes.{length_of}
use Rattle.machine.specs.Outcomes.{Progress}
use Rattle.machine.specs.Execute.{r1, next, finish, sum_code, summed, branch}
use Rattle.interruptions.specs.After.{left_by, Standing, Left}
use Rattle.execute.proofs.Ending.{register_set, branched, summed_ends}
use Rattle.blocks.specs.Keeping.{Block, HasMarks}
use Rattle.steps.specs.Texting.{short_text, text_frame, done_with, done_as}
use Rattle.steps.proofs.Marking.{marked_text}

-- a branch changes the PSW alone
at_psw : (c : Cpu) (taken : Bool) (a n : ℕ) → with_psw c (cond taken (with_address c a) (advanced c n)).psw ≡ cond taken (with_address c a) (advanced c n)
unfolding with_psw advanced with_address
at_psw c true a n = refl
at_psw c false a n = refl

-- the register that is set, and none

set_one : (c : Cpu) (psw : Psw) (register value : ℕ) → left_by c (done_with c psw register value) ≡ with_psw (with_general c register value) psw
unfolding left_by with_psw with_general
set_one c psw register value = refl

pub set_none : (c : Cpu) (psw : Psw) → length c.general.words ≡ 16 → left_by c (done_with c psw 16 0) ≡ with_psw c psw
unfolding left_by with_psw
set_none c psw sixteen = λ i. record {
  psw = psw;
  timer = c.timer;
  control = c.control;
  general = record { words = set_out c.general.words 16 0 (omega (arith, sixteen)) i };
}

pub set_unset : (c : Cpu) (psw : Psw) → left_by c (done_as psw c.timer c.control) ≡ with_psw c psw
unfolding left_by with_psw
set_unset c psw = refl

module _ (h : Host) (x : Progress) {g : Guest} {clock : ℕ} {c : Cpu} (text : Block) (first second : ℕ)
    (standing : Standing h x g clock c (short_text first second) (text_frame text)) (marks : HasMarks h.keys false text) (psw : Psw) where
  -- a general register is set
  pub set_here : (value : ℕ) {v : ℕ} → value ≡ v → psw ≡ (advanced c (length_of first)).psw
      → Left h g c (finish x (next x (with_general x.cpu (r1 x) v)) [] []) (done_with c psw (bits 16 8 11 first) value) h.storage h.keys
  set_here value same moved =
      register_set h x standing (done_with c psw (bits 16 8 11 first) value) psw value same moved refl (set_one c psw (bits 16 8 11 first) value) (marked_text h.keys text marks)

  -- an add or a subtract
  pub sum_here : (sum : ℕ) (overflow : Bool) → (overflow && overflow_enabled c) ≡ false → (coded : Psw) → coded ≡ (with_condition_code c (sum_code sum overflow)).psw
      → ((k : Cpu) → k.psw ≡ coded → psw ≡ (advanced k (length_of first)).psw)
      → Left h g c (summed x sum overflow) (done_with c psw (bits 16 8 11 first) sum) h.storage h.keys
  sum_here sum overflow quiet coded code moved =
      summed_ends h x standing sum overflow quiet (done_with c psw (bits 16 8 11 first) sum) coded psw code moved refl (set_one c psw (bits 16 8 11 first) sum)
      (marked_text h.keys text marks)

  -- a branch
  pub branch_here : length c.general.words ≡ 16 → (taken : Bool) (a : ℕ) {b : Bool} {to : ℕ} → taken ≡ b → a ≡ to
      → psw ≡ (cond taken (with_address c a) (advanced c (length_of first))).psw
      → Left h g c (branch x b to) (done_with c psw 16 0) h.storage h.keys
  branch_here sixteen taken a same at moved =
      branched h x standing (done_with c psw 16 0) taken a same at refl
      (set_none c psw sixteen ∙ ap (with_psw c) moved ∙ at_psw c taken a (length_of first)
      ∙ (λ i. cond taken (with_address (sym standing.of_cpu i) a) (advanced (sym standing.of_cpu i) (sym standing.of_text i).ilc)))
      (marked_text h.keys text marks)
