-- SUPERVISOR CALL, done by numbers behind its tests.
-- Assumes nothing.
use Prim.Native.Nat.{ℕ, ◌%◌}
use native.Mathlib.Nat.{div-one}
use native.Mathlib.Omega.{arith}
use mathlib.Core.Path.{◌≡◌, refl, ap, sym, subst, ◌∙◌}
use mathlib.Core.Bool.{false}
use mathlib.Core.List.{List}
use Rattle.machine.specs.declared.Class.TheVariants.{Svc}
use Rattle.machine.specs.declared.Cpu.{Cpu}
use Rattle.machine.specs.declared.Failure.{Failure}
use Rattle.machine.specs.declared.Guest.{Guest}
use Rattle.machine.specs.declared.Psw.{Psw}
use Rattle.machine.specs.Words.{bits}
use Rattle.machine.specs.Record.{psw_of}
use Rattle.machine.specs.Psw.{with_psw, with_address, advanced}
use Rattle.machine.specs.Host.{Located}
use Rattle.machine.specs.Addresses.{Accesses, all, stopped, when_reached}
use Rattle.machine.specs.Opcodes.{length_of}
use Rattle.machine.specs.Outcomes.{Outcome, Progress}
use Rattle.machine.specs.Interruptions.{Areas, interrupt}
use Rattle.machine.specs.Execute.{supervisor_call}
use Rattle.machine.specs.Units.{intercepts_svc, intercepts}
use Rattle.interruptions.specs.After.{left_by, cpu_after, Left}
use Rattle.steps.specs.Texting.{done_as}
use Rattle.steps.proofs.Reading.{length_one}
use Rattle.area.specs.Keeping.{Placed}
use Rattle.calls.specs.Calling.{Interrupts, Calling}
use Rattle.special.specs.declared.Change.TheVariants.{Called}
use Rattle.single.specs.Deciding.{Calls}
use Rattle.single.proofs.Deciding.{svc_decides}

-- The architecture is the guest's for good.

on_reached : {A : Type 0} (P : A → Type 0) (a : Accesses) {otherwise : Failure → A} {onward : List Located → A} → ((f : Failure) → P (otherwise f)) → ((ls : List Located) → P (onward ls))
    → P (when_reached a otherwise onward)
unfolding when_reached
on_reached P (stopped f) fails goes = fails f
on_reached P (all ls) fails goes = goes ls

interrupt_keeps : (before : Cpu) (x : Progress) (to : Cpu) (areas : Areas) (code : ℕ) (fields : List ℕ) → to.psw.system370 ≡ before.psw.system370
    → (cpu_after before (interrupt x to areas code fields)).psw.system370 ≡ before.psw.system370
unfolding interrupt cpu_after with_psw psw_of
interrupt_keeps before x to areas code fields same =
    on_reached Keeps _ (λ f. refl) (λ stores. on_reached Keeps _ (λ f. refl) (λ fetched. same))
  where
    Keeps : Outcome → Type 0
    Keeps o = (cpu_after before o).psw.system370 ≡ before.psw.system370

call_keeps : (c : Cpu) (x : Progress) → x.cpu ≡ c → (cpu_after c (supervisor_call x)).psw.system370 ≡ c.psw.system370
unfolding supervisor_call advanced with_address with_psw
call_keeps c x of_cpu = interrupt_keeps c x _ _ _ _ (ap (λ k. k.psw.system370) of_cpu)

module _ (g : Guest) (area : ℕ) (psw : Psw) (timer number : ℕ) (storage : List ℕ) (new : Psw) (storage' : List ℕ) where
  -- SVC
  pub called_leaves : intercepts_svc g number ≡ false → Placed area → Interrupts area psw (Calling number) supervisor_call storage new storage'
      → Calls g area psw timer number storage (record { change = Called; left = new.left; right = new.right; timer = timer }) storage'
  unfolding intercepts left_by
  called_leaves free placed interrupts guard h x clock c text first stands timed is fields =
      let standing = (stands placed).standing in
      let length : length_of first ≡ 1 = length_one first (omega (arith, is)) in
      let (left, alike) = interrupts guard h g x clock c _ _ (stands placed) (length, fields) in
      let immediate : bits 16 8 15 x.text.first ≡ number = ap (λ u. bits 16 8 15 u.first) standing.of_text ∙ ap (λ n. n % 256) (div-one first) ∙ fields in
      let asked : intercepts Svc x ≡ false = (λ i. intercepts_svc (standing.of_guest i) (immediate i)) ∙ free in
      let architecture : new.system370 ≡ psw.system370 =
      ap (λ k. k.psw.system370) left.cpu ∙ call_keeps c x standing.of_cpu ∙ ap (λ p. p.system370) (stands placed).of_psw in (
        subst (λ o. Left h g c o (done_as (record { left = new.left; right = new.right; system370 = psw.system370 }) timer c.control) storage' h.keys)
            (sym (svc_decides x first c standing.of_cpu is asked))
            (subst (λ d. Left h g c (supervisor_call x) d storage' h.keys)
            (λ i. done_as (record { left = new.left; right = new.right; system370 = architecture i }) (timed i) c.control) left),
        alike,
      )
