-- The PSW that an exception leaves is of the architecture of the one before.
-- Assumes nothing.
use Prim.Native.Nat.{ℕ}
use mathlib.Core.Path.{◌≡◌, refl, ap, sym, subst, ◌∙◌}
use mathlib.Core.Bool.{false, ◌&&◌, ◌||◌}
use mathlib.Core.List.{List}
use lib.Dec.{eqb}
use Rattle.machine.specs.declared.Cpu.{Cpu}
use Rattle.machine.specs.declared.Failure.{Failure}
use Rattle.machine.specs.declared.Guest.{Guest}
use Rattle.machine.specs.declared.Psw.{Psw}
use Rattle.machine.specs.Words.{bit}
use Rattle.machine.specs.Record.{psw_of}
use Rattle.machine.specs.Psw.{with_psw, with_address, advanced}
use Rattle.machine.specs.Failures.{operation, is_translation}
use Rattle.machine.specs.Host.{Located}
use Rattle.machine.specs.Addresses.{Accesses, all, stopped, when_reached}
use Rattle.machine.specs.Outcomes.{Outcome, Progress}
use Rattle.machine.specs.Interruptions.{Areas, interrupt, after_exception, exception}
use Rattle.machine.proofs.Tests.{on_either_arm}
use Rattle.interruptions.specs.After.{left_by, cpu_after, Left}
use Rattle.steps.specs.Texting.{done_as}
use Rattle.calls.specs.Calling.{Interrupts, Excepting}
use Rattle.special.specs.declared.Done.{Done}
use Rattle.special.specs.Performing.{psw_in}
use Rattle.exceptions.specs.Excepting.{Having}

-- what follows accesses
by_reach : (P : Outcome → Type 0) (r : Accesses) {otherwise : Failure → Outcome} {onward : List Located → Outcome}
    → ((f : Failure) → P (otherwise f)) → ((ls : List Located) → P (onward ls)) → P (when_reached r otherwise onward)
unfolding when_reached
by_reach P (stopped f) p q = p f
by_reach P (all ls) p q = q ls

module _ (x : Progress) (c : Cpu) where
  -- the outcome leaves a PSW of the same architecture
  abbrev Same : Outcome → Type 0
  Same o = (cpu_after c o).psw.system370 ≡ c.psw.system370

  past_same : (f : Failure) → (after_exception x c f).psw.system370 ≡ c.psw.system370
  unfolding after_exception advanced with_address with_psw
  past_same f = on_either_arm (λ (k : Cpu). k.psw.system370 ≡ c.psw.system370) (is_translation f.code || eqb x.text.ilc 0) refl refl

  interrupt_same : (to : Cpu) → to.psw.system370 ≡ c.psw.system370 → (areas : Areas) (code : ℕ) (fields : List ℕ) → Same (interrupt x to areas code fields)
  unfolding interrupt cpu_after with_psw psw_of
  interrupt_same to same areas code fields = by_reach Same _ (λ f. refl) (λ stores. by_reach Same _ (λ f. refl) (λ fetched. same))

  exception_same : (f : Failure) → Same (exception x c f)
  unfolding exception cpu_after
  exception_same f =
      on_either_arm Same f.host refl
      (on_either_arm Same (eqb f.code operation && bit 8 0 x.guest.interceptions) (past_same f)
      (on_either_arm Same (bit 8 1 x.guest.interceptions) (past_same f) (interrupt_same (after_exception x c f) (past_same f) _ _ _)))

-- so the PSW that comes back has its words and the architecture of the one before
own_psw : (d : Done) (psw later : Psw) → d.left ≡ later.left → d.right ≡ later.right → later.system370 ≡ psw.system370 → later ≡ psw_in d psw
own_psw d psw later left right same = λ i. record { left = sym left i; right = sym right i; system370 = same i }

-- an exception that interrupts, by the words of the PSW that it leaves
pub interrupts_so : (area : ℕ) (psw : Psw) (guest : Guest) (ilc : ℕ) (f : Failure) (storage : List ℕ) (later : Psw) (storage' : List ℕ) (d : Done)
    → d.left ≡ later.left → d.right ≡ later.right
    → (eqb f.code operation && bit 8 0 guest.interceptions) ≡ false → bit 8 1 guest.interceptions ≡ false
    → Interrupts area psw (Excepting ilc f.code) (λ x. exception x x.cpu f) storage later storage'
    → Interrupts area psw (Having guest ilc) (λ x. exception x x.cpu f) storage (psw_in d psw) storage'
unfolding left_by
interrupts_so area psw guest ilc f storage later storage' d left right first second interrupts guard h g x clock c text t stands having =
    let quiet : (eqb f.code operation && bit 8 0 g.interceptions) ≡ false = ap (λ k. eqb f.code operation && bit 8 0 k.interceptions) having.0 ∙ first in
    let calm : bit 8 1 g.interceptions ≡ false = ap (λ k. bit 8 1 k.interceptions) having.0 ∙ second in
    let (leaves, alike) = interrupts guard h g x clock c text t stands (having.1, quiet, calm) in
    let kept : later.system370 ≡ psw.system370 =
    ap (λ k. k.psw.system370) leaves.cpu ∙ ap (λ k. (cpu_after c (exception x k f)).psw.system370) stands.standing.of_cpu
    ∙ exception_same x c f ∙ ap (λ p. p.system370) stands.of_psw in
    (subst (λ p. Left h g c (exception x x.cpu f) (done_as p c.timer c.control) storage' h.keys) (own_psw d psw later left right kept) leaves, alike)
