-- While the interval timer's word cannot be stored into, no interruption completes: the old PSW of each stands on the same page.
-- Assumes nothing.
use Rattle.std.specs.Prelude.{Err, Ok}
use Prim.Native.Nat.{ℕ, zero, suc, ◌+◌, ◌*◌, ◌%◌, ◌<◌}
use native.Mathlib.Omega.{arith}
use mathlib.Core.Path.{◌≡◌, refl, ap, sym, ◌∙◌}
use mathlib.Core.Bool.{Bool, true, false, cond, not, ◌&&◌}
use mathlib.Core.List.{List}
use lib.Dec.{eqb}
use lib.ListN.{length}
use Rattle.machine.specs.declared.Class.{Class}
use Rattle.machine.specs.declared.Class.TheVariants.{Lr, Ar, Sr, Bcr, Svc, La, Bc, St, L, Lpsw, Stctl, Lctl, Stck, Spt, Stpt, Mandatory, Unassigned}
use Rattle.machine.specs.declared.Cpu.{Cpu}
use Rattle.machine.specs.declared.Failure.{Failure}
use Rattle.machine.specs.declared.Guest.{Guest}
use Rattle.machine.specs.declared.Reason.{Reason}
use Rattle.machine.specs.declared.Reason.TheVariants.{Program, Operation}
use Rattle.machine.specs.Words.{bit}
use Rattle.machine.specs.Psw.{overflow_enabled}
use Rattle.machine.specs.Failures.{operation, protection, host_fault}
use Rattle.machine.specs.Host.{Host, Located, host_virtual, backing, cell_of, view}
use Rattle.machine.specs.Addresses.{real_access, settle, denied, Accesses, all, stopped, and_then, accesses, up_from, when_reached}
use Rattle.machine.specs.Outcomes.{Outcome, intercepted, faulted, Progress}
use Rattle.machine.specs.Interruptions.{Areas, program_areas, fields_beside, interrupt, after_exception, program_fields, exception}
use Rattle.machine.specs.Execute.{r1, finish, fetching, storing, summed, load_register, add, subtract, branch, branch_register, branch_indexed, supervisor_call, load_address, store, load, load_psw, controls_from, range_count, store_control, load_control, store_clock, set_timer, store_timer, intercept_instruction, execute}
use Rattle.machine.proofs.Words.{length-words_bytes}
use Rattle.laws.proofs.Pages.{backing-in_page}
use Rattle.interval.specs.Standing.{word_address}
use Rattle.interval.proofs.Behind.{prefixed-low, word_by, word_open}
use Rattle.ahead.specs.Completing.{is_complete, all_reached, reaches, performs}
use Rattle.machine.specs.Walk.{Walk, at_frame}

no_stop : {R : Type 0} {f : Failure} {ls : List Located} → stopped f ≡ all ls → R
no_stop e = let z : ◌≡◌ {A = ℕ} 0 1 = cc in absurd (omega arith)

length_controls : (c : Cpu) (i n : ℕ) → length (controls_from c i n) ≡ n
unfolding controls_from
length_controls c i zero = refl
length_controls c i (suc n) = ap suc (length_controls c ((i + 1) % 16) n)

-- whether all bytes are reached decides
by_accesses : (a : Accesses) (fails : Failure → Outcome) (onward : List Located → Outcome) → ((f : Failure) → is_complete (fails f) ≡ false)
    → ((ls : List Located) → is_complete (onward ls) ≡ true) → is_complete (when_reached a fails onward) ≡ all_reached a
unfolding when_reached all_reached
by_accesses (all ls) fails onward halts completes = completes ls
by_accesses (stopped f) fails onward halts completes = halts f

-- so for a test
by_test : (b : Bool) (o p : Outcome) → is_complete o ≡ false → is_complete p ≡ true → is_complete (cond b o p) ≡ not b
by_test true o p halts completes = halts
by_test false o p halts completes = completes

-- an exception is a host fault, code 44, code 8 or an interruption
by_controls : (host asked each : Bool) (f : Failure) (r s : Reason) (c : Cpu) (o : Outcome) → is_complete o ≡ false
    → is_complete (cond host (faulted f) (cond asked (intercepted r c) (cond each (intercepted s c) o))) ≡ false
unfolding is_complete
by_controls true asked each f r s c o e = refl
by_controls false true each f r s c o e = refl
by_controls false false true f r s c o e = refl
by_controls false false false f r s c o e = e

module _ (g : Guest) (h : Host) {why : Failure} (shut : word_by g h ≡ stopped why) where
  -- every byte of the page is denied
  pub low-denied : (a : ℕ) → a < 4096 → (f : Failure) × (real_access g (view g h) true a ≡ denied f)
  unfolding real_access settle view cell_of
  low-denied a low = by_page (backing g h (g.prefix * 4096 + a)) refl
    where
      by_protection : (frame : ℕ) (protected : Bool) → backing g h (g.prefix * 4096 + a) ≡ at_frame frame protected
          → (f : Failure) × (real_access g (view g h) true a ≡ denied f)
      by_protection frame true e = (host_fault (host_virtual g (g.prefix * 4096 + a)) protection, simp (prefixed-low g a low, e))
      by_protection frame false e = no_stop (sym shut ∙ word_open g h (backing-in_page g h _ (word_address g) e (omega arith)))

      by_page : (w : Walk) → backing g h (g.prefix * 4096 + a) ≡ w → (f : Failure) × (real_access g (view g h) true a ≡ denied f)
      by_page (Err f) e = (f, simp (prefixed-low g a low, e))
      by_page (Ok page) e = by_protection page.frame page.protected e

  module _ (x : Progress) (of_guest : x.guest ≡ g) (of_view : x.view ≡ view g h) where
    pub interrupt_incomplete : (c : Cpu) (areas : Areas) (code : ℕ) (fields : List ℕ) → areas.old < 4096 → is_complete (interrupt x c areas code fields) ≡ false
    unfolding interrupt when_reached accesses up_from and_then is_complete
    interrupt_incomplete c areas code fields low = rw (of_guest, of_view, (low-denied areas.old low).1)

    pub exception_incomplete : (c : Cpu) (f : Failure) → is_complete (exception x c f) ≡ false
    unfolding exception
    exception_incomplete c f =
        by_controls f.host (eqb f.code operation && bit 8 0 x.guest.interceptions) (bit 8 1 x.guest.interceptions) f (Operation x.text)
        (Program f.code x.text.ilc f.address) (after_exception x c f)
        (interrupt x (after_exception x c f) program_areas f.code (fields_beside (after_exception x c f) (program_fields x f)))
        (interrupt_incomplete (after_exception x c f) program_areas f.code (fields_beside (after_exception x c f) (program_fields x f)) (omega arith))

    fetching_completes : (a n : ℕ) (after : List ℕ → Cpu) → is_complete (fetching x a n after) ≡ reaches x false a n
    unfolding fetching finish is_complete
    fetching_completes a n after = by_accesses _ _ _ (exception_incomplete x.cpu) (λ ls. refl)

    storing_completes : (a n : ℕ) (bytes : List ℕ) (c : Cpu) → length bytes ≡ n → is_complete (storing x a bytes c) ≡ reaches x true a n
    unfolding storing finish is_complete
    storing_completes a n bytes c long =
        by_accesses _ _ _ (exception_incomplete x.cpu) (λ ls. refl) ∙ ap (reaches x true a) long

    summed_completes : (sum : ℕ) (overflow : Bool) → is_complete (summed x sum overflow) ≡ not (overflow && overflow_enabled x.cpu)
    unfolding summed finish is_complete
    summed_completes sum overflow = by_test (overflow && overflow_enabled x.cpu) _ _ (exception_incomplete _ _) refl

    pub execute_completes : (k : Class) → is_complete (execute k x) ≡ performs k x
    unfolding execute performs is_complete finish load_register add subtract branch branch_register branch_indexed supervisor_call load_address store load load_psw store_control load_control store_clock set_timer store_timer intercept_instruction
    execute_completes Lr = refl
    execute_completes Ar = summed_completes _ _
    execute_completes Sr = summed_completes _ _
    execute_completes Bcr = refl
    execute_completes Svc = interrupt_incomplete _ _ _ _ (omega arith)
    execute_completes La = refl
    execute_completes Bc = refl
    execute_completes St = storing_completes _ 4 _ _ refl
    execute_completes L = fetching_completes _ 4 _
    execute_completes Lpsw = fetching_completes _ 8 _
    execute_completes Stctl = storing_completes _ (4 * range_count x) _ _ (length-words_bytes _ ∙ ap (λ n. 4 * n) (length_controls x.cpu (r1 x) (range_count x)))
    execute_completes Lctl = fetching_completes _ (4 * range_count x) _
    execute_completes Stck = storing_completes _ 8 _ _ refl
    execute_completes Spt = fetching_completes _ 8 _
    execute_completes Stpt = storing_completes _ 8 _ _ refl
    execute_completes Mandatory = refl
    execute_completes Unassigned = exception_incomplete _ _
