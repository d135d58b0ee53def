-- What `Done` leaves of a state, and when an outcome is left.
-- Assumes nothing.
use Rattle.std.specs.Prelude.{Err, Ok, None, Some, Option}
use Prim.Native.Nat.{ℕ, ◌+◌, ◌-◌, ◌*◌, ◌≤◌}
use native.Mathlib.Omega.{arith}
use mathlib.Core.Path.{◌≡◌, refl, ap, sym, subst, ◌∙◌}
use mathlib.Core.Bool.{true, false}
use mathlib.Core.List.{List, []}
use borrow.Rule.Slice.PartMut.{mid_of, put_mid, mid_len}
use lib.ListN.{length}
use lib.Seq.{sets}
use Rattle.machine.specs.declared.Cpu.{Cpu}
use Rattle.machine.specs.declared.Failure.{Failure}
use Rattle.machine.specs.declared.Guest.{Guest}
use Rattle.machine.specs.declared.Psw.{Psw}
use Rattle.machine.specs.declared.Reason.{Reason}
use Rattle.machine.specs.declared.Registers.{Registers}
use Rattle.machine.specs.declared.Text.{Text}
use Rattle.machine.specs.Record.{psw_of, psw_bytes}
use Rattle.machine.specs.Psw.{basic_control, with_psw, with_address, advanced, old_psw}
use Rattle.machine.specs.Refusals.{frames_of}
use Rattle.machine.specs.Failures.{protection, host_fault}
use Rattle.machine.specs.Host.{Host, host, host_virtual, backing, view, referenced, changed, marked}
use Rattle.machine.specs.Outcomes.{Outcome, intercepted, faulted, Progress}
use Rattle.machine.specs.Interruptions.{fields_beside, interrupt}
use Rattle.machine.specs.Execute.{next}
use Rattle.machine.proofs.Tests.{on_either_arm}
use Rattle.address.specs.Touching.{Inside, Backed}
use Rattle.address.proofs.Touches.{inside-backing, backed_backing}
use Rattle.marks.specs.Marks.{mark_frame}
use Rattle.words.proofs.Parts.{two_in_part}
use Rattle.interruptions.specs.declared.Done.{Done}
use Rattle.interruptions.specs.declared.Event.{Event}
use Rattle.interruptions.specs.declared.Event.TheVariants as event
use Rattle.interruptions.specs.declared.Frames.{Frames}
use Rattle.interruptions.specs.declared.Interruption.{Interruption}
use Rattle.interruptions.specs.After.{event_of, cpu_after, storage_after, keys_after, Completes, left_by, mark_text, Standing, Left, code_bytes, areas_of, ilc_of, code_of, fields_of, InPrefixPage, Keyed, event_by, cpu_by, Taken, Took}
use Rattle.interruptions.proofs.Areas.{interrupt_failed, interrupt-protected, interrupt_open}
use Rattle.machine.specs.Walk.{Walk, at_frame}

-- with no register set, the general registers are as they were
pub none_set : (c : Cpu) (how : Event) (psw : Psw) (timer : ℕ) (control : Registers)
    → left_by c (record { event = how; psw = psw; timer = timer; control = control; set = None })
    ≡ record { psw = psw; timer = timer; control = control; general = c.general }
unfolding left_by
none_set c how psw timer control = refl

-- a host fault is left by the state before the unit, and storage and keys as they were
pub left_faulted : (h : Host) (g : Guest) (c : Cpu) (f : Failure) (d : Done) {storage keys : List ℕ} → d.event ≡ event.Faulted f → left_by c d ≡ c
    → h.storage ≡ storage → h.keys ≡ keys → Left h g c (faulted f) d storage keys
unfolding event_of cpu_after storage_after keys_after
left_faulted h g c f d ended kept bytes marks = record { event = ended; cpu = kept; bytes = sym bytes; marks = sym marks }

-- an interception leaves its state, and storage and keys as they were
pub left_intercepted : (h : Host) (g : Guest) (c : Cpu) (r : Reason) (to : Cpu) (d : Done) → d.event ≡ event.Intercepted r → left_by c d ≡ to
    → Left h g c (intercepted r to) d h.storage h.keys
unfolding event_of cpu_after storage_after keys_after
left_intercepted h g c r to d ended left = record { event = ended; cpu = left; bytes = refl; marks = refl }

pub left_completed : (h : Host) (g : Guest) (c : Cpu) (o : Outcome) (d : Done) {to : Cpu} {stores marks : List ℕ → List ℕ} {storage keys : List ℕ}
    → Completes (backing g h) o to stores marks → d.event ≡ event.Completed → left_by c d ≡ to
    → storage ≡ stores h.storage → keys ≡ marks h.keys → Left h g c o d storage keys
left_completed h g c o d all ended to bytes marks = record {
  event = ended ∙ sym all.event;
  cpu = to ∙ sym (all.cpu c);
  bytes = bytes ∙ sym (all.storage h.storage);
  marks = marks ∙ sym (all.keys h.keys);
}

-- past the instruction, from a state with the PSW that was advanced
pub past_it : (h : Host) (x : Progress) {g : Guest} {clock : ℕ} {c : Cpu} {text : Text} {t : Frames} → Standing h x g clock c text t
    → (k : Cpu) (psw : Psw) → psw ≡ (advanced k text.ilc).psw → with_psw k psw ≡ next x k
unfolding advanced with_address with_psw
past_it h x standing k psw moved = ap (with_psw k) moved ∙ ap (λ u. advanced k u.ilc) (sym standing.of_text)

-- an interruption that is a host fault, and one that is completed with a new PSW
taken_faulted : (h : Host) (g : Guest) (to : Cpu) (o : Outcome) (f : Failure) {storage keys : List ℕ} → o ≡ faulted f → h.storage ≡ storage → h.keys ≡ keys
    → Taken h g to o (Err f) storage keys
unfolding event_of cpu_after storage_after keys_after event_by cpu_by
taken_faulted h g to o f {storage} {keys} failed bytes marks =
    subst (λ o. Taken h g to o (Err f) storage keys) (sym failed) (record { event = refl; cpu = λ _. refl; bytes = sym bytes; marks = sym marks })

taken_completed : (h : Host) (g : Guest) (to : Cpu) (o : Outcome) (psw : Psw) {new : Psw} {stores marks : List ℕ → List ℕ} {storage keys : List ℕ}
    → Completes (backing g h) o (with_psw to new) stores marks → psw ≡ new → storage ≡ stores h.storage → keys ≡ marks h.keys
    → Taken h g to o (Ok psw) storage keys
unfolding event_by cpu_by
taken_completed h g to o psw all same bytes marks = record {
  event = all.event;
  cpu = λ before. all.cpu before ∙ ap (with_psw to) (sym same);
  bytes = bytes ∙ sym (all.storage h.storage);
  marks = marks ∙ sym (all.keys h.keys);
}

-- the unit is left as its interruption came out
pub left_taken : (h : Host) (g : Guest) (c to : Cpu) (o : Outcome) (took : Took) (d : Done) {storage keys : List ℕ} → Taken h g to o took storage keys
    → d.event ≡ event_by took → left_by c d ≡ cpu_by c to took → Left h g c o d storage keys
left_taken h g c to o took d taken ended left = record {
  event = ended ∙ sym taken.event;
  cpu = left ∙ sym (taken.cpu c);
  bytes = taken.bytes;
  marks = taken.marks;
}

-- whatever the old PSW is, the new one takes its place
pub old_replaced : (c to : Cpu) (old : Psw) (took : Took) → cpu_by c to took ≡ cpu_by c (with_psw to old) took
unfolding cpu_by with_psw
old_replaced c to old (Err f) = refl
old_replaced c to old (Ok psw) = refl

-- a page that is found behind an absolute address of the guests of this origin and extent lies in the storage and has a key
pub keyed_found : (origin extent d : ℕ) (s k : List ℕ) (a : ℕ) {w : Walk} → ((g : Guest) → g.origin ≡ origin → g.extent ≡ extent → w ≡ backing g (host d s []) a)
    → frames_of s ≤ length k → Keyed s k w
keyed_found origin extent d s k a {w} found each =
    keyed w (subst (Inside s) (sym (found one refl refl)) (inside-backing one d s a)) (subst (Backed one k a) (sym (found one refl refl)) (backed_backing one d s k a each))
  where
    one : Guest
    one = record {
      version = 0;
      interventions = 0;
      mode = 0;
      interceptions = 0;
      lctl = 0;
      prefix = 0;
      origin = origin;
      extent = extent;
      comparator = 0;
      epoch = 0;
      svc = 0;
      svc1 = 0;
      svc2 = 0;
      svc3 = 0;
    }

    keyed : (w : Walk) → Inside s w → Backed one k a w → Keyed s k w
    keyed (Err f) inside backed = tt
    keyed (Ok page) inside (key, small, below) = (inside, key, small)

fields_fit : (word code : ℕ) (address : Option ℕ) → code + 8 ≤ 4096 → code + length (code_bytes word address) ≤ 4096
fields_fit word code None fits = omega arith
fields_fit word code (Some address) fits = omega arith

-- the code fields that are stored beside an old PSW stand in the prefix page
beside_fit : (c : Cpu) (i : Interruption) → InPrefixPage i → i.code + length (fields_beside c (fields_of i)) ≤ 4096
unfolding fields_beside
beside_fit c i (old, code, new) =
    on_either_arm (λ fields. i.code + length fields ≤ 4096) (basic_control c) {u = []} {v = fields_of i} (omega arith) (fields_fit i.word i.code i.address code)

-- the areas of an interruption, stored in the part of a frame, are stored at the frame's address
pub areas_in_frame : (s : List ℕ) (frame : ℕ) (c : Cpu) (i : Interruption) → InPrefixPage i → frame * 4096 + 4096 ≤ length s
    → put_mid (frame * 4096) (frame * 4096 + 4096 - frame * 4096) s
    (sets (sets (mid_of (frame * 4096) (frame * 4096 + 4096 - frame * 4096) s) i.old (psw_bytes (old_psw c (ilc_of i) (code_of i)))) i.code (fields_beside c (fields_of i)))
    ≡ sets (sets s (frame * 4096 + i.old) (psw_bytes (old_psw c (ilc_of i) (code_of i)))) (frame * 4096 + i.code) (fields_beside c (fields_of i))
areas_in_frame s frame c i fits inside =
    let part = mid_len (frame * 4096) (frame * 4096 + 4096) s inside in
    let (old, code, new) = fits in
    two_in_part s (frame * 4096) (frame * 4096 + 4096 - frame * 4096) (omega arith) (psw_bytes (old_psw c (ilc_of i) (code_of i))) (fields_beside c (fields_of i)) i.old i.code
    (omega arith)
    (omega (arith, beside_fit c i fits))

-- an interruption by the host page behind its areas
module _ (h : Host) (x : Progress) {g : Guest} {clock : ℕ} {c : Cpu} {text : Text} {t : Frames} (standing : Standing h x g clock c text t)
    (to : Cpu) (i : Interruption) (fits : InPrefixPage i) (ilc : ilc_of i ≡ text.ilc) where
  viewed : x.view ≡ view x.guest h
  viewed = standing.of_view ∙ ap (λ k. view k h) (sym standing.of_guest)

  -- the ILC in the interruption's word is that of the text
  told : ilc_of i ≡ x.text.ilc
  told = ilc ∙ ap (λ u. u.ilc) (sym standing.of_text)

  behind : {w : Walk} → backing g h (g.prefix * 4096 + i.old) ≡ w → backing x.guest h (x.guest.prefix * 4096 + i.old) ≡ w
  behind e = ap (λ k. backing k h (k.prefix * 4096 + i.old)) standing.of_guest ∙ e

  pub interrupted_failed : (f : Failure) {storage keys : List ℕ} → backing g h (g.prefix * 4096 + i.old) ≡ Err f → h.storage ≡ storage → h.keys ≡ keys
      → Taken h g to (interrupt x to (areas_of i) (code_of i) (fields_beside to (fields_of i))) (Err f) storage keys
  interrupted_failed f failed bytes marks =
      taken_faulted
      h
      g
      to
      _
      f
      (interrupt_failed
      h
      x
      viewed
      to
      (areas_of i)
      (code_of i)
      (fields_beside to (fields_of i))
      fits.0
      (beside_fit to i fits)
      fits.2
      f
      (behind failed))
      bytes
      marks

  pub interrupted_protected : (frame : ℕ) {storage keys : List ℕ} → backing g h (g.prefix * 4096 + i.old) ≡ at_frame frame true → (v : ℕ)
      → v ≡ host_virtual g (g.prefix * 4096 + i.old) → h.storage ≡ storage → h.keys ≡ keys
      → Taken h g to (interrupt x to (areas_of i) (code_of i) (fields_beside to (fields_of i))) (Err (host_fault v protection)) storage keys
  interrupted_protected frame backed v at bytes marks =
      taken_faulted
      h
      g
      to
      _
      (host_fault v protection)
      (interrupt-protected
      h
      x
      viewed
      to
      (areas_of i)
      (code_of i)
      (fields_beside to (fields_of i))
      fits.0
      (beside_fit to i fits)
      fits.2
      frame
      (behind backed)
      ∙ ap (λ k. faulted (host_fault (host_virtual k (k.prefix * 4096 + i.old)) protection)) standing.of_guest
      ∙ ap (λ n. faulted (host_fault n protection)) (sym at))
      bytes
      marks

  pub interrupted_open : (frame : ℕ) (psw : Psw) {storage keys : List ℕ} → backing g h (g.prefix * 4096 + i.old) ≡ at_frame frame false
      → psw ≡ psw_of to.psw.system370 h.storage (frame * 4096 + i.new)
      → storage ≡ sets (sets h.storage (frame * 4096 + i.old) (psw_bytes (old_psw to (ilc_of i) (code_of i)))) (frame * 4096 + i.code) (fields_beside to (fields_of i))
      → keys ≡ mark_frame changed frame (mark_frame referenced frame (mark_text t h.keys))
      → Taken h g to (interrupt x to (areas_of i) (code_of i) (fields_beside to (fields_of i))) (Ok psw) storage keys
  interrupted_open frame psw backed new bytes marks =
      taken_completed
      h
      g
      to
      _
      psw
      (subst
      (λ k.
      Completes
      (backing k h)
      (interrupt x to (areas_of i) (code_of i) (fields_beside to (fields_of i)))
      (with_psw to (psw_of to.psw.system370 h.storage (frame * 4096 + i.new)))
      (λ l. sets (sets l (frame * 4096 + i.old) (psw_bytes (old_psw to x.text.ilc (code_of i)))) (frame * 4096 + i.code) (fields_beside to (fields_of i)))
      (λ l. mark_frame changed frame (mark_frame referenced frame (marked (backing k h) referenced x.fetched l))))
      standing.of_guest
      (interrupt_open
      h
      x
      viewed
      to
      (areas_of i)
      (code_of i)
      (fields_beside to (fields_of i))
      fits.0
      (beside_fit to i fits)
      fits.2
      frame
      (behind backed)))
      new
      (bytes ∙ ap (λ n. sets (sets h.storage (frame * 4096 + i.old) (psw_bytes (old_psw to n (code_of i)))) (frame * 4096 + i.code) (fields_beside to (fields_of i))) told)
      (marks ∙ ap (λ l. mark_frame changed frame (mark_frame referenced frame l)) (sym (standing.marks h.keys)))
