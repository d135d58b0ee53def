-- An interruption on the kept place of the prefix page.
-- Assumes nothing.
use Rattle.std.specs.Prelude.{Ok, None, Some, Option}
use Prim.Native.Nat.{ℕ, ◌+◌, ◌*◌, ◌/◌, ◌%◌, ◌≤◌}
use native.Mathlib.Omega.{arith}
use mathlib.Core.Path.{◌≡◌, refl, ap, sym, subst, ◌∙◌}
use mathlib.Core.Bool.{false}
use mathlib.Core.List.{List, []}
use lib.ListN.{length}
use lib.Seq.{sets, length-sets}
use Rattle.machine.specs.declared.Cpu.{Cpu}
use Rattle.machine.specs.declared.Failure.{Failure}
use Rattle.machine.specs.declared.Guest.{Guest}
use Rattle.machine.specs.declared.Psw.{Psw}
use Rattle.machine.specs.declared.Text.{Text}
use Rattle.machine.specs.Record.{psw_of, psw_bytes}
use Rattle.machine.specs.Psw.{basic_control, with_psw, advanced, old_psw}
use Rattle.machine.specs.Host.{Host, referenced, changed}
use Rattle.machine.specs.Outcomes.{Progress}
use Rattle.machine.specs.Interruptions.{program_areas, supervisor_call_areas, fields_beside, interrupt, after_exception, program_fields, exception}
use Rattle.machine.specs.Execute.{supervisor_call}
use Rattle.machine.proofs.Tests.{on_either_arm}
use Rattle.marks.specs.Marks.{mark_frame}
use Rattle.interruptions.specs.declared.Event.TheVariants as event
use Rattle.interruptions.specs.declared.Frames.{Frames}
use Rattle.interruptions.specs.declared.Interruption.{Interruption}
use Rattle.interruptions.specs.After.{mark_text, Left, code_bytes, areas_of, ilc_of, code_of, fields_of, InPrefixPage, event_by, cpu_by}
use Rattle.interruptions.proofs.Leaving.{none_set, left_taken, interrupted_open}
use Rattle.execute.proofs.Exceptions.{excepted_interruption, exception_of_lem}
use Rattle.execute.proofs.Ending.{supervisor_called}
use Rattle.guard.specs.Guarding.{Alike}
use Rattle.blocks.proofs.Holding.{alike_trans, mark_same}
use Rattle.steps.specs.Texting.{done_as}
use Rattle.area.proofs.Holding.{area_stored, area_behind}
use Rattle.calls.specs.Calling.{Stands, Excepting}
use Rattle.calls.specs.Storing.{InOrder, areas_stored}

fields_short : (word : ℕ) (address : Option ℕ) → length (code_bytes word address) ≤ 8
fields_short word None = omega arith
fields_short word (Some address) = omega arith

beside_short : (c : Cpu) (i : Interruption) → length (fields_beside c (fields_of i)) ≤ 8
unfolding fields_beside
beside_short c i =
    on_either_arm (λ fields. length fields ≤ 8) (basic_control c) {u = []} {v = fields_of i} (omega arith) (fields_short i.word i.address)

module _ {area : ℕ} {psw : Psw} {storage guard : List ℕ} {h : Host} {g : Guest} {x : Progress} {clock : ℕ} {c : Cpu} {text : Text} {t : Frames}
    (stands : Stands area psw storage guard h g x clock c text t) (i : Interruption) (fits : InOrder i) where
  -- the frames that the guard names are left as they were
  areas_alike : (to : Cpu) → Alike guard storage (areas_stored storage area to i)
  areas_alike to =
      let kept = stands.kept in
      let inside : area + 4096 ≤ length storage = subst (λ s. area + 4096 ≤ length s) stands.bytes (kept.inside stands.placed) in
      let old = psw_bytes (old_psw to (ilc_of i) (code_of i)) in
      let first = sets storage (area + i.old) old in
      let long = length-sets storage (area + i.old) old in
      alike_trans guard storage first (areas_stored storage area to i)
      (area_stored guard storage old area i.old (kept.aligned stands.placed) (kept.free stands.placed) (omega arith) inside)
      (area_stored guard first (fields_beside to (fields_of i)) area i.code (kept.aligned stands.placed) (kept.free stands.placed)
      (omega (arith, beside_short to i)) (omega arith))

  -- the state that the unit began with, with this old PSW, is interrupted
  interrupted_kept : (old new : Psw) {storage' : List ℕ} → ilc_of i ≡ text.ilc → new ≡ psw_of old.system370 storage (area + i.new)
      → ((k : Cpu) → k.psw ≡ old → storage' ≡ areas_stored storage area k i)
      → (let to = with_psw c old in
      Left h g c (interrupt x to (areas_of i) (code_of i) (fields_beside to (fields_of i))) (done_as new c.timer c.control) storage' h.keys)
      × Alike guard storage storage'
  unfolding with_psw event_by cpu_by
  interrupted_kept old new {storage'} ilc fetched stored =
      let to = with_psw c old in
      let kept = stands.kept in
      let at : area / 4096 * 4096 ≡ area = omega (arith, kept.aligned stands.placed) in
      let marks : h.keys ≡ mark_frame changed (area / 4096) (mark_frame referenced (area / 4096) (mark_text t h.keys)) =
      sym (ap (λ k. mark_frame changed (area / 4096) (mark_frame referenced (area / 4096) k)) (sym stands.marked)
      ∙ ap (mark_frame changed (area / 4096)) (mark_same referenced (area / 4096) h.keys (kept.fetched stands.placed))
      ∙ mark_same changed (area / 4096) h.keys (kept.stored stands.placed)) in (
        left_taken h g c to _ (Ok new) (done_as new c.timer c.control)
            (interrupted_open h x stands.standing to i (omega arith, omega arith, omega arith) ilc (area / 4096) new
            (area_behind guard g h area i.old stands.placed kept (omega arith))
            (fetched ∙ (λ j. psw_of old.system370 (sym stands.bytes j) (sym at j + i.new)))
            (stored to refl ∙ (λ j. areas_stored (sym stands.bytes j) (sym at j) to i))
            marks)
            refl
            (none_set c event.Completed new c.timer c.control),
        subst (Alike guard storage) (sym (stored to refl)) (areas_alike to),
      )

-- the areas of a program interruption
pub program_order : (i : Interruption) → areas_of i ≡ program_areas → InOrder i
program_order i areas =
    let old = ap (λ a. a.old) areas in
    let code = ap (λ a. a.code) areas in
    let new = ap (λ a. a.new) areas in
    (omega arith, omega arith, omega arith)

module _ {area : ℕ} {psw : Psw} {storage guard : List ℕ} {h : Host} {g : Guest} {x : Progress} {clock : ℕ} {c : Cpu} {text : Text} {t : Frames}
    (stands : Stands area psw storage guard h g x clock c text t) where
  -- SUPERVISOR CALL
  pub called_kept : (number : ℕ) → text.ilc ≡ 1 → text.first % 256 ≡ number → (old new : Psw) {storage' : List ℕ} → old ≡ (advanced c 1).psw
      → (let i : Interruption = record { old = 32; code = 136; new = 96; word = 131072 + number; address = None } in
      new ≡ psw_of old.system370 storage (area + i.new) → ((k : Cpu) → k.psw ≡ old → storage' ≡ areas_stored storage area k i)
      → Left h g c (supervisor_call x) (done_as new c.timer c.control) storage' h.keys × Alike guard storage storage')
  called_kept number ilc is old new {storage'} moved fetched stored =
      let i : Interruption = record { old = 32; code = 136; new = 96; word = 131072 + number; address = None } in
      let d = done_as new c.timer c.control in
      let to = with_psw c old in
      let word : 131072 + number ≡ text.ilc * 131072 + text.first % 256 = omega arith in
      let (left, alike) = interrupted_kept stands i (omega arith, omega arith, omega arith) old new (omega arith) fetched stored in (
        supervisor_called h x stands.standing (omega arith) d old to (moved ∙ ap (λ n. (advanced c n).psw) (sym ilc)) refl
            (subst (λ w. Left h g c (interrupt x to supervisor_call_areas (w % 65536) (fields_beside to (code_bytes w None))) d storage' h.keys) word left),
        alike,
      )

  -- a program exception that interrupts
  pub excepted_kept : (f : Failure) → f.host ≡ false → {ilc : ℕ} → Excepting ilc f.code g text → (i : Interruption)
      → InPrefixPage i × (areas_of i ≡ program_areas) × ((x : Progress) → x.text.ilc ≡ ilc → fields_of i ≡ program_fields x f) × (ilc_of i ≡ ilc) × (code_of i ≡ f.code)
      → (old new : Psw) {storage' : List ℕ} → (x.text.ilc ≡ ilc → with_psw c old ≡ after_exception x c f)
      → new ≡ psw_of old.system370 storage (area + i.new) → ((k : Cpu) → k.psw ≡ old → storage' ≡ areas_stored storage area k i)
      → Left h g c (exception x x.cpu f) (done_as new c.timer c.control) storage' h.keys × Alike guard storage storage'
  excepted_kept f guests (ilc, other, refused) i (_, areas, fields, has, code) old new moved fetched stored =
      let d = done_as new c.timer c.control in
      let told = ap (λ u. u.ilc) stands.standing.of_text ∙ ilc in
      let (left, alike) = interrupted_kept stands i (program_order i areas) old new (has ∙ sym ilc) fetched stored in (
        exception_of_lem h x stands.standing c refl f d
            (excepted_interruption h x stands.standing c f guests other refused d (moved told) areas code (fields x told) left),
        alike,
      )
