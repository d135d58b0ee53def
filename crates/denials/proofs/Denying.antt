-- A unit whose text or operand is denied, and that ends with the exception.
-- Assumes nothing.
use Rattle.std.specs.Prelude.{Err}
use Prim.Native.Nat.{ℕ, ◌+◌, ◌%◌, ◌≤◌}
use mathlib.Core.Path.{◌≡◌, refl, ap, sym, ◌∙◌}
use mathlib.Core.Bool.{Bool, false}
use mathlib.Core.List.{List}
use Rattle.machine.specs.declared.Cpu.{Cpu}
use Rattle.machine.specs.declared.Failure.{Failure}
use Rattle.machine.specs.declared.Guest.{Guest}
use Rattle.machine.specs.declared.Psw.{Psw}
use Rattle.machine.specs.Words.{half_at}
use Rattle.machine.specs.Record.{Sixteen}
use Rattle.machine.specs.Psw.{wrap, instruction_address}
use Rattle.machine.specs.Host.{Host, host, view}
use Rattle.machine.specs.Opcodes.{length_of, opcode_of}
use Rattle.machine.specs.Outcomes.{Progress}
use Rattle.machine.specs.Interruptions.{exception}
use Rattle.machine.specs.Units.{started, instruction}
use Rattle.address.specs.Touching.{seen, touched_by, touch_of}
use Rattle.address.proofs.Seen.{access-seen}
use Rattle.interruptions.specs.After.{mark_text, Standing, Left}
use Rattle.guard.specs.Guarding.{Alike}
use Rattle.text.specs.Fetching.{FetchedAs, Halfword, no_text, no_frames, no_opcode, cut_short}
use Rattle.text.proofs.Halfwords.{initial}
use Rattle.text.proofs.Texts.{standing_started, first_shut}
use Rattle.text.proofs.Order.{fetch_failed}
use Rattle.psws.specs.Psws.{state, Wrapped}
use Rattle.blocks.specs.Keeping.{Inside}
use Rattle.steps.specs.Texting.{done_as}
use Rattle.lap.specs.declared.Landing.{Landing}
use Rattle.lap.specs.Stepping.{Lands}
use Rattle.area.specs.Keeping.{Placed, Area}
use Rattle.calls.specs.Calling.{Interrupts}
use Rattle.special.specs.declared.Done.{Done}
use Rattle.special.specs.Performing.{psw_in}
use Rattle.exceptions.specs.Excepting.{text_in, Having}
use Rattle.exceptions.proofs.Excepting.{leaves_so, singles_so}
use Rattle.denials.specs.Denying.{Stopping, Denying}
use Rattle.denials.proofs.Reaching.{denied_shut}

module _ (guest : Guest) (psw : Psw) (timer : ℕ) (words : List ℕ) (area : ℕ) (sixteen : Sixteen words) (f : Failure) (storage : List ℕ) (d : Done) (storage' : List ℕ)
    (same : d.timer ≡ timer) (placed : Placed area) where
  -- the text
  module _ (interrupts : Interrupts area psw (Having guest 1) (λ x. exception x x.cpu f) storage (psw_in d psw) storage') (even : instruction_address (state psw) % 2 ≡ 0)
      (clock designation : ℕ) (keys control : List ℕ)
      (denied : touch_of guest (host designation storage keys) (seen psw (record { words = control })) false (instruction_address (state psw)) ≡ Err f)
      (guard : List ℕ) (wrapped : Wrapped psw (instruction_address (state psw))) (areaKept : Area guard guest (host designation storage keys) area)
      (c : Cpu) (of_psw : c.psw ≡ psw) (of_timer : c.timer ≡ timer) (of_control : c.control.words ≡ control) (ofWords : c.general.words ≡ words) where
    abbrev h : Host
    h = host designation storage keys

    found : Halfword h guest (seen psw (record { words = control })) 0 (instruction_address (state psw)) (Err f)
    unfolding wrap
    found = initial {c = seen psw (record { words = control })} (sym wrapped) even (sym (denied_shut guest h (seen psw (record { words = control })) false (instruction_address (state psw)) 2 denied))

    fetched : FetchedAs h guest clock c (instruction (started guest clock (view guest h) c 1)) no_opcode (cut_short f no_text no_frames)
    fetched = first_shut no_text no_frames no_opcode f found _ clock c of_psw (ap (λ w. record { words = w }) of_control) (standing_started h guest clock c 1 refl)

    unmarked : keys ≡ mark_text no_frames keys
    unfolding mark_text
    unmarked = refl

    excepts : (x : Progress) → Standing h x guest clock c no_text no_frames
        → Left h guest c (exception x x.cpu f) (done_as (psw_in d psw) d.timer (record { words = control })) storage' keys × Alike guard storage storage'
    excepts x standing =
        leaves_so psw guest timer words area sixteen 1 f d storage storage' same placed interrupts designation keys guard areaKept c of_psw of_timer control of_control ofWords
        x clock no_text no_frames refl unmarked standing

    text_leaves : Left h guest c (instruction (started guest clock (view guest h) c 1)) (done_as (psw_in d psw) d.timer (record { words = control })) storage' keys × Alike guard storage storage'
    text_leaves =
        (fetch_failed h guest clock c no_opcode (cut_short f no_text no_frames) _ fetched f refl (λ x standing. (excepts x standing).0), (excepts fetched.0 fetched.1).1)

  pub text_denies : Interrupts area psw (Having guest 1) (λ x. exception x x.cpu f) storage (psw_in d psw) storage' → instruction_address (state psw) % 2 ≡ 0
      → (kept : List ℕ) → Denying guest psw timer words kept area false (instruction_address (state psw)) f storage d storage'
  text_denies interrupts even kept clock designation keys control denied guard wrapped marks free holds areaKept = (
    λ c of_psw of_timer of_control ofWords. (text_leaves interrupts even clock designation keys control denied guard wrapped areaKept c of_psw of_timer of_control ofWords).0,
    (text_leaves interrupts even clock designation keys control denied guard wrapped areaKept
        (record { psw = psw; timer = timer; control = record { words = control }; general = record { words = words } }) refl refl refl refl).1,
  )

  -- the operand of a text on a kept block
  pub operand_denies : (kept : List ℕ) (inside : Inside storage kept) (l : Landing) (lands : Lands kept (instruction_address (state psw)) l) → l.at ≤ l.base + 2042
      → (first : ℕ) → first ≡ half_at storage l.at
      → Interrupts area psw (Having guest (length_of first)) (λ x. exception x x.cpu f) storage (psw_in d psw) storage'
      → (store : Bool) (a : ℕ) → Stopping (opcode_of psw.system370 first) guest psw (record { words = words }) (text_in storage l.at first) store a
      → Denying guest psw timer words kept area store a f storage d storage'
  operand_denies kept inside l lands room first read interrupts store a stopping clock designation keys control denied =
      let h = host designation storage keys in
      singles_so psw kept storage inside l lands room guest timer words area sixteen first f read d storage' same placed interrupts clock control designation keys
      (λ x of_guest of_view of_psw of_control ofWords of_text.
      stopping h x f of_guest (of_view ∙ ap (λ g. view g h) (sym of_guest)) of_psw ofWords of_text
      (ap (λ g. touch_of g h x.cpu store a) of_guest ∙ ap (touched_by guest h) (access-seen guest (view guest h) x.cpu store a)
      ∙ (λ i. touch_of guest h (seen (of_psw i) (record { words = of_control i })) store a) ∙ denied))
