-- A unit whose tests come to an exception that interrupts, on kept blocks.
-- Assumes nothing.
use Prim.Native.Nat.{ℕ, ◌+◌, ◌-◌, ◌≤◌, ◌<◌}
use native.Mathlib.Omega.{arith}
use mathlib.Core.Path.{◌≡◌, refl, ap, sym, subst, ◌∙◌}
use mathlib.Core.Bool.{false}
use mathlib.Core.List.{List}
use lib.ListN.{length}
use Rattle.machine.specs.declared.Cpu.{Cpu}
use Rattle.machine.specs.declared.Failure.{Failure}
use Rattle.machine.specs.declared.Guest.{Guest}
use Rattle.machine.specs.declared.Psw.{Psw}
use Rattle.machine.specs.declared.Text.{Text}
use Rattle.machine.specs.Words.{half_at}
use Rattle.machine.specs.Record.{Sixteen}
use Rattle.machine.specs.Psw.{wrap, instruction_address}
use Rattle.machine.specs.Host.{Host, host, view}
use Rattle.machine.specs.Opcodes.{length_of, opcode_of}
use Rattle.machine.specs.Outcomes.{Progress}
use Rattle.machine.specs.Interruptions.{exception}
use Rattle.machine.specs.Units.{decoded, started, instruction}
use Rattle.machine.proofs.Tests.{on_either_arm}
use Rattle.address.specs.Touching.{seen}
use Rattle.interruptions.specs.declared.Done.{Done as Leaves}
use Rattle.interruptions.specs.declared.Frames.{Frames}
use Rattle.interruptions.specs.After.{mark_text, Standing, Left}
use Rattle.guard.specs.Guarding.{Alike}
use Rattle.text.specs.Fetching.{FetchedAs, whole}
use Rattle.text.proofs.Order.{fetch_whole}
use Rattle.psws.specs.Psws.{state, Wrapped}
use Rattle.blocks.specs.Keeping.{Block, fetch_block, Leads, Holds, Stands, Inside, Marks}
use Rattle.blocks.proofs.Holding.{holds_now, leads-seen}
use Rattle.steps.specs.Texting.{text_frame, done_as}
use Rattle.steps.proofs.Marking.{marked_text}
use Rattle.lap.specs.declared.Landing.{Landing}
use Rattle.lap.specs.Stepping.{Lands}
use Rattle.area.specs.Keeping.{Placed, Area}
use Rattle.calls.specs.Calling.{Interrupts}
use Rattle.special.specs.declared.Done.{Done}
use Rattle.special.specs.Performing.{psw_in}
use Rattle.special.specs.Singling.{start, SinglesIn}
use Rattle.exceptions.specs.Excepting.{text_in, Having}
use Rattle.exceptions.proofs.Reading.{reads_text}

-- an instruction address is one of 31 bits
pub address_small : (c : Cpu) → instruction_address c < 2147483648
address_small c = on_either_arm (λ a. a < 2147483648) c.psw.system370 (omega arith) (omega arith)

-- an exception of a unit in progress, whose text has its marks
pub leaves_so : (psw : Psw) (guest : Guest) (timer : ℕ) (words : List ℕ) (area : ℕ) (sixteen : Sixteen words) (ilc : ℕ) (f : Failure) (d : Done) (storage storage' : List ℕ)
    → d.timer ≡ timer → Placed area → Interrupts area psw (Having guest ilc) (λ x. exception x x.cpu f) storage (psw_in d psw) storage'
    → (designation : ℕ) (keys guard : List ℕ) → Area guard guest (host designation storage keys) area
    → (c : Cpu) → c.psw ≡ psw → c.timer ≡ timer → (control : List ℕ) → c.control.words ≡ control → c.general.words ≡ words
    → (x : Progress) (clock : ℕ) (text : Text) (t : Frames) → text.ilc ≡ ilc → keys ≡ mark_text t keys → Standing (host designation storage keys) x guest clock c text t
    → Left (host designation storage keys) guest c (exception x x.cpu f) (done_as (psw_in d psw) d.timer (record { words = control })) storage' keys × Alike guard storage storage'
leaves_so psw guest timer words area sixteen ilc f d storage storage' same placed interrupts designation keys guard areaKept c of_psw of_timer control of_control ofWords x clock text t long marked standing =
    let h = host designation storage keys in
    let (leaves, alike) =
    interrupts guard h guest x clock c text t (record {
      standing = standing;
      marked = marked;
      bytes = refl;
      of_psw = of_psw;
      sixteen = ap length ofWords ∙ sixteen.long;
      kept = areaKept;
      placed = placed;
    }) (refl, long) in
    (subst (λ d. Left h guest c (exception x x.cpu f) d storage' keys) (λ i. done_as (psw_in d psw) ((of_timer ∙ sym same) i) (record { words = of_control i })) leaves, alike)

module _ (psw : Psw) (kept storage : List ℕ) (inside : Inside storage kept) (l : Landing) (lands : Lands kept (instruction_address (state psw)) l) where
  -- the block of the text
  abbrev b : Block
  b = fetch_block kept lands.entry

  holding : b.first < 2147483648
  holding = omega (arith, lands.page, lands.from, address_small (state psw))

  stands : Stands storage b
  stands = inside.fetch lands.entry lands.few holding

  pub base-small : l.base < 2147483648
  base-small = omega (arith, lands.base, stands.small)

  -- a text of three halfwords stands in storage
  pub in_storage_lem : l.at ≤ l.base + 2042 → l.at + 6 ≤ length storage
  in_storage_lem room = omega (arith, room, lands.base, stands.inside)

  -- a unit whose text stands there and comes to an exception in this host
  module _ (room : l.at ≤ l.base + 2042) (guest : Guest) (timer : ℕ) (words : List ℕ) (area : ℕ) (sixteen : Sixteen words) (first : ℕ) (f : Failure) (read : first ≡ half_at storage l.at)
      (d : Done) (storage' : List ℕ) (same : d.timer ≡ timer) (placed : Placed area)
      (interrupts : Interrupts area psw (Having guest (length_of first)) (λ x. exception x x.cpu f) storage (psw_in d psw) storage')
      (clock : ℕ) (control : List ℕ) (designation : ℕ) (keys : List ℕ)
      (tests : (x : Progress) → x.guest ≡ guest → x.view ≡ view guest (host designation storage keys) → x.cpu.psw ≡ psw → x.cpu.control.words ≡ control
      → x.cpu.general ≡ record { words = words } → x.text ≡ text_in storage l.at first → decoded x (opcode_of psw.system370 first) ≡ exception x x.cpu f) where
    module _ (guard : List ℕ) (wrapped : Wrapped psw (instruction_address (state psw))) (marks : Marks keys kept)
        (holds : Holds guard guest (host designation storage keys) (seen psw (record { words = control })) kept) (areaKept : Area guard guest (host designation storage keys) area)
        (c : Cpu) (of_psw : c.psw ≡ psw) (of_timer : c.timer ≡ timer) (of_control : c.control.words ≡ control) (ofWords : c.general.words ≡ words) where
      abbrev h : Host
      h = host designation storage keys

      leads : Leads guest h c false b
      leads =
          leads-seen guest h c false b
          (subst (λ k. Leads guest h k false b) (λ i. seen (sym of_psw i) (record { words = sym of_control i }))
          ((holds_now guard guest designation storage keys (seen psw (record { words = control })) kept holds).fetch lands.entry lands.few))

      at_address : instruction_address c ≡ b.first + (l.at - b.place)
      at_address =
          let here : instruction_address (state psw) ≡ b.first + (l.at - b.place) = omega (arith, lands.page, lands.base, lands.from, lands.at) in
          ap (λ p. instruction_address (state p)) of_psw ∙ here

      uncut : wrap c (b.first + (l.at - b.place)) ≡ b.first + (l.at - b.place)
      unfolding wrap
      uncut =
          ap (wrap c) (sym at_address) ∙ ap (λ p. wrap (state p) (instruction_address (state p))) of_psw ∙ wrapped ∙ sym (ap (λ p. instruction_address (state p)) of_psw) ∙ at_address

      fetched : FetchedAs h guest clock c (instruction (started guest clock (view guest h) c 1)) (opcode_of c.psw.system370 first) (whole (text_in storage l.at first) (text_frame b))
      fetched =
          reads_text h guest clock c b l.at leads stands holding (omega (arith, lands.base, lands.at)) (omega (arith, lands.base, room))
          (omega (arith, lands.base, lands.at, lands.even)) at_address uncut first read

      -- what the unit in progress leaves
      abbrev after : Leaves
      after = done_as (psw_in d psw) d.timer (record { words = control })

      excepts : (x : Progress) → Standing h x guest clock c (text_in storage l.at first) (text_frame b)
          → Left h guest c (exception x x.cpu f) after storage' keys × Alike guard storage storage'
      excepts x standing =
          leaves_so psw guest timer words area sixteen (length_of first) f d storage storage' same placed interrupts designation keys guard areaKept c of_psw of_timer control of_control ofWords
          x clock (text_in storage l.at first) (text_frame b) refl (marked_text keys b (marks.fetch lands.entry lands.few holding)) standing

      comes : (x : Progress) → Standing h x guest clock c (text_in storage l.at first) (text_frame b)
          → exception x x.cpu f ≡ decoded x (opcode_of c.psw.system370 first)
      comes x standing =
          sym (ap (λ p. decoded x (opcode_of p.system370 first)) of_psw
          ∙ tests x standing.of_guest standing.of_view (ap (λ k. k.psw) standing.of_cpu ∙ of_psw) (ap (λ k. k.control.words) standing.of_cpu ∙ of_control)
          (ap (λ k. k.general) standing.of_cpu ∙ ap (λ w. record { words = w }) ofWords) standing.of_text)

      leaves : Left h guest c (instruction (started guest clock (view guest h) c 1)) after storage' keys × Alike guard storage storage'
      leaves = (
        fetch_whole h guest clock c (opcode_of c.psw.system370 first) (whole (text_in storage l.at first) (text_frame b)) after fetched refl
            (λ x standing. subst (λ o. Left h guest c o after storage' keys) (comes x standing) (excepts x standing).0),
        (excepts fetched.0 fetched.1).1,
      )

    pub singles_so : SinglesIn designation keys guest clock (start psw timer words control) kept area storage d control storage'
    singles_so guard wrapped marks free holds areaKept = (
      λ c of_psw of_timer of_control ofWords. (leaves guard wrapped marks holds areaKept c of_psw of_timer of_control ofWords).0,
      (leaves guard wrapped marks holds areaKept (record { psw = psw; timer = timer; control = record { words = control }; general = record { words = words } }) refl refl refl refl).1,
    )
