-- A unit whose text stands on a kept block, by what its tests and its instruction leave.
-- Assumes nothing.
use Prim.Native.Nat.{ℕ, ◌+◌, ◌-◌, ◌*◌, ◌/◌, ◌%◌, ◌≤◌, ◌<◌}
use native.Mathlib.Nat.{div-one}
use native.Mathlib.Omega.{arith}
use mathlib.Core.Path.{◌≡◌, refl, ap, sym, subst, ◌∙◌}
use mathlib.Core.Bool.{Bool, cond}
use mathlib.Core.List.{List}
use lib.Dec.{eqb}
use lib.ListN.{length, get_or}
use Rattle.machine.specs.declared.Cpu.{Cpu}
use Rattle.machine.specs.declared.Guest.{Guest}
use Rattle.machine.specs.declared.Psw.{Psw}
use Rattle.machine.specs.Words.{bits, byte_at, half_at}
use Rattle.machine.specs.Psw.{instruction_address, wrap, mode31}
use Rattle.machine.specs.Host.{Host, host, view}
use Rattle.machine.specs.Opcodes.{length_of, number_of, opcode_of}
use Rattle.machine.specs.Outcomes.{Progress}
use Rattle.machine.specs.Execute.{address_part, operand_address}
use Rattle.machine.specs.Units.{decoded, started, instruction}
use Rattle.machine.proofs.Tests.{on_either_arm}
use Rattle.cpu.proofs.Wrap.{wrap-wrap}
use Rattle.address.specs.Touching.{seen}
use Rattle.interruptions.specs.After.{Left}
use Rattle.guard.specs.Guarding.{Alike}
use Rattle.psws.specs.Psws.{state, Wrapped}
use Rattle.blocks.specs.Keeping.{Block, fetch_block, Keeps, Holds, Stands, Inside, Marks, Free}
use Rattle.blocks.proofs.Holding.{holds_now, keeps_seen}
use Rattle.steps.specs.Texting.{short_text, done_as}
use Rattle.steps.proofs.Marking.{marked_text}
use Rattle.steps.proofs.Reading.{length_one, length_two, reads_one, reads_two}
use Rattle.lap.specs.declared.Landing.{Landing}
use Rattle.lap.specs.Stepping.{cut, Lands}
use Rattle.lap.proofs.Placing.{cut_is_wrap}
use Rattle.area.specs.Keeping.{Area}
use Rattle.special.specs.declared.Done.{Done}
use Rattle.special.specs.Performing.{psw_in}
use Rattle.special.specs.Singling.{start, Singles}
use Rattle.single.specs.declared.Operation.{Operation}
use Rattle.single.specs.Deciding.{number, sum_of, Operates, Calls}

-- an instruction address has 31 bits at most
pub address_small : (c : Cpu) → instruction_address c < 2147483648
address_small c = on_either_arm (λ n. n < 2147483648) c.psw.system370 (omega arith) (omega arith)

module _ (storage kept : List ℕ) (inside : Inside storage kept) (psw : Psw) (l : Landing) (lands : Lands kept (instruction_address (state psw)) l) where
  abbrev block : Block
  block = fetch_block kept lands.entry

  abbrev at : ℕ
  at = l.at

  holding : block.first < 2147483648
  holding = omega (arith, lands.page, lands.from, address_small (state psw))

  stands : Stands storage block
  stands = inside.fetch lands.entry lands.few holding

  -- the block of the text lies in storage
  pub text_inside : (l.base + 2048 ≤ length storage) × (l.base < 2147483648)
  text_inside = (omega (arith, lands.base, stands.inside), omega (arith, lands.base, stands.small))

  module _ (whole : at ≤ l.base + 2044) (words : List ℕ) (sixteen : length words ≡ 16) (g : Guest) (clock timer : ℕ) (control : List ℕ) (area : ℕ) (d : Done) (control' storage' : List ℕ)
      (op registers : ℕ) (opcode : byte_at storage at ≡ op) (fields : byte_at storage (at + 1) ≡ registers) (byte : registers < 256) where
    abbrev first : ℕ
    first = op * 256 + registers

    read : first ≡ half_at storage at
    read = λ i. sym opcode i * 256 + sym fields i

    abbrev second : ℕ
    second = half_at storage (at + 2)

    from : block.place ≤ at
    from = omega (arith, lands.base, lands.at)

    even : (at - block.place) % 2 ≡ 0
    even = omega (arith, lands.base, lands.at, lands.even)

    fits : at + 4 ≤ block.place + 2048
    fits = omega (arith, lands.base, whole)

    place : instruction_address (state psw) ≡ block.first + (at - block.place)
    place = omega (arith, lands.base, lands.page, lands.at, lands.from)

    -- the operand's address D2(B2)
    operand_here : second < 65536 → (c : Cpu) → c.general.words ≡ words → (x : Progress) → x.cpu ≡ c → x.text ≡ short_text first second → operand_address x ≡ wrap c (sum_of words second)
    unfolding operand_address address_part
    operand_here half c contents x of_cpu of_text =
        λ i. wrap (of_cpu i) (cond (eqb (base i) 0) 0 (get_or (words_in i) (base i) 0) + displacement i)
      where
        base : bits 16 0 3 x.text.second ≡ second / 4096
        base = let small : bits 16 0 3 second ≡ second / 4096 = omega (arith, half) in ap (λ u. bits 16 0 3 u.second) of_text ∙ small

        displacement : bits 16 4 15 x.text.second ≡ second % 4096
        displacement = ap (λ u. bits 16 4 15 u.second) of_text ∙ ap (λ n. n % 4096) (div-one second)

        words_in : x.cpu.general.words ≡ words
        words_in = ap (λ j. j.general.words) of_cpu ∙ contents

    -- a guest and a host that keep the blocks, and a state that the unit begins with
    module _ (designation : ℕ) (keys guard : List ℕ) (wrapped : Wrapped psw (instruction_address (state psw))) (marks : Marks keys kept) (free : Free guard kept)
        (holds : Holds guard g (host designation storage keys) (seen psw (record { words = control })) kept) (kept-area : Area guard g (host designation storage keys) area)
        (c : Cpu) (same : c.psw ≡ psw) (timed : c.timer ≡ timer) (controls : c.control.words ≡ control) (contents : c.general.words ≡ words) where
      abbrev h : Host
      h = host designation storage keys

      -- what is left, and in the named frames
      abbrev Leaves : Type 0
      Leaves =
          Left h g c (instruction (started g clock (view g h) c 1)) (done_as (psw_in d psw) d.timer (record { words = control' })) storage' keys × Alike guard storage storage'

      keeps : Keeps g h c kept
      keeps =
          keeps_seen g h c kept
          (subst (λ s. Keeps g h s kept) (λ i. seen (sym same i) (record { words = sym controls i })) (holds_now guard g designation storage keys (seen psw (record { words = control })) kept holds))

      here : instruction_address c ≡ block.first + (at - block.place)
      here = ap (λ p. instruction_address (state p)) same ∙ place

      wraps : (a : ℕ) → wrap c a ≡ wrap (state psw) a
      unfolding wrap
      wraps a = ap (λ p. cond (mode31 (state p)) (a % 2147483648) (a % 16777216)) same

      uncut : wrap c (block.first + (at - block.place)) ≡ block.first + (at - block.place)
      uncut = wraps _ ∙ subst (λ n. wrap (state psw) n ≡ n) place wrapped

      operated : length_of first ≡ 2 → second < 65536 → (operation : Operation) → number_of first ≡ number operation → (a : ℕ) → a ≡ wrap (state psw) (sum_of words second)
          → Operates g clock psw timer control kept operation registers a storage d control' storage' → Leaves
      operated two half operation named a cuts operates =
          let fetched =
          reads_two h g clock c block at (keeps.fetch lands.entry lands.few) stands holding from (omega (arith, fits)) even here uncut first second read refl two fits in
          let cut-here : wrap c (sum_of words second) ≡ a = wraps (sum_of words second) ∙ sym cuts in
          let (left, alike) =
          operates guard h fetched.0 c block first second
          (record {
            standing = fetched.1;
            two = two;
            text_marks = marks.fetch lands.entry lands.few holding;
            bytes = refl;
            of_psw = same;
            sixteen = ap length contents ∙ sixteen;
            inside = inside;
            marks = marks;
            free = free;
            keeps = keeps;
            address = operand_here half c contents fetched.0 fetched.1.of_cpu fetched.1.of_text ∙ cut-here;
            wrapped = ap (wrap c) (sym cut-here) ∙ wrap-wrap c (sum_of words second) ∙ cut-here;
          })
          timed controls named (omega (arith, byte)) in
          (subst (λ o. Left h g c o (done_as (psw_in d psw) d.timer (record { words = control' })) storage' keys) (sym fetched.2) left, alike)

      called : length_of first ≡ 1 → op ≡ 0x0a → d.timer ≡ timer → control' ≡ control → Calls g area psw timer registers storage d storage' → Leaves
      called one is time stays calls =
          let fetched = reads_one h g clock c block at (keeps.fetch lands.entry lands.few) stands holding from (omega (arith, fits)) even here uncut first read one in
          let (left, alike) =
          calls guard h fetched.0 clock c block first
          (λ placed. record {
            standing = fetched.1;
            marked = marked_text keys block (marks.fetch lands.entry lands.few holding);
            bytes = refl;
            of_psw = same;
            sixteen = ap length contents ∙ sixteen;
            kept = kept-area;
            placed = placed;
          })
          timed (omega (arith, byte, is)) (omega (arith, byte)) in (
            subst (λ o. Left h g c o (done_as (psw_in d psw) d.timer (record { words = control' })) storage' keys) (sym fetched.2)
                (subst (λ d. Left h g c (decoded fetched.0 (opcode_of c.psw.system370 first)) d storage' keys)
                (λ i. done_as (psw_in d psw) (sym time i) (record { words = (controls ∙ sym stays) i })) left),
            alike,
          )

    abbrev Outcome : Type 0
    Outcome = Singles g clock (start psw timer words control) kept area storage d control' storage'

    -- some state that begins so
    abbrev some : Cpu
    some = record { psw = psw; timer = timer; control = record { words = control }; general = record { words = words } }

    -- an instruction of two halfwords, with an operand
    pub operates_singles : 64 ≤ op → op < 192 → second < 65536 → (operation : Operation) → number_of first ≡ number operation → (long : Bool) → long ≡ mode31 (state psw) → (a : ℕ) → a ≡ cut long (sum_of words second)
        → Operates g clock psw timer control kept operation registers a storage d control' storage' → Outcome
    operates_singles low high half operation named long mode a cuts operates designation keys guard wrapped marks free holds kept-area =
        ((λ c same timed controls contents. (leaves c same timed controls contents).0), (leaves some refl refl refl refl).1)
      where
        leaves : (c : Cpu) (same : c.psw ≡ psw) (timed : c.timer ≡ timer) (controls : c.control.words ≡ control) (contents : c.general.words ≡ words)
            → Leaves designation keys guard wrapped marks free holds kept-area c same timed controls contents
        leaves c same timed controls contents =
            operated designation keys guard wrapped marks free holds kept-area c same timed controls contents (length_two first (omega (arith, byte, low)) (omega (arith, byte, high))) half operation named a
            (cuts ∙ cut_is_wrap psw long mode (sum_of words second)) operates

    -- SUPERVISOR CALL
    pub calls_singles : op ≡ 0x0a → d.timer ≡ timer → control' ≡ control → Calls g area psw timer registers storage d storage' → Outcome
    calls_singles is time stays calls designation keys guard wrapped marks free holds kept-area =
        ((λ c same timed controls contents. (leaves c same timed controls contents).0), (leaves some refl refl refl refl).1)
      where
        leaves : (c : Cpu) (same : c.psw ≡ psw) (timed : c.timer ≡ timer) (controls : c.control.words ≡ control) (contents : c.general.words ≡ words)
            → Leaves designation keys guard wrapped marks free holds kept-area c same timed controls contents
        leaves c same timed controls contents =
            called designation keys guard wrapped marks free holds kept-area c same timed controls contents (length_one first (omega (arith, byte, is))) is time stays calls
