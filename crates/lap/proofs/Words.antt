-- LOAD (L) and STORE (ST), each as a step: the unit of the definition.
-- Assumes nothing.
use Rattle.std.proofs.Common.{◌≡◌, ℕ, ◌+◌, ◌/◌, ◌%◌, ◌^◌, ◌<◌, ◌≤◌, true, false, List, length, get_or, sym, refl, ap, ◌∙◌, subst, arith}
use lib.Seq.{sets}
use Rattle.machine.specs.declared.Class.TheVariants.{L, St}
use Rattle.machine.specs.Words.{byte_at, half_at, word_at, word_bytes}
use Rattle.machine.specs.Psw.{wrap, with_general}
use Rattle.machine.specs.Host.{host}
use Rattle.machine.specs.Opcodes.{has, find}
use Rattle.machine.specs.Execute.{r1, next, indexed_address, fetching, storing, load, store, execute}
use Rattle.machine.specs.Units.{intercepts}
use Rattle.cpu.proofs.Wrap.{wrap-wrap}
use Rattle.interruptions.specs.After.{Left}
use Rattle.psws.specs.Psws.{state, psw_at}
use Rattle.sums.specs.Summing.{code_in}
use Rattle.blocks.specs.Keeping.{Block, fetch_block, store_block}
use Rattle.steps.specs.Texting.{done_with}
use Rattle.steps.proofs.Operating.{load_here, store_here}
use Rattle.lap.specs.Stepping.{Spot, address_in, psw_in, total_of, behind, entry_of, step_to, psw_after, Ground, Steps}
use Rattle.lap.proofs.Placing.{leads_of, wraps}
use Rattle.lap.proofs.Instructions.{first, field_one, of_two, one_named, indexed_here, past_two}

-- an address that lies so little behind the first one of a block
pub near : (a first : ℕ) → a < 2147483648 → first < 2 ^ 32 → behind a first ≤ 2044 → (first ≤ a) × (first + behind a first ≡ a)
near a first small word close = (omega arith, omega arith)

module _ (storage keys kept : List ℕ) (k : Spot) (at sum : ℕ) (words : List ℕ) (ground : Ground storage keys kept k at) (sixteen : length words ≡ 16)
    (op registers : ℕ) (opcode : byte_at storage at ≡ op) (fields : byte_at storage (at + 1) ≡ registers) (byte : registers < 256) (half : half_at storage (at + 2) < 65536)
    (a : ℕ) (small : a < 2147483648) (cuts : a ≡ wrap (state k.psw) (total_of words (registers % 16) (half_at storage (at + 2)))) where
  abbrev i : ℕ
  i = entry_of a

  own : wrap (state k.psw) a ≡ a
  own = ap (wrap (state k.psw)) cuts ∙ wrap-wrap (state k.psw) _ ∙ sym cuts

  -- LOAD (L)
  module _ (is : op ≡ 0x58) (close : behind a (get_or kept i 0) ≤ 2044) (word : get_or kept i 0 < 2 ^ 32) where
    abbrev d : ℕ
    d = behind a (get_or kept i 0)

    abbrev b : Block
    b = fetch_block kept i

    pub l_steps : (value : ℕ) → value ≡ word_at storage (get_or kept (8 + i) 0 + d) → Steps storage keys kept k at sum words (step_to (at + 4) sum (registers / 16) value) storage
    unfolding find has intercepts execute load psw_after
    l_steps value loads =
        of_two storage keys kept k at sum words ground sixteen op registers opcode fields byte (omega (arith, is)) (omega (arith, is)) L (λ b. rw is refl) refl (λ x. refl)
        (step_to (at + 4) sum (registers / 16) value) storage
        (λ g designation control keeps clock c same controls contents x standing.
        let h = host designation storage keys in
        let few : i < 8 = omega arith in
        let (from, at-d) = near a (get_or kept i 0) small word close in
        let holding : get_or kept i 0 < 2147483648 = omega arith in
        let past = psw_at k.psw (address_in k (at + 4)) (code_in sum) in
        let cut = wraps storage keys kept k at sum ground c same in
        let address : b.first + d ≡ indexed_address x =
        at-d ∙ cuts ∙ indexed_here storage keys kept k at sum words ground sixteen op registers opcode fields byte half c same contents x standing.of_cpu standing.of_text in
        subst (λ e. Left h g c (fetching x e 4 λ bytes. next x (with_general x.cpu (r1 x) (word_at bytes 0))) (done_with c past (registers / 16) value) storage keys) address
        (subst (λ r. Left h g c (fetching x (b.first + d) 4 λ bytes. next x (with_general x.cpu (r1 x) (word_at bytes 0))) (done_with c past r value) storage keys)
        (field_one storage keys kept k at sum words ground sixteen op registers opcode fields byte)
        (load_here h x k.text (first storage keys kept k at sum words ground sixteen op registers opcode fields byte) (half_at storage (at + 2)) standing ground.text_marks past
        b (ground.inside.fetch i few holding) holding d (omega (arith, close)) (cut (b.first + d) ∙ ap (wrap (state k.psw)) at-d ∙ own ∙ sym at-d)
        (λ j moved. past_two storage keys kept k at sum words ground sixteen op registers opcode fields byte (omega (arith, is)) (omega (arith, is)) j (moved ∙ same))
        (leads_of g h (psw_in k at sum) control c same controls false b (keeps.fetch i few)) (ground.marks.fetch i few holding) value loads)))

  -- STORE (ST)
  module _ (is : op ≡ 0x50) (close : behind a (get_or kept (16 + i) 0) ≤ 2044) (word : get_or kept (16 + i) 0 < 2 ^ 32) (high : 512 ≤ a) where
    abbrev e : ℕ
    e = behind a (get_or kept (16 + i) 0)

    abbrev s : Block
    s = store_block kept i

    pub st_steps : (value : ℕ) → value ≡ get_or words (registers / 16) 0
        → Steps storage keys kept k at sum words (step_to (at + 4) sum 16 0) (sets storage (get_or kept (24 + i) 0 + e) (word_bytes value))
    unfolding find has intercepts execute store psw_after
    st_steps value holds =
        of_two storage keys kept k at sum words ground sixteen op registers opcode fields byte (omega (arith, is)) (omega (arith, is)) St (λ b. rw is refl) refl (λ x. refl)
        (step_to (at + 4) sum 16 0) (sets storage (s.place + e) (word_bytes value))
        (λ g designation control keeps clock c same controls contents x standing.
        let h = host designation storage keys in
        let few : i < 8 = omega arith in
        let (from, at-e) = near a (get_or kept (16 + i) 0) small word close in
        let holding : get_or kept (16 + i) 0 < 2147483648 = omega arith in
        let past = psw_at k.psw (address_in k (at + 4)) (code_in sum) in
        let cut = wraps storage keys kept k at sum ground c same in
        let address : s.first + e ≡ indexed_address x =
        at-e ∙ cuts ∙ indexed_here storage keys kept k at sum words ground sixteen op registers opcode fields byte half c same contents x standing.of_cpu standing.of_text in
        let named = holds ∙ one_named storage keys kept k at sum words ground sixteen op registers opcode fields byte (half_at storage (at + 2)) c contents x standing.of_cpu standing.of_text in
        subst (λ o. Left h g c o (done_with c past 16 0) (sets storage (s.place + e) (word_bytes value)) keys) (λ j. storing x (address j) (word_bytes (named j)) (next x x.cpu))
        (store_here h x k.text (first storage keys kept k at sum words ground sixteen op registers opcode fields byte) (half_at storage (at + 2)) standing ground.text_marks past
        s (ground.inside.store i few holding) holding e (omega (arith, close)) (cut (s.first + e) ∙ ap (wrap (state k.psw)) at-e ∙ own ∙ sym at-e)
        (λ j moved. past_two storage keys kept k at sum words ground sixteen op registers opcode fields byte (omega (arith, is)) (omega (arith, is)) j (moved ∙ same))
        (ap length contents ∙ sixteen) (leads_of g h (psw_in k at sum) control c same controls true s (keeps.store i few)) (ground.marks.store i few holding) (omega (arith, at-e, high)) value))
