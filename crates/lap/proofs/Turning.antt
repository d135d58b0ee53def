-- What a step of the code is, by its opcode: done, and a unit of the definition; or nothing is changed.
-- Assumes nothing.
use Rattle.std.proofs.Common.{◌≡◌, ℕ, ◌+◌, ◌/◌, ◌%◌, ◌^◌, ◌<◌, ◌≤◌, Bool, true, false, cond, not, ◌&&◌, eqb, ltb, ◌⊎◌, List, get_or, sym, refl, ap, ◌∙◌, subst, inl, inr, ⊎_elim, arith, ltb-false, eqb-true}
use lib.Seq.{sets}
use Rattle.machine.specs.declared.Class.TheVariants.{Ar, Sr}
use Rattle.machine.specs.Words.{byte_at, half_at, word_at, word_bytes}
use Rattle.machine.specs.Psw.{overflow_enabled, mode31}
use Rattle.machine.specs.Opcodes.{has, find}
use Rattle.machine.specs.Execute.{sum_of, sum_overflows, difference_of, difference_overflows, selected, summed, add, subtract, execute}
use Rattle.machine.specs.Units.{intercepts}
use Rattle.machine.specs.Record.{Sixteen}
use Rattle.guard.specs.Guarding.{Alike}
use Rattle.psws.specs.Psws.{state}
use Rattle.sums.specs.Summing.{outside, code_in, Says}
use Rattle.blocks.specs.Keeping.{Free, Inside, store_block}
use Rattle.blocks.proofs.Holding.{alike_same, kept_free}
use Rattle.lap.specs.declared.Step.{Step}
use Rattle.lap.specs.Stepping.{Spot, nowhere, total_of, cut, behind, entry_of, store_reach, step_to, step_wants, sum_step, branch_step, load_step, store_step, stored_step, Ground, Top, Steps, Stepped}
use Rattle.lap.proofs.Placing.{cut_is_wrap}
use Rattle.lap.proofs.Instructions.{lr_steps, sum_steps, bcr_stays, bcr_goes, la_steps, bc_stays, bc_goes}
use Rattle.lap.proofs.Words.{near, l_steps, st_steps}

module _ (storage kept : List ℕ) (inside : Inside storage kept) (at sum : ℕ) (words : List ℕ) (sixteen : Sixteen words) (trap long : Bool) (top target : ℕ) where
  -- what the contract of a unit says
  abbrev pub Turned : Step → List ℕ → Type 0
  Turned r storage' =
      (r.want < 2 → Stepped storage kept at sum words trap long top target r storage')
      × ((2 ≤ r.want → (storage' ≡ storage) × (r.a < 2147483648)) × ((guard : List ℕ) → Free guard kept → Alike guard storage storage'))

  -- of every guest and host
  abbrev Everywhere : Step → List ℕ → Type 0
  Everywhere s storage' =
      (keys : List ℕ) (k : Spot) → Ground storage keys kept k at → Top k top target → trap ≡ overflow_enabled (state k.psw) → long ≡ mode31 (state k.psw)
      → Steps storage keys kept k at sum words s storage'

  -- nothing is done
  pub wants : (r : Step) (want a : ℕ) (old : ℕ) → r ≡ step_wants want a at old → 2 ≤ want → a < 2147483648 → Turned r storage
  wants r want a old is some small =
      subst (λ s. Turned s storage) (sym is) (λ few. absurd (omega (arith, few)), (λ _. (refl, small), λ guard free. alike_same guard storage))

  -- done, past an instruction of so many bytes
  past : (r : Step) (n s register value : ℕ) → r ≡ step_to (at + n) s register value → (n ≡ 2) ⊎ (n ≡ 4) → (storage' : List ℕ) → Everywhere (step_to (at + n) s register value) storage'
      → ((guard : List ℕ) → Free guard kept → Alike guard storage storage') → Turned r storage'
  past r n s register value is two-or-four storage' unit alike =
      subst (λ q. Turned q storage') (sym is) (
        λ _. record {
          unit = unit;
          onward = λ _. ⊎_elim (λ two. inl (ap (λ m. at + m) two)) (λ four. inr (inl (ap (λ m. at + m) four))) two-or-four;
          far = λ jumps. absurd (omega (arith, jumps));
          stays = λ jumps. absurd (omega (arith, jumps));
        },
        (λ some. absurd (omega (arith, some)), alike),
      )

  -- a branch that is taken
  branches : (r : Step) (to : ℕ) → r ≡ branch_step at sum to top target → to < nowhere → Everywhere (branch_step at sum to top target) storage → Turned r storage
  unfolding branch_step
  branches r to is small unit = by_top (eqb to top) refl is unit
    where
      by_top : (b : Bool) → eqb to top ≡ b → r ≡ cond b (step_to target sum 16 0) (step_wants 1 to at sum) → Everywhere (cond b (step_to target sum 16 0) (step_wants 1 to at sum)) storage
          → Turned r storage
      by_top true same is unit =
          let near_by : top < nowhere = omega (arith, eqb-true to top same) in
          subst (λ q. Turned q storage) (sym is) (
            λ _. record {
              unit = unit;
              onward = λ _. inr (inr (refl, near_by));
              far = λ jumps. absurd (omega (arith, jumps));
              stays = λ jumps. absurd (omega (arith, jumps));
            },
            (λ some. absurd (omega (arith, some)), λ guard free. alike_same guard storage),
          )
      by_top false other is unit =
          subst (λ q. Turned q storage) (sym is) (
            λ _. record { unit = unit; onward = λ stays. absurd (omega (arith, stays)); far = λ _. small; stays = λ _. (refl, refl) },
            (λ some. absurd (omega (arith, some)), λ guard free. alike_same guard storage),
          )

  module _ (op registers : ℕ) (opcode : byte_at storage at ≡ op) (fields : byte_at storage (at + 1) ≡ registers) (byte : registers < 256) (half : half_at storage (at + 2) < 65536) (r : Step) where
    pub turned_lr : op ≡ 0x18 → r ≡ step_to (at + 2) sum (registers / 16) (get_or words (registers % 16) 0) → Turned r storage
    turned_lr is made =
        past r 2 sum (registers / 16) (get_or words (registers % 16) 0) made (inl refl) storage
        (λ keys k ground leads traps modes. lr_steps storage keys kept k at sum words ground sixteen.long op registers opcode fields byte is) (λ guard free. alike_same guard storage)

    -- a sum, or an overflow that is a program exception
    by_sum : (s : ℕ) → r ≡ sum_step at sum s (registers / 16) trap → ((trap && outside s) ≡ false → Everywhere (step_to (at + 2) s (registers / 16) (s % 2 ^ 32)) storage) → Turned r storage
    unfolding sum_step
    by_sum s = by_trap (trap && outside s) refl
      where
        by_trap : (b : Bool) → (trap && outside s) ≡ b → r ≡ cond b (step_wants 4 0 at sum) (step_to (at + 2) s (registers / 16) (s % 2 ^ 32))
            → ((trap && outside s) ≡ false → Everywhere (step_to (at + 2) s (registers / 16) (s % 2 ^ 32)) storage) → Turned r storage
        by_trap true _ made unit = wants r 4 0 sum made (omega arith) (omega arith)
        by_trap false none made unit = past r 2 s (registers / 16) (s % 2 ^ 32) made (inl refl) storage (unit none) (λ guard free. alike_same guard storage)

    pub turned_ar : op ≡ 0x1a → (s : ℕ) → (let a = get_or words (registers / 16) 0 in let b = get_or words (registers % 16) 0 in Says (sum_of a b) (sum_overflows a b) s)
        → r ≡ sum_step at sum s (registers / 16) trap → Turned r storage
    unfolding find has intercepts execute add
    turned_ar is s says made =
        by_sum s made (λ none keys k ground leads traps modes.
        sum_steps storage keys kept k at sum words ground sixteen.long op registers opcode fields byte Ar (omega (arith, is)) (λ b. rw is refl) refl (λ x. refl) _ _ s says trap traps
        (λ x one two i. summed x (sum_of (sym one i) (sym two i)) (sum_overflows (sym one i) (sym two i))) none)

    pub turned_sr : op ≡ 0x1b → (s : ℕ) → (let a = get_or words (registers / 16) 0 in let b = get_or words (registers % 16) 0 in Says (difference_of a b) (difference_overflows a b) s)
        → r ≡ sum_step at sum s (registers / 16) trap → Turned r storage
    unfolding find has intercepts execute subtract
    turned_sr is s says made =
        by_sum s made (λ none keys k ground leads traps modes.
        sum_steps storage keys kept k at sum words ground sixteen.long op registers opcode fields byte Sr (omega (arith, is)) (λ b. rw is refl) refl (λ x. refl) _ _ s says trap traps
        (λ x one two i. summed x (difference_of (sym one i) (sym two i)) (difference_overflows (sym one i) (sym two i))) none)

    -- BCR: not taken, and taken
    pub turned_bcr_stays : op ≡ 0x07 → (not (eqb (registers % 16) 0) && selected (registers / 16) (code_in sum)) ≡ false → r ≡ step_to (at + 2) sum 16 0 → Turned r storage
    turned_bcr_stays is stays made =
        past r 2 sum 16 0 made (inl refl) storage
        (λ keys k ground leads traps modes. bcr_stays storage keys kept k at sum words ground sixteen.long op registers opcode fields byte is stays) (λ guard free. alike_same guard storage)

    pub turned_bcr : op ≡ 0x07 → (not (eqb (registers % 16) 0) && selected (registers / 16) (code_in sum)) ≡ true → r ≡ branch_step at sum (get_or words (registers % 16) 0) top target → Turned r storage
    turned_bcr is goes made =
        let small : get_or words (registers % 16) 0 < nowhere = omega (arith, sixteen.small (registers % 16)) in
        branches r (get_or words (registers % 16) 0) made small
        (λ keys k ground leads traps modes. bcr_goes storage keys kept k at sum words ground sixteen.long op registers opcode fields byte is goes small top target leads)

    abbrev total : ℕ
    total = total_of words (registers % 16) (half_at storage (at + 2))

    pub turned_la : op ≡ 0x41 → (value : ℕ) → value ≡ cut long total → r ≡ step_to (at + 4) sum (registers / 16) value → Turned r storage
    turned_la is value cuts made =
        past r 4 sum (registers / 16) value made (inr refl) storage
        (λ keys k ground leads traps modes. la_steps storage keys kept k at sum words ground sixteen.long op registers opcode fields byte half is value (cuts ∙ cut_is_wrap k.psw long modes total))
        (λ guard free. alike_same guard storage)

    pub turned_bc_stays : op ≡ 0x47 → selected (registers / 16) (code_in sum) ≡ false → r ≡ step_to (at + 4) sum 16 0 → Turned r storage
    turned_bc_stays is stays made =
        past r 4 sum 16 0 made (inr refl) storage
        (λ keys k ground leads traps modes. bc_stays storage keys kept k at sum words ground sixteen.long op registers opcode fields byte half is stays) (λ guard free. alike_same guard storage)

    pub turned_bc : op ≡ 0x47 → selected (registers / 16) (code_in sum) ≡ true → total < nowhere → r ≡ branch_step at sum total top target → Turned r storage
    turned_bc is goes small made =
        branches r total made small
        (λ keys k ground leads traps modes. bc_goes storage keys kept k at sum words ground sixteen.long op registers opcode fields byte half is goes small top target leads)

    module _ (a : ℕ) (few : a < 2147483648) (cuts : a ≡ cut long total) where
      pub turned_l : op ≡ 0x58 → get_or kept (entry_of a) 0 < 2 ^ 32 → r ≡ load_step storage kept at sum (registers / 16) a → Turned r storage
      unfolding load_step
      turned_l is word = by_reach (ltb 2044 (behind a (get_or kept (entry_of a) 0))) refl
        where
          value : ℕ
          value = word_at storage (get_or kept (8 + entry_of a) 0 + behind a (get_or kept (entry_of a) 0))

          by_reach : (b : Bool) → ltb 2044 (behind a (get_or kept (entry_of a) 0)) ≡ b → r ≡ cond b (step_wants 2 a at sum) (step_to (at + 4) sum (registers / 16) value) → Turned r storage
          by_reach true _ made = wants r 2 a sum made (omega arith) few
          by_reach false close made =
              past r 4 sum (registers / 16) value made (inr refl) storage
              (λ keys k ground leads traps modes.
              l_steps storage keys kept k at sum words ground sixteen.long op registers opcode fields byte half a few (cuts ∙ cut_is_wrap k.psw long modes total) is
              (ltb-false _ _ close) word value refl)
              (λ guard free. alike_same guard storage)

      pub turned_st : op ≡ 0x50 → get_or kept (16 + entry_of a) 0 < 2 ^ 32 → (value : ℕ) → value ≡ get_or words (registers / 16) 0 → (storage' : List ℕ) → r ≡ store_step kept at sum a → storage' ≡ stored_step storage kept a value → Turned r storage'
      unfolding store_step stored_step
      turned_st is word value holds storage' = by_reach (ltb 2044 (store_reach kept a)) (ltb a 512) refl refl
        where
          stores : List ℕ
          stores = sets storage (get_or kept (24 + entry_of a) 0 + store_reach kept a) (word_bytes value)

          by_reach : (b low : Bool) → ltb 2044 (store_reach kept a) ≡ b → ltb a 512 ≡ low
              → r ≡ cond b (step_wants 3 a at sum) (cond low (step_wants 4 a at sum) (step_to (at + 4) sum 16 0)) → storage' ≡ cond b storage (cond low storage stores) → Turned r storage'
          by_reach true low _ _ made left = subst (Turned r) (sym left) (wants r 3 a sum made (omega arith) few)
          by_reach false true _ _ made left = subst (Turned r) (sym left) (wants r 4 a sum made (omega arith) few)
          by_reach false false close high made left =
              subst (Turned r) (sym left)
              (past r 4 sum 16 0 made (inr refl) stores
              (λ keys k ground leads traps modes.
              st_steps storage keys kept k at sum words ground sixteen.long op registers opcode fields byte half a few (cuts ∙ cut_is_wrap k.psw long modes total) is
              (ltb-false _ _ close) word (ltb-false _ _ high) value holds)
              (λ guard free.
              let within : store_reach kept a ≤ 2044 = ltb-false _ _ close in
              let (from, at-d) = near a (get_or kept (16 + entry_of a) 0) few word within in
              let holding : get_or kept (16 + entry_of a) 0 < 2147483648 = omega arith in
              kept_free guard storage (word_bytes value) (store_block kept (entry_of a)) (free (entry_of a) (omega arith) holding) (inside.store (entry_of a) (omega arith) holding) (store_reach kept a)
              (omega arith)))
