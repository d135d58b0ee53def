-- LOAD CONTROL and STORE CONTROL, whose operand stands on a kept block.
-- Assumes nothing.
use Prim.Native.Nat.{ℕ, ◌+◌, ◌-◌, ◌*◌, ◌/◌, ◌%◌, ◌≤◌, ◌<◌}
use native.Mathlib.Nat.{div-one}
use native.Mathlib.Omega.{arith}
use mathlib.Core.Path.{◌≡◌, refl, ap, sym, subst, ◌∙◌}
use mathlib.Core.List.{List, ◌++◌, append-nil}
use lib.ListN.{length, take, drop}
use lib.Seq.{sets}
use borrow.Rule.Slice.PartMut.{put_mid}
use Rattle.machine.specs.declared.Cpu.{Cpu}
use Rattle.machine.specs.declared.Psw.{Psw}
use Rattle.machine.specs.declared.Registers.{Registers}
use Rattle.machine.specs.Words.{bits, words_at, words_bytes}
use Rattle.machine.specs.Psw.{advanced}
use Rattle.machine.specs.Opcodes.{length_of}
use Rattle.machine.specs.Outcomes.{Progress}
use Rattle.machine.specs.Execute.{r1, next, range_count, controls_from, with_controls, load_control, store_control}
use Rattle.words.proofs.Parts.{sets_of_part}
use Rattle.interruptions.specs.After.{left_by, with_registers, Left}
use Rattle.interruptions.proofs.Leaving.{past_it}
use Rattle.loads.proofs.Fetching.{controls_loaded}
use Rattle.stores.proofs.Controls.{length_controls}
use Rattle.guard.specs.Guarding.{Alike}
use Rattle.blocks.specs.Keeping.{fetch_block, store_block}
use Rattle.steps.specs.Texting.{short_text, done_as}
use Rattle.steps.proofs.Completing.{set_unset}
use Rattle.special.specs.declared.Done.{Done}
use Rattle.places.specs.Placing.{Spot}
use Rattle.special.specs.Performing.{psw_in, Performs, WithControls}
use Rattle.special.proofs.Leaving.{past_psw}
use Rattle.special.proofs.Performing.{performs_fetched, performs-stored}

-- The PSW past an instruction of two halfwords.

abbrev pub Moves : Psw → Psw → Type 0
Moves psw later = (c : Cpu) → c.psw ≡ psw → later ≡ (advanced c 2).psw

-- only its words change
pub moved : (psw later : Psw) → Moves psw later → (d : Done) → d.left ≡ later.left → d.right ≡ later.right → Moves psw (psw_in d psw)
moved psw later moves d left right c same = past_psw psw later 2 moves d left right ∙ moves c same

-- n registers, from one that the text names to another
module _ (kept storage control : List ℕ) (psw later : Psw) (moves : Moves psw later) (a from to n p : ℕ) (small : a < 2147483648)
    (count : n ≡ (to + (16 - from)) % 16 + 1) where
  -- so many the text names
  as_many : (x : Progress) (first second : ℕ) → x.text ≡ short_text first second → first / 16 % 16 ≡ from → first % 16 ≡ to → n ≡ range_count x
  unfolding range_count
  as_many x first second text one three = count ∙ rw (text, div-one, sym one, sym three)

  -- past the instruction, of two halfwords
  past : (k : Cpu) (first : ℕ) → length_of first ≡ 2 → k.psw ≡ psw → later ≡ (advanced k (length_of first)).psw
  past k first two same = moves k same ∙ ap (λ m. (advanced k m).psw) (sym two)

  -- the registers, loaded from a part of storage that was lent
  pub controls_fetched : Spot (fetch_block kept (a / 2048 % 8)) a (4 * n) p → (control' : List ℕ)
      → ((c : Cpu) → c.control.words ≡ control → with_registers c (record { words = control' }) ≡ with_controls c from (words_at (take (p + 4 * n - p) (drop p storage)) 0 n))
      → Performs kept psw a storage (WithControls control from to) load_control (λ c. done_as later c.timer (record { words = control' })) storage
  unfolding load_control left_by
  controls_fetched spot control' loaded guard h g x clock c text first second begun named =
      let standing = begun.standing in
      let many = as_many x first second standing.of_text named.1 named.2 in
      let bytes = take (4 * n) (drop p storage) in
      let none : 4 * n - 4 * n ≡ 0 = omega arith in
      let all : p + 4 * n - p ≡ 4 * n = omega arith in
      let whole : take (p + 4 * n - p) (drop p storage) ≡ bytes ++ take (4 * n - 4 * n) (drop 0 storage) = rw (all, none) (sym (append-nil bytes)) in
      let registers : Registers = record { words = control' } in
      performs_fetched kept storage guard psw a h g x clock c text first second begun small (4 * n) p (omega (arith, count)) spot (ap (λ m. 4 * m) many) _
      (done_as later c.timer registers) refl
      (controls_loaded h x standing (done_as later c.timer registers) later (bytes ++ take (4 * n - 4 * n) (drop 0 storage)) registers n
      (set_unset (with_registers c registers) later) (λ k same. past k first begun.two (same ∙ begun.of_psw))
      (loaded c named.0 ∙ (λ i. with_controls c (sym named.1 i) (words_at (whole i) 0 n))) many)

  -- the registers, in a part of storage that was lent
  pub controls_stored : Spot (store_block kept (a / 2048 % 8)) a (4 * n) p → 512 ≤ a → p + 4 * n ≤ length storage → (part : List ℕ)
      → ((c : Cpu) → c.control.words ≡ control → part ≡ words_bytes (controls_from c from n))
      → Performs kept psw a storage (WithControls control from to) store_control (λ c. done_as later c.timer c.control) (put_mid p (p + 4 * n - p) storage part)
  unfolding store_control
  controls_stored spot high fits part stores guard h g x clock c text first second begun named =
      let standing = begun.standing in
      let many = as_many x first second standing.of_text named.1 named.2 in
      let one : from ≡ r1 x = sym named.1 ∙ ap (λ u. bits 16 8 11 u.first) (sym standing.of_text) in
      let long : length part ≡ 4 * n = ap length (stores c named.0) ∙ length_controls c from n in
      let put : put_mid p (p + 4 * n - p) storage part ≡ sets storage p part =
      ap (λ m. put_mid p (p + m - p) storage part) (sym long) ∙ sets_of_part storage p part (omega (arith, long, fits)) in
      subst (λ s. Left h g c (store_control x) (done_as later c.timer c.control) s h.keys × Alike guard storage s) (sym put)
      (performs-stored kept storage guard psw a h g x clock c text first second begun small (4 * n) p (omega (arith, count)) spot high part long
      (stores c named.0 ∙ (λ i. words_bytes (controls_from (sym standing.of_cpu i) (one i) (many i)))) (next x x.cpu)
      (done_as later c.timer c.control) refl
      (set_unset c later ∙ past_it h x standing c later (past c first begun.two begun.of_psw) ∙ ap (next x) (sym standing.of_cpu)))
