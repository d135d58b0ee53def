-- The fields that units change, kept beside the record: put into it and read back, put into it twice, and put back as they were;
-- one of sixteen registers set.
-- Assumes nothing.
use Prim.Native.Nat.{ℕ, zero, suc, ◌+◌, ◌/◌, ◌%◌, ◌^◌, ◌≤◌, ◌<◌}
use native.Mathlib.Omega.{arith}
use native.Mathlib.Nat.{suc_inj}
use mathlib.Core.Path.{◌≡◌, refl, sym, ap, ◌∙◌}
use mathlib.Core.Bool.{Bool, true, false}
use mathlib.Core.List.{List, [], ◌∷◌, ◌++◌}
use mathlib.Core.Logic.{inl, inr}
use lib.Dec.{eqb}
use lib.ListN.{length, get_or, set, take, length-take, length-set}
use lib.Seq.{sets, length-sets, take_all, set_comm, set-set}
use borrow.Author.Tests.{eqb-true, eqb-false}
use Rattle.machine.specs.declared.Cpu.{Cpu}
use Rattle.machine.specs.Words.{byte_at, word_at, double_at, words_at, word_bytes, double_bytes, words_bytes}
use Rattle.machine.specs.Record.{record_length, psw_at, timer_at, control_at, general_at, request_at, residue_at, system370_mode, is_system370, psw_bytes, register_bytes, psw_of, cpu_of, with_cpu, with_request, with_interval, Sixteen, Bounded}
use Rattle.machine.proofs.Laws.{get_d_sets_beside, set-sets, sets_comm, sets-sets, registers_short, timer_of_with_cpu, byte_of-with_cpu}
use Rattle.machine.proofs.Words.{length-words_at, length-words_bytes, word_bytes-mod, word_small, words_of_bytes, words_of_sets, sets_words_same}

-- the bytes of sixteen words are those of the words
registers_all : (ws : List ℕ) → length ws ≡ 16 → register_bytes ws ≡ words_bytes ws
registers_all ws sixteen = ap words_bytes (take_all 16 ws (omega arith))

-- the PSW has the architecture of the record
pub cpu_of-with_cpu : (c : Cpu) (r : List ℕ) → record_length ≤ length r → Bounded c → c.psw.system370 ≡ is_system370 r
    → cpu_of (with_cpu c r) ≡ c
unfolding cpu_of psw_of with_cpu words_at words_bytes
cpu_of-with_cpu c r long bounded architecture =
    λ i. record {
      psw = record { left = get_or (psw i) 0 0; right = get_or (psw i) 1 0; system370 = system370 i };
      timer = timer i;
      control = record { words = control i };
      general = record { words = general i };
    }
  where
    with_psw : List ℕ
    with_psw = sets r psw_at (psw_bytes c.psw)

    with_timer : List ℕ
    with_timer = sets with_psw timer_at (double_bytes c.timer)

    with_controls : List ℕ
    with_controls = sets with_timer control_at (register_bytes c.control.words)

    length-with_timer : length with_timer ≡ length r
    length-with_timer = length-sets with_psw timer_at (double_bytes c.timer) ∙ length-sets r psw_at (psw_bytes c.psw)

    length-with_controls : length with_controls ≡ length r
    length-with_controls = length-sets with_timer control_at (register_bytes c.control.words) ∙ length-with_timer

    system370 : is_system370 (with_cpu c r) ≡ c.psw.system370
    system370 = ap system370_mode (byte_of-with_cpu c r 4 (inl (omega arith))) ∙ sym architecture

    below_general : (i : ℕ) → i < general_at → byte_at (with_cpu c r) i ≡ byte_at with_controls i
    below_general i h = get_d_sets_beside with_controls general_at (register_bytes c.general.words) i 0 (inl h)

    small : (i : ℕ) → get_or (c.psw.left ∷ c.psw.right ∷ []) i 0 < 2 ^ 32
    small zero = bounded.left
    small (suc zero) = bounded.right
    small (suc (suc i)) = omega arith

    psw : words_at (with_cpu c r) psw_at 2 ≡ c.psw.left ∷ c.psw.right ∷ []
    psw =
        words_of_bytes (with_cpu c r) with_psw psw_at 2
        (λ i l h.
        below_general i (omega arith)
        ∙ get_d_sets_beside with_timer control_at (register_bytes c.control.words) i 0 (inl (omega arith))
        ∙ get_d_sets_beside with_psw timer_at (double_bytes c.timer) i 0 (inl (omega arith)))
        ∙ words_of_sets r psw_at (c.psw.left ∷ c.psw.right ∷ []) small (omega arith)

    timer : double_at (with_cpu c r) timer_at ≡ c.timer
    timer =
        let fits : c.timer % 2 ^ 64 ≡ c.timer = omega (arith, bounded.timer) in
        timer_of_with_cpu c r (omega arith) ∙ fits

    registers : (l : List ℕ) (a : ℕ) (ws : List ℕ) → Sixteen ws → a + 64 ≤ length l → words_at (sets l a (register_bytes ws)) a 16 ≡ ws
    registers l a ws sixteen fits =
        ap (λ (bytes : List ℕ). words_at (sets l a bytes) a 16) (registers_all ws sixteen.long)
        ∙ ap (λ (n : ℕ). words_at (sets l a (words_bytes ws)) a n) (sym sixteen.long)
        ∙ words_of_sets l a ws sixteen.small (omega (arith, sixteen.long))

    control : words_at (with_cpu c r) control_at 16 ≡ c.control.words
    control =
        words_of_bytes (with_cpu c r) with_controls control_at 16 (λ i l h. below_general i (omega arith))
        ∙ registers with_timer control_at c.control.words bounded.control (omega (arith, length-with_timer))

    general : words_at (with_cpu c r) general_at 16 ≡ c.general.words
    general = registers with_controls general_at c.general.words bounded.general (omega (arith, length-with_controls))

module _ {A : Type 0} where
  -- a store that is overwritten need not be made, whatever is stored between
  set_between : (l : List A) (i : ℕ) (u w : A) (j : ℕ) (vs : List A) → set (sets (set l i u) j vs) i w ≡ set (sets l j vs) i w
  set_between l i u w j [] = set-set l i u w
  set_between l i u w j (v ∷ vs) = go (set_between (set l j v) i u w (suc j) vs) (eqb i j) refl
    where
      go : set (sets (set (set l j v) i u) (suc j) vs) i w ≡ set (sets (set l j v) (suc j) vs) i w → (b : Bool) → eqb i j ≡ b
          → set (sets (set (set l i u) j v) (suc j) vs) i w ≡ set (sets (set l j v) (suc j) vs) i w
      go later true e = rw (eqb-true i j e, set-set)
      go later false e = rw (set_comm l i j u v (eqb-false i j e)) later

  -- so for a run of stores
  sets_between : (l : List A) (i : ℕ) (us ws : List A) (j : ℕ) (vs : List A) → length us ≡ length ws
      → sets (sets (sets l i us) j vs) i ws ≡ sets (sets l j vs) i ws
  sets_between l i [] [] j vs h = refl
  sets_between l i [] (w ∷ ws) j vs h = absurd (omega arith)
  sets_between l i (u ∷ us) [] j vs h = absurd (omega arith)
  sets_between l i (u ∷ us) (w ∷ ws) j vs h =
      let behind : List A = sets (sets l (suc i) us) j vs in
      ap (λ (t : List A). sets (set (sets t j vs) i w) (suc i) ws) (sym (set-sets l i u (suc i) us (inl (omega arith))))
      ∙ ap (λ (t : List A). sets t (suc i) ws) (set_between (sets l (suc i) us) i u w j vs)
      ∙ sym (set-sets behind i w (suc i) ws (inl (omega arith)))
      ∙ ap (λ (t : List A). set t i w) (sets_between l (suc i) us ws j vs (suc_inj h))
      ∙ set-sets (sets l j vs) i w (suc i) ws (inl (omega arith))

-- the four runs of stores of `with_cpu`, made twice
fields_fields : (s p t c g p' t' c' g' : List ℕ) → length p ≡ 8 → length p' ≡ 8 → length t ≡ 8 → length t' ≡ 8 → length c ≡ length c' → length g ≡ length g'
    → sets (sets (sets (sets (sets (sets (sets (sets s psw_at p) timer_at t) control_at c) general_at g) psw_at p') timer_at t') control_at c') general_at g'
    ≡ sets (sets (sets (sets s psw_at p') timer_at t') control_at c') general_at g'
fields_fields s p t c g p' t' c' g' hp hp' ht ht' hc hg =
    let once : List ℕ = sets (sets s psw_at p) timer_at t in
    let low : List ℕ = sets once psw_at p' in
    let both : List ℕ = sets low timer_at t' in
    rw (
      sets_comm (sets once control_at c) general_at g psw_at p' (inr (omega arith)),
      sets_comm once control_at c psw_at p' (inr (omega arith)),
      sets_comm (sets low control_at c) general_at g timer_at t' (inr (omega arith)),
      sets_comm low control_at c timer_at t' (inr (omega arith)),
      sets_between both control_at c c' general_at g hc,
      sets_between both general_at g g' control_at c' hg,
      sets_between (sets s psw_at p) timer_at t t' psw_at p' (omega arith),
      sets-sets s psw_at p p' (omega arith),
    )

pub with_cpu-with_cpu : (c d : Cpu) (r : List ℕ) → length c.control.words ≡ length d.control.words
    → length c.general.words ≡ length d.general.words → with_cpu d (with_cpu c r) ≡ with_cpu d r
unfolding with_cpu
with_cpu-with_cpu c d r controls generals =
    fields_fields r (psw_bytes c.psw) (double_bytes c.timer) (register_bytes c.control.words) (register_bytes c.general.words)
    (psw_bytes d.psw)
    (double_bytes d.timer) (register_bytes d.control.words) (register_bytes d.general.words) refl refl refl refl
    (as_long c.control.words d.control.words controls) (as_long c.general.words d.general.words generals)
  where
    as_long : (us vs : List ℕ) → length us ≡ length vs → length (register_bytes us) ≡ length (register_bytes vs)
    as_long us vs e = rw (length-words_bytes, length-words_bytes (take 16 vs), length-take, length-take 16 vs, e)

-- a record of bytes that gets its own fields back stays as it is
module _ (r : List ℕ) (small : (i : ℕ) → byte_at r i < 256) where
  psw_same : sets r psw_at (psw_bytes (psw_of (is_system370 r) r psw_at)) ≡ r
  unfolding psw_of words_at words_bytes
  psw_same = sets_words_same r small psw_at 2

  timer_same : sets r timer_at (double_bytes (double_at r timer_at)) ≡ r
  unfolding double_at words_at words_bytes
  timer_same =
      let high : double_at r timer_at / 2 ^ 32 ≡ word_at r timer_at = omega (arith, word_small r small (timer_at + 4)) in
      let low : double_at r timer_at % 2 ^ 32 ≡ word_at r (timer_at + 4) = omega arith in
      let second : word_bytes (double_at r timer_at) ≡ word_bytes (word_at r (timer_at + 4)) = sym (word_bytes-mod (double_at r timer_at)) ∙ ap word_bytes low in
      (λ i. sets r timer_at (word_bytes (high i) ++ second i)) ∙ sets_words_same r small timer_at 2

  pub with_cpu-cpu_of : with_cpu (cpu_of r) r ≡ r
  unfolding cpu_of with_cpu
  with_cpu-cpu_of =
      rw (
        psw_same,
        timer_same,
        registers_all (words_at r control_at 16) (length-words_at r control_at 16),
        sets_words_same r small control_at 16,
        registers_all (words_at r general_at 16) (length-words_at r general_at 16),
        sets_words_same r small general_at 16,
      )

-- the interval timer's fields, beside those of the CPU, are put into the record in either order
pub with_request-with_cpu : (request : ℕ) (c : Cpu) (r : List ℕ) → with_request request (with_cpu c r) ≡ with_cpu c (with_request request r)
unfolding with_request with_cpu
with_request-with_cpu request c r =
    rw (
      set-sets _ request_at request general_at (register_bytes c.general.words)
          (inr (omega (arith, registers_short 16 c.general.words))),
      set-sets _ request_at request control_at (register_bytes c.control.words)
          (inr (omega (arith, registers_short 16 c.control.words))),
      set-sets _ request_at request timer_at (double_bytes c.timer) (inr (omega arith)),
      set-sets r request_at request psw_at (psw_bytes c.psw) (inr (omega arith)),
    )

pub with_interval-with_cpu : (request residue : ℕ) (c : Cpu) (r : List ℕ)
    → with_interval request residue (with_cpu c r) ≡ with_cpu c (with_interval request residue r)
unfolding with_interval with_cpu
with_interval-with_cpu request residue c r =
    ap (λ (t : List ℕ). sets t residue_at (word_bytes residue)) (with_request-with_cpu request c r)
    ∙ rw (
      sets_comm _ general_at (register_bytes c.general.words) residue_at (word_bytes residue)
          (inl (omega (arith, registers_short 16 c.general.words))),
      sets_comm _ control_at (register_bytes c.control.words) residue_at (word_bytes residue)
          (inl (omega (arith, registers_short 16 c.control.words))),
      sets_comm _ timer_at (double_bytes c.timer) residue_at (word_bytes residue) (inl (omega arith)),
      sets_comm (with_request request r) psw_at (psw_bytes c.psw) residue_at (word_bytes residue) (inl (omega arith)),
    )

-- the later of them count
pub with_interval-with_interval : (request residue request' residue' : ℕ) (r : List ℕ)
    → with_interval request' residue' (with_interval request residue r) ≡ with_interval request' residue' r
unfolding with_interval with_request
with_interval-with_interval request residue request' residue' r =
    rw (
      set-sets (set r request_at request) request_at request' residue_at (word_bytes residue) (inl (omega arith)),
      set-set r request_at request request',
    )
    (sets-sets (set r request_at request') residue_at (word_bytes residue) (word_bytes residue') refl)

-- one of sixteen words, set
pub sixteen_set : (l : List ℕ) (i v : ℕ) → Sixteen l → v < 2 ^ 32 → Sixteen (set l i v)
sixteen_set l i v words small = record { long = length-set l i v ∙ words.long; small = λ j. by_list l i j words.small }
  where
    by_list : (l : List ℕ) (i j : ℕ) → ((j : ℕ) → get_or l j 0 < 2 ^ 32) → get_or (set l i v) j 0 < 2 ^ 32
    by_list [] i j each = each j
    by_list (w ∷ ws) zero zero each = small
    by_list (w ∷ ws) zero (suc j) each = each (suc j)
    by_list (w ∷ ws) (suc i) zero each = each zero
    by_list (w ∷ ws) (suc i) (suc j) each = by_list ws i j (λ j. each (suc j))
