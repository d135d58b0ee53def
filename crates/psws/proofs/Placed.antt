-- What is read of a PSW at another address and with another condition code, and what it becomes when a unit moves it again.
-- Assumes nothing.
use Prim.Native.Nat.{ℕ, ◌+◌, ◌*◌, ◌/◌, ◌%◌, ◌^◌, ◌<◌}
use native.Mathlib.Omega.{arith}
use mathlib.Core.Path.{◌≡◌, refl, ap, sym, ◌∙◌}
use mathlib.Core.Bool.{Bool, true, false, not, ◌&&◌, ◌||◌}
use lib.Dec.{eqb}
use Rattle.machine.specs.declared.Cpu.{Cpu}
use Rattle.machine.specs.declared.Psw.{Psw}
use Rattle.machine.specs.Words.{bit, bits}
use Rattle.machine.specs.Psw.{basic_control, io_enabled, external_enabled, waiting, problem_state, condition_code, overflow_enabled, mode31, instruction_address, before_address, not_installed, left_malformed, malformed, wrap, with_psw, with_address, advanced, with_condition_code}
use Rattle.laws.proofs.PageBytes.{wrap_by_mode}
use Rattle.psws.specs.Psws.{state, psw_at, Wrapped}

-- The words as numbers.

-- a left word with another condition code
abbrev in_left : ℕ → ℕ → ℕ
in_left l k = l / 2 ^ 14 % 2 ^ 18 * 2 ^ 14 + k * 2 ^ 12 + l / 2 ^ 0 % 2 ^ 12

-- a BC right word with another condition code, and its first byte
abbrev in_right : ℕ → ℕ → ℕ
in_right r k = r / 2 ^ 30 % 2 ^ 2 * 2 ^ 30 + k * 2 ^ 28 + r / 2 ^ 0 % 2 ^ 28

abbrev in_byte : ℕ → ℕ → ℕ
in_byte h k = h / 64 % 4 * 64 + k * 16 + h % 16

module _ (l k : ℕ) (word : l < 2 ^ 32) (small : k < 4) where
  left_above : in_left l k / 2 ^ 14 ≡ l / 2 ^ 14
  left_above = omega arith

  left_below : in_left l k % 2 ^ 12 ≡ l % 2 ^ 12
  left_below = omega arith

  left_code : in_left l k / 2 ^ 12 % 2 ^ 2 ≡ k
  left_code = omega arith

  left_word : in_left l k < 2 ^ 32
  left_word = omega arith

left_same : (l : ℕ) → l < 2 ^ 32 → in_left l (l / 2 ^ 12 % 2 ^ 2) ≡ l
left_same l word = omega arith

-- by what stands above and below the code
left_again : (l m k : ℕ) → l / 2 ^ 14 ≡ m / 2 ^ 14 → l % 2 ^ 12 ≡ m % 2 ^ 12 → in_left l k ≡ in_left m k
left_again l m k above below =
    let low : l / 2 ^ 0 % 2 ^ 12 ≡ m / 2 ^ 0 % 2 ^ 12 = omega arith in
    rw (above, low)

right_apart : (h t k : ℕ) → h < 256 → t < 2 ^ 24 → in_right (h * 2 ^ 24 + t) k ≡ in_byte h k * 2 ^ 24 + t
right_apart h t k byte address =
    let high : (h * 2 ^ 24 + t) / 2 ^ 30 % 2 ^ 2 ≡ h / 64 % 4 = omega arith in
    let low : (h * 2 ^ 24 + t) / 2 ^ 0 % 2 ^ 28 ≡ h % 16 * 2 ^ 24 + t = omega arith in
    rw (high, low) (sum (h / 64 % 4) (h % 16) t k)
  where
    sum : (u v t k : ℕ) → u * 2 ^ 30 + k * 2 ^ 28 + (v * 2 ^ 24 + t) ≡ (u * 64 + k * 16 + v) * 2 ^ 24 + t
    sum u v t k = omega arith

-- a right word put together again
basic_same : (r : ℕ) → r < 2 ^ 32 → in_byte (r / 2 ^ 24 % 2 ^ 8) (r / 2 ^ 28 % 2 ^ 2) * 2 ^ 24 + r / 2 ^ 0 % 2 ^ 24 % 2 ^ 24 ≡ r
basic_same r word =
    let code : r / 2 ^ 28 % 2 ^ 2 ≡ r / 2 ^ 24 / 16 % 4 = omega arith in
    rw (code, byte_same (r / 2 ^ 24) (omega arith)) (omega arith)
  where
    byte_same : (h : ℕ) → h < 256 → in_byte (h % 2 ^ 8) (h / 16 % 4) ≡ h
    byte_same h byte = let here : h % 2 ^ 8 ≡ h = omega arith in rw here (omega arith)

extended_same : (r : ℕ) → r < 2 ^ 32 → r / 2 ^ 24 % 2 ^ 8 * 2 ^ 24 + r / 2 ^ 0 % 2 ^ 24 % 2 ^ 24 ≡ r
extended_same r word = omega arith

long_same : (r : ℕ) → r < 2 ^ 32 → r / 2 ^ 31 % 2 ^ 1 * 2 ^ 31 + r / 2 ^ 0 % 2 ^ 31 ≡ r
long_same r word = omega arith

module _ (h k : ℕ) (byte : h < 256) (small : k < 4) where
  byte_byte : in_byte h k < 256
  byte_byte = omega arith

  byte_code : in_byte h k / 16 % 4 ≡ k
  byte_code = omega arith

  byte_overflow : in_byte h k / 8 % 2 ≡ h / 8 % 2
  byte_overflow = omega arith

  byte_again : (k' : ℕ) → in_byte (in_byte h k) k' ≡ in_byte h k'
  byte_again k' =
      let high : in_byte h k / 64 % 4 ≡ h / 64 % 4 = omega arith in
      let low : in_byte h k % 16 ≡ h % 16 = omega arith in
      rw (high, low)

-- a right word by its first byte
module _ (h t : ℕ) (byte : h < 256) (address : t < 2 ^ 24) where
  byte_apart : (h * 2 ^ 24 + t) / 2 ^ 24 % 2 ^ 8 ≡ h
  byte_apart = omega arith

  address_apart : (h * 2 ^ 24 + t) / 2 ^ 0 % 2 ^ 24 ≡ t
  address_apart = omega arith

  code_apart : (h * 2 ^ 24 + t) / 2 ^ 28 % 2 ^ 2 ≡ h / 16 % 4
  code_apart = omega arith

  overflow_apart : (h * 2 ^ 24 + t) / 2 ^ 27 % 2 ≡ h / 8 % 2
  overflow_apart = omega arith

-- what System/370 has in the first byte, and 370-XA in the first bit
first_overflow : (r : ℕ) → r / 2 ^ 24 % 2 ^ 8 / 8 % 2 ≡ r / 2 ^ 27 % 2
first_overflow r = omega arith

mode_apart : (r t : ℕ) → t < 2 ^ 31 → (r / 2 ^ 31 % 2 ^ 1 * 2 ^ 31 + t) / 2 ^ 31 % 2 ≡ r / 2 ^ 31 % 2
mode_apart r t address = omega arith

bit-apart : (r t : ℕ) → t < 2 ^ 31 → (r / 2 ^ 31 % 2 ^ 1 * 2 ^ 31 + t) / 2 ^ 31 % 2 ^ 1 ≡ r / 2 ^ 31 % 2 ^ 1
bit-apart r t address = omega arith

short_apart : (b a : ℕ) → (b * 2 ^ 31 + a % 2 ^ 24) / 2 ^ 24 % 2 ^ 7 ≡ 0
short_apart b a = omega arith

-- a PSW in 24-bit mode whose bits 33-39 are zero
short_address : (mode : Bool) (x : ℕ) → (mode ≡ false → x ≡ 0) → (not mode && not (eqb x 0)) ≡ false
short_address true x zero = refl
short_address false x zero = rw (zero refl)

-- the tests before the last
without_last : (x y : Bool) → (x || y) ≡ false → (x || false) ≡ false
without_last true y e = e
without_last false y e = refl

-- Bits of two left words that are alike before the condition code.
module _ (x y : ℕ) (same : x / 2 ^ 14 ≡ y / 2 ^ 14) where
  bit_31 : x / 2 ^ 31 % 2 ≡ y / 2 ^ 31 % 2
  bit_31 = omega arith

  bit_30 : x / 2 ^ 30 % 2 ≡ y / 2 ^ 30 % 2
  bit_30 = omega arith

  bits_27 : x / 2 ^ 27 % 2 ^ 3 ≡ y / 2 ^ 27 % 2 ^ 3
  bits_27 = omega arith

  bit_26 : x / 2 ^ 26 % 2 ≡ y / 2 ^ 26 % 2
  bit_26 = omega arith

  bit_25 : x / 2 ^ 25 % 2 ≡ y / 2 ^ 25 % 2
  bit_25 = omega arith

  bits_25 : x / 2 ^ 25 % 2 ^ 7 ≡ y / 2 ^ 25 % 2 ^ 7
  bits_25 = omega arith

  bit_24 : x / 2 ^ 24 % 2 ≡ y / 2 ^ 24 % 2
  bit_24 = omega arith

  bit_19 : x / 2 ^ 19 % 2 ≡ y / 2 ^ 19 % 2
  bit_19 = omega arith

  bit_17 : x / 2 ^ 17 % 2 ≡ y / 2 ^ 17 % 2
  bit_17 = omega arith

  bit_16 : x / 2 ^ 16 % 2 ≡ y / 2 ^ 16 % 2
  bit_16 = omega arith

  bit_15 : x / 2 ^ 15 % 2 ≡ y / 2 ^ 15 % 2
  bit_15 = omega arith

  bit_14 : x / 2 ^ 14 % 2 ≡ y / 2 ^ 14 % 2
  bit_14 = omega arith

-- and after it
module _ (x y : ℕ) (same : x % 2 ^ 12 ≡ y % 2 ^ 12) where
  bit_11 : x / 2 ^ 11 % 2 ≡ y / 2 ^ 11 % 2
  bit_11 = omega arith

  last_byte : x / 2 ^ 0 % 2 ^ 8 ≡ y / 2 ^ 0 % 2 ^ 8
  last_byte = omega arith

-- The PSW in its forms.

-- at an address that is cut already
abbrev moved : Psw → ℕ → Psw
moved p t = record { left = p.left; right = before_address (state p) + t; system370 = p.system370 }

-- the first byte of its right word
abbrev first : Psw → ℕ
first p = p.right / 2 ^ 24 % 2 ^ 8

-- in BC, EC and 370-XA, with a condition code
abbrev basic_at_lem : Psw → ℕ → ℕ → Psw
basic_at_lem p t k = record { left = p.left; right = in_byte (first p) k * 2 ^ 24 + t; system370 = true }

abbrev extended_at : Psw → ℕ → ℕ → Psw
extended_at p t k = record { left = in_left p.left k; right = first p * 2 ^ 24 + t; system370 = true }

abbrev long_at : Psw → ℕ → ℕ → Psw
long_at p t k = record { left = in_left p.left k; right = p.right / 2 ^ 31 % 2 ^ 1 * 2 ^ 31 + t; system370 = false }

-- an address is cut to 24 bits, or in 370-XA to 31
cut_short_lem : (p : Psw) (a : ℕ) → mode31 (state p) ≡ false → wrap (state p) a ≡ a % 2 ^ 24
unfolding wrap
cut_short_lem p a short = rw short

cut_370 : (p : Psw) (a : ℕ) → p.system370 ≡ true → wrap (state p) a ≡ a % 2 ^ 24
unfolding wrap
cut_370 p a s370 = rw s370

cut_word : (p : Psw) (a : ℕ) → wrap (state p) a < 2 ^ 31
cut_word p a = wrap_by_mode (λ w. w a < 2 ^ 31) (state p) (omega arith) (omega arith)

module _ (p : Psw) (a k : ℕ) where
  pub rewrapped : psw_at p (wrap (state p) a) k ≡ psw_at p a k
  unfolding psw_at with_condition_code with_address with_psw
  rewrapped = ap (λ t. (with_condition_code (state (moved p t)) k).psw) (wrap_by_mode (λ w. w (w a) ≡ w a) (state p) (omega arith) (omega arith))

  -- the PSW in each form
  at_basic : p.system370 ≡ true → bit 32 12 p.left ≡ false → psw_at p a k ≡ basic_at_lem p (a % 2 ^ 24) k
  unfolding psw_at with_condition_code with_address with_psw
  at_basic s370 form =
      rw (cut_370 p a s370, form, s370)
      (ap (λ r. record { left = p.left; right = r; system370 = true }) (right_apart (first p) (a % 2 ^ 24) k (omega arith) (omega arith)))

  at_extended : p.system370 ≡ true → bit 32 12 p.left ≡ true → psw_at p a k ≡ extended_at p (a % 2 ^ 24) k
  unfolding psw_at with_condition_code with_address with_psw
  at_extended s370 form = rw (cut_370 p a s370, form, s370)

  at_long : p.system370 ≡ false → psw_at p a k ≡ long_at p (wrap (state p) a) k
  unfolding psw_at with_condition_code with_address with_psw
  at_long xa = rw xa

  -- what holds of a PSW in each form holds of it
  by_form : (P : Psw → Type 0)
      → (p.system370 ≡ true → bit 32 12 p.left ≡ false → P (basic_at_lem p (a % 2 ^ 24) k))
      → (p.system370 ≡ true → bit 32 12 p.left ≡ true → P (extended_at p (a % 2 ^ 24) k))
      → (p.system370 ≡ false → P (long_at p (wrap (state p) a) k)) → P (psw_at p a k)
  by_form P basic extended long = go p.system370 (bit 32 12 p.left) refl refl
    where
      go : (s b : Bool) → p.system370 ≡ s → bit 32 12 p.left ≡ b → P (psw_at p a k)
      go true false s370 form = rw (at_basic s370 form) (basic s370 form)
      go true true s370 form = rw (at_extended s370 form) (extended s370 form)
      go false b xa form = rw (at_long xa) (long xa)

-- the PSW's words have 32 bits
module _ (p : Psw) (left : p.left < 2 ^ 32) (right : p.right < 2 ^ 32) (a k : ℕ) (small : k < 4) where
  pub fits_left : (psw_at p a k).left < 2 ^ 32
  fits_left = by_form p a k (λ q. q.left < 2 ^ 32) (λ s b. left) (λ s b. left_word p.left k left small) (λ s. left_word p.left k left small)

  pub fits_right : (psw_at p a k).right < 2 ^ 32
  fits_right =
      by_form p a k (λ q. q.right < 2 ^ 32)
      (λ s b. omega (arith, byte_byte (first p) k (omega arith) small))
      (λ s b. omega arith)
      (λ s. omega (arith, cut_word p a))

-- Every state with such a PSW.
module _ (p : Psw) (left : p.left < 2 ^ 32) (right : p.right < 2 ^ 32) (a k : ℕ) (small : k < 4) (c : Cpu) (same : c.psw ≡ psw_at p a k) where
  -- what holds of the PSW in each form
  by_psw : (P : Psw → Type 0)
      → (p.system370 ≡ true → bit 32 12 p.left ≡ false → P (basic_at_lem p (a % 2 ^ 24) k))
      → (p.system370 ≡ true → bit 32 12 p.left ≡ true → P (extended_at p (a % 2 ^ 24) k))
      → (p.system370 ≡ false → P (long_at p (wrap (state p) a) k)) → P c.psw
  by_psw P basic extended long = rw same (by_form p a k P basic extended long)

  pub system370_at : c.psw.system370 ≡ p.system370
  system370_at = by_psw (λ q. q.system370 ≡ p.system370) (λ s b. sym s) (λ s b. sym s) (λ s. sym s)

  pub left_at : c.psw.left / 16384 ≡ p.left / 16384
  left_at =
      by_psw (λ q. q.left / 16384 ≡ p.left / 16384) (λ s b. refl)
      (λ s b. left_above p.left k left small)
      (λ s. left_above p.left k left small)

  form_at : bit 32 12 c.psw.left ≡ bit 32 12 p.left
  form_at = ap (λ n. eqb n 1) (bit_19 _ _ left_at)

  basic_at : basic_control c ≡ basic_control (state p)
  basic_at = rw (system370_at, form_at)

  pub external_at : external_enabled c ≡ external_enabled (state p)
  external_at = ap (λ n. eqb n 1) (bit_24 _ _ left_at)

  pub waiting_at : waiting c ≡ waiting (state p)
  waiting_at = ap (λ n. eqb n 1) (bit_17 _ _ left_at)

  pub problem_at : problem_state c ≡ problem_state (state p)
  problem_at = ap (λ n. eqb n 1) (bit_16 _ _ left_at)

  pub io_at : io_enabled c ≡ io_enabled (state p)
  io_at = rw (basic_at, bits_25 _ _ left_at, bit_25 _ _ left_at)

  pub installed_at : not_installed c ≡ not_installed (state p)
  unfolding not_installed
  installed_at = rw (system370_at, form_at, bit_30 _ _ left_at, bit_26 _ _ left_at, bit_15 _ _ left_at)

  -- the condition code is in the left word, or in the right one in BC
  pub code_at : condition_code c ≡ k
  code_at =
      by_psw (λ q. condition_code (state q) ≡ k)
      (λ s b. rw b (code_apart _ _ (omega (arith, byte_byte (first p) k (omega arith) small)) (omega arith) ∙ byte_code (first p) k (omega arith) small))
      (λ s b. rw (bit_19 _ _ (left_above p.left k left small), b) (left_code p.left k left small))
      (λ s. left_code p.left k left small)

  -- the mask of fixed-point overflow stands behind the condition code
  pub overflow_at : overflow_enabled c ≡ overflow_enabled (state p)
  overflow_at =
      by_psw (λ q. overflow_enabled (state q) ≡ overflow_enabled (state p))
      (λ s b.
      rw (b, s)
      (ap (λ n. eqb n 1)
      (overflow_apart _ _ (byte_byte (first p) k (omega arith) small) (omega arith)
      ∙ byte_overflow (first p) k (omega arith) small
      ∙ first_overflow p.right)))
      (λ s b. rw (bit_19 _ _ (left_above p.left k left small), b, s) (ap (λ n. eqb n 1) (bit_11 _ _ (left_below p.left k left small))))
      (λ s. rw s (ap (λ n. eqb n 1) (bit_11 _ _ (left_below p.left k left small))))

  -- the address and how it is cut
  pub address_at : instruction_address c ≡ wrap (state p) a
  address_at =
      by_psw (λ q. instruction_address (state q) ≡ wrap (state p) a)
      (λ s b. address_apart _ _ (byte_byte (first p) k (omega arith) small) (omega arith) ∙ sym (cut_370 p a s))
      (λ s b. address_apart (first p) _ (omega arith) (omega arith) ∙ sym (cut_370 p a s))
      (λ s. omega (arith, cut_word p a))

  mode_long : p.system370 ≡ false → mode31 (state p) ≡ bit 32 0 p.right
  mode_long xa = rw xa

  pub mode_at : mode31 c ≡ mode31 (state p)
  mode_at =
      by_psw (λ q. mode31 (state q) ≡ mode31 (state p)) (λ s b. rw s) (λ s b. rw s)
      (λ s. ap (λ n. eqb n 1) (mode_apart p.right _ (cut_word p a)) ∙ sym (mode_long s))

  pub wrap_at : (x : ℕ) → wrap c x ≡ wrap (state p) x
  unfolding wrap
  wrap_at x = rw mode_at

  code_again_left : (k' : ℕ) → in_left (in_left p.left k) k' ≡ in_left p.left k'
  code_again_left k' = left_again _ _ k' (left_above p.left k left small) (left_below p.left k left small)

  code_again_right : (k' : ℕ) → in_right (in_byte (first p) k * 2 ^ 24 + a % 2 ^ 24) k' ≡ in_byte (first p) k' * 2 ^ 24 + a % 2 ^ 24
  code_again_right k' =
      right_apart (in_byte (first p) k) (a % 2 ^ 24) k' (byte_byte (first p) k (omega arith) small) (omega arith)
      ∙ ap (λ h. h * 2 ^ 24 + a % 2 ^ 24) (byte_again (first p) k (omega arith) small k')

  -- at another address
  pub moved_at : (b : ℕ) → (with_address c b).psw ≡ psw_at p b k
  unfolding with_address with_psw
  moved_at b =
      rw (wrap_at b)
      (by_psw (λ q. record { left = q.left; right = before_address (state q) + wrap (state p) b; system370 = q.system370 } ≡ psw_at p b k)
      (λ s f.
      rw (byte_apart (in_byte (first p) k) (a % 2 ^ 24) (byte_byte (first p) k (omega arith) small) (omega arith), cut_370 p b s)
      (sym (at_basic p b k s f)))
      (λ s f. rw (byte_apart (first p) (a % 2 ^ 24) (omega arith) (omega arith), cut_370 p b s) (sym (at_extended p b k s f)))
      (λ s. rw (bit-apart p.right (wrap (state p) a) (cut_word p a)) (sym (at_long p b k s))))

  pub advanced_at : (n : ℕ) → (advanced c n).psw ≡ psw_at p (wrap (state p) a + 2 * n) k
  unfolding advanced
  advanced_at n = rw address_at (moved_at (wrap (state p) a + 2 * n))

  -- with another condition code
  pub coded_at : (k' : ℕ) → k' < 4 → (with_condition_code c k').psw ≡ psw_at p a k'
  unfolding with_condition_code with_psw
  coded_at k' small' =
      by_psw (λ q. (with_condition_code (state q) k').psw ≡ psw_at p a k')
      (λ s f. rw f (ap (λ r. record { left = p.left; right = r; system370 = true }) (code_again_right k') ∙ sym (at_basic p a k' s f)))
      (λ s f.
      rw (bit_19 _ _ (left_above p.left k left small), f)
      (ap (λ l. record { left = l; right = first p * 2 ^ 24 + a % 2 ^ 24; system370 = true }) (code_again_left k') ∙ sym (at_extended p a k' s f)))
      (λ s.
      ap (λ l. record { left = l; right = p.right / 2 ^ 31 % 2 ^ 1 * 2 ^ 31 + wrap (state p) a; system370 = false }) (code_again_left k')
      ∙ sym (at_long p a k' s))

  -- what must be zero and is, stays so

  below_at : c.psw.left % 2 ^ 12 ≡ p.left % 2 ^ 12
  below_at =
      by_psw (λ q. q.left % 2 ^ 12 ≡ p.left % 2 ^ 12) (λ s f. refl)
      (λ s f. left_below p.left k left small)
      (λ s. left_below p.left k left small)

  left_formed : left_malformed c ≡ left_malformed (state p)
  left_formed = rw (bit_31 _ _ left_at, bits_27 _ _ left_at, bit_14 _ _ left_at, last_byte _ _ below_at)

  right_formed : p.system370 ≡ true → bit 32 12 p.left ≡ true → bits 32 0 7 c.psw.right ≡ bits 32 0 7 p.right
  right_formed s370 form = rw (same, at_extended p a k s370 form) (byte_apart (first p) (a % 2 ^ 24) (omega arith) (omega arith))

  short_formed : p.system370 ≡ false → (not (mode31 c) && not (eqb (bits 32 1 7 c.psw.right) 0)) ≡ false
  short_formed xa =
      rw mode_at
      (short_address (mode31 (state p)) (bits 32 1 7 c.psw.right) (λ short. rw (same, at_long p a k xa, cut_short_lem p a short) (short_apart (p.right / 2 ^ 31 % 2 ^ 1) a)))

  pub formed_at : malformed (state p) ≡ false → malformed c ≡ false
  unfolding malformed
  formed_at = go p.system370 (bit 32 12 p.left) refl refl
    where
      go : (s b : Bool) → p.system370 ≡ s → bit 32 12 p.left ≡ b → malformed (state p) ≡ false → malformed c ≡ false
      go true false s370 form formed = rw (system370_at, s370, form_at, form)
      go true true s370 form formed = rw (system370_at, s370, left_formed, form_at, right_formed s370 form) (rw s370 at formed)
      go false b xa form formed =
          rw (short_formed xa, system370_at, xa, left_formed, form_at)
          (without_last (left_malformed (state p) || not (bit 32 12 p.left)) _ (rw xa at formed))

-- the PSW of a PSW
pub again_at : (p : Psw) → p.left < 2 ^ 32 → p.right < 2 ^ 32 → (a k : ℕ) → k < 4 → (b k' : ℕ) → k' < 4 → psw_at (psw_at p a k) b k' ≡ psw_at p b k'
unfolding psw_at
again_at p left right a k small b k' small' =
    coded_at p left right b k small (with_address (state (psw_at p a k)) b) (moved_at p left right a k small (state (psw_at p a k)) refl b) k' small'

-- a PSW is at its own address and has its own condition code
pub at_start : (p : Psw) → p.left < 2 ^ 32 → p.right < 2 ^ 32 → Wrapped p (instruction_address (state p)) → psw_at p (instruction_address (state p)) (condition_code (state p)) ≡ p
at_start p left right wrapped =
    by_form p (instruction_address (state p)) (condition_code (state p)) (λ q. q ≡ p)
    (λ s f.
    let address : instruction_address (state p) ≡ p.right / 2 ^ 0 % 2 ^ 24 = rw s in
    let code : condition_code (state p) ≡ p.right / 2 ^ 28 % 2 ^ 2 = rw (s, f) in
    rw (address, code) (λ i. record { left = p.left; right = basic_same p.right right i; system370 = sym s i }))
    (λ s f.
    let address : instruction_address (state p) ≡ p.right / 2 ^ 0 % 2 ^ 24 = rw s in
    let code : condition_code (state p) ≡ p.left / 2 ^ 12 % 2 ^ 2 = rw (s, f) in
    rw (address, code)
    (λ i. record { left = left_same p.left left i; right = extended_same p.right right i; system370 = sym s i }))
    (λ s.
    let address : instruction_address (state p) ≡ p.right / 2 ^ 0 % 2 ^ 31 = rw s in
    let code : condition_code (state p) ≡ p.left / 2 ^ 12 % 2 ^ 2 = rw s in
    rw (wrapped, address, code)
    (λ i. record { left = left_same p.left left i; right = long_same p.right right i; system370 = sym s i }))

-- the address of a PSW that was moved is cut already
pub wrapped_at : (p : Psw) → p.left < 2 ^ 32 → p.right < 2 ^ 32 → (a k : ℕ) → k < 4 → Wrapped (psw_at p a k) (instruction_address (state (psw_at p a k)))
wrapped_at p left right a k small =
    let c = state (psw_at p a k) in
    rw (address_at p left right a k small c refl)
    (wrap_at p left right a k small c refl (wrap (state p) a) ∙ wrap_by_mode (λ w. w (w a) ≡ w a) (state p) (omega arith) (omega arith))
