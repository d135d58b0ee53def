-- A sum or difference of two words, as its signed number plus 2^32 tells it: the word, the overflow and the condition code.
-- Assumes nothing.
use Rattle.std.proofs.Common.{◌≡◌, ℕ, ◌+◌, ◌-◌, ◌/◌, ◌%◌, ◌^◌, ◌<◌, ◌≤◌, Bool, true, false, ◌||◌, ltb, leb, sym, refl, ap, ◌∙◌, add_assoc, arith, ltb-false, ltb-true, le-ltb, lt-ltb, eq-eqb, ne_eqb, le-leb, leb-false, leb-true}
use native.Mathlib.Nat.{add-mod, mod-add-mod, add-mod-mod}
use borrow.Author.Tests.{lt-leb}
use Rattle.machine.specs.Execute.{excess, sum_of, sum_overflows, difference_of, difference_overflows, sum_code}
use Rattle.sums.specs.Summing.{outside, code_in, Says}

-- what a number says, by where it lies
module _ (value sum : ℕ) where
  outside-over : 2 ^ 31 ≤ sum → sum < 2 ^ 64 - 2 ^ 31 → outside sum ≡ true
  unfolding outside
  outside-over low high = rw (le-ltb sum (2 ^ 31) low, lt-ltb sum (2 ^ 64 - 2 ^ 31) high)

  says_over : 2 ^ 31 ≤ sum → sum < 2 ^ 64 - 2 ^ 31 → sum % 2 ^ 32 ≡ value → Says value true sum
  unfolding code_in sum_code
  says_over low high word =
      record {
        word = word;
        over = outside-over low high;
        code = rw (ne_eqb sum 0 (λ e. omega arith), outside-over low high);
      }

  outside_above : sum < 2 ^ 31 → outside sum ≡ false
  unfolding outside
  outside_above high = rw (lt-ltb sum (2 ^ 31) high)

  says_above : 0 < value → value < 2 ^ 31 → sum ≡ value → Says value false sum
  unfolding code_in sum_code
  says_above low high same =
      record {
        word = omega arith;
        over = outside_above (omega arith);
        code =
            rw
            (ne_eqb sum 0 (λ e. omega arith), outside_above (omega arith), lt-ltb sum (2 ^ 63) (omega arith), ne_eqb value 0 (λ e. omega arith), ne_eqb (value / 2 ^ 31 % 2) 1 (λ e. omega arith));
      }

  outside_below : 2 ^ 64 - 2 ^ 31 ≤ sum → outside sum ≡ false
  unfolding outside
  outside_below low = rw (le-ltb sum (2 ^ 31) (omega arith), le-ltb sum (2 ^ 64 - 2 ^ 31) low)

  says_below : 2 ^ 31 ≤ value → value < 2 ^ 32 → sum ≡ value + (2 ^ 64 - 2 ^ 32) → Says value false sum
  unfolding code_in sum_code
  says_below low high same =
      record {
        word = omega arith;
        over = outside_below (omega arith);
        code =
            rw
            (ne_eqb sum 0 (λ e. omega arith), outside_below (omega arith), le-ltb sum (2 ^ 63) (omega arith), ne_eqb value 0 (λ e. omega arith), eq-eqb (value / 2 ^ 31 % 2) 1 (omega arith));
      }

says_zero : Says 0 false 0
unfolding outside code_in sum_code
says_zero = record { word = refl; over = refl; code = refl }

-- below -2^31, or above 2^31 - 1
abbrev beyond : ℕ → Bool
beyond n = ltb n (2 ^ 31) || leb (2 ^ 32 + 2 ^ 31) n

-- the same by the signed number plus 2^32
module _ (n sum : ℕ) (biased : n < 2 ^ 33) (is : sum ≡ (n + (2 ^ 64 - 2 ^ 32)) % 2 ^ 64) where
  far_below : n < 2 ^ 31 → Says (n % 2 ^ 32) (beyond n) sum
  far_below h = rw (lt-ltb n (2 ^ 31) h) (says_over (n % 2 ^ 32) sum (omega arith) (omega arith) (omega arith))

  not_beyond : 2 ^ 31 ≤ n → n < 2 ^ 32 + 2 ^ 31 → beyond n ≡ false
  not_beyond low high = rw (le-ltb n (2 ^ 31) low, lt-leb (2 ^ 32 + 2 ^ 31) n high)

  below_zero : 2 ^ 31 ≤ n → n < 2 ^ 32 → Says (n % 2 ^ 32) (beyond n) sum
  below_zero h k = rw (not_beyond h (omega arith)) (says_below (n % 2 ^ 32) sum (omega arith) (omega arith) (omega arith))

  at_zero : n ≡ 2 ^ 32 → Says (n % 2 ^ 32) (beyond n) sum
  at_zero e = let none : sum ≡ 0 = omega arith in rw (none, e) says_zero

  above_zero : 2 ^ 32 < n → n < 2 ^ 32 + 2 ^ 31 → Says (n % 2 ^ 32) (beyond n) sum
  above_zero h k = rw (not_beyond (omega arith) k) (says_above (n % 2 ^ 32) sum (omega arith) (omega arith) (omega arith))

  far_above : 2 ^ 32 + 2 ^ 31 ≤ n → Says (n % 2 ^ 32) (beyond n) sum
  far_above h = rw (le-ltb n (2 ^ 31) (omega arith), le-leb (2 ^ 32 + 2 ^ 31) n h) (says_over (n % 2 ^ 32) sum (omega arith) (omega arith) (omega arith))

  says_biased : Says (n % 2 ^ 32) (beyond n) sum
  says_biased = by_31 (ltb n (2 ^ 31)) refl
    where
      by_over : (t : Bool) → ltb n (2 ^ 32 + 2 ^ 31) ≡ t → 2 ^ 32 < n → Says (n % 2 ^ 32) (beyond n) sum
      by_over true e above = above_zero above (ltb-true _ _ e)
      by_over false e above = far_above (ltb-false _ _ e)

      by_zero : (t : Bool) → ltb (2 ^ 32) n ≡ t → 2 ^ 32 ≤ n → Says (n % 2 ^ 32) (beyond n) sum
      by_zero true e low = by_over (ltb n (2 ^ 32 + 2 ^ 31)) refl (ltb-true _ _ e)
      by_zero false e low = at_zero (omega (arith, ltb-false (2 ^ 32) n e))

      by_32 : (t : Bool) → ltb n (2 ^ 32) ≡ t → 2 ^ 31 ≤ n → Says (n % 2 ^ 32) (beyond n) sum
      by_32 true e low = below_zero low (ltb-true _ _ e)
      by_32 false e low = by_zero (ltb (2 ^ 32) n) refl (ltb-false _ _ e)

      by_31 : (t : Bool) → ltb n (2 ^ 31) ≡ t → Says (n % 2 ^ 32) (beyond n) sum
      by_31 true e = far_below (ltb-true _ _ e)
      by_31 false e = by_32 (ltb n (2 ^ 32)) refl (ltb-false _ _ e)

-- the sum of two words, over the excess of each
wrapped_sum : (e f : ℕ) → (e + (2 ^ 64 - 2 ^ 31) + (f + (2 ^ 64 - 2 ^ 31))) % 2 ^ 64 ≡ (e + f + (2 ^ 64 - 2 ^ 32)) % 2 ^ 64
wrapped_sum e f = omega arith

sum_biased : (e f x y sum : ℕ) → x ≡ (e + (2 ^ 64 - 2 ^ 31)) % 2 ^ 64 → y ≡ (f + (2 ^ 64 - 2 ^ 31)) % 2 ^ 64 → sum ≡ (x + y) % 2 ^ 64 → sum ≡ (e + f + (2 ^ 64 - 2 ^ 32)) % 2 ^ 64
sum_biased e f x y sum is_x is_y is =
    rw (is, is_x, is_y) (sym (add-mod (e + (2 ^ 64 - 2 ^ 31)) (f + (2 ^ 64 - 2 ^ 31)) (2 ^ 64)) ∙ wrapped_sum e f)

sum_word : (a b : ℕ) → (excess a + excess b) % 2 ^ 32 ≡ sum_of a b
sum_word a b = omega arith

pub says_sum : (a b x y sum : ℕ) → x ≡ (excess a + (2 ^ 64 - 2 ^ 31)) % 2 ^ 64 → y ≡ (excess b + (2 ^ 64 - 2 ^ 31)) % 2 ^ 64 → sum ≡ (x + y) % 2 ^ 64 → Says (sum_of a b) (sum_overflows a b) sum
says_sum a b x y sum is_x is_y is =
    rw (sum_word a b) at (says_biased (excess a + excess b) sum (omega arith) (sum_biased (excess a) (excess b) x y sum is_x is_y is))

-- the difference
wrapped_difference : (e f r : ℕ) → e < 2 ^ 32 → f < 2 ^ 32 → r < 2 ^ 64 → (r + f) % 2 ^ 64 ≡ e % 2 ^ 64 → r ≡ (e + (2 ^ 32 - f) + (2 ^ 64 - 2 ^ 32)) % 2 ^ 64
wrapped_difference e f r small-e small-f small same = omega arith

lifted : (e : ℕ) → ((e + (2 ^ 64 - 2 ^ 31)) % 2 ^ 64 + 2 ^ 31) % 2 ^ 64 ≡ e % 2 ^ 64
lifted e = omega arith

difference_biased : (e f x y r : ℕ) → e < 2 ^ 32 → f < 2 ^ 32 → r < 2 ^ 64 → x ≡ (e + (2 ^ 64 - 2 ^ 31)) % 2 ^ 64 → y ≡ (f + (2 ^ 64 - 2 ^ 31)) % 2 ^ 64 → (r + y) % 2 ^ 64 ≡ x
    → r ≡ (e + (2 ^ 32 - f) + (2 ^ 64 - 2 ^ 32)) % 2 ^ 64
difference_biased e f x y r small-e small-f small is_x is_y is =
    wrapped_difference e f r small-e small-f small
    (sym (lifted (r + f)) ∙ ap (λ k. (k + 2 ^ 31) % 2 ^ 64) (together ∙ is ∙ is_x) ∙ lifted e)
  where
    together : (r + f + (2 ^ 64 - 2 ^ 31)) % 2 ^ 64 ≡ (r + y) % 2 ^ 64
    together = rw is_y (ap (λ k. k % 2 ^ 64) (add_assoc r f (2 ^ 64 - 2 ^ 31)) ∙ sym (add-mod-mod r (f + (2 ^ 64 - 2 ^ 31)) (2 ^ 64)))

complement : (b : ℕ) → b < 2 ^ 32 → (2 ^ 31 + (2 ^ 32 - excess b)) % 2 ^ 32 ≡ (2 ^ 32 - b) % 2 ^ 32
complement b small = omega arith

difference_word : (a b : ℕ) → b < 2 ^ 32 → (excess a + (2 ^ 32 - excess b)) % 2 ^ 32 ≡ difference_of a b
difference_word a b small =
    mod-add-mod (a + 2 ^ 31) (2 ^ 32) (2 ^ 32 - excess b)
    ∙ ap (λ k. k % 2 ^ 32) (add_assoc a (2 ^ 31) (2 ^ 32 - excess b))
    ∙ sym (add-mod-mod a (2 ^ 31 + (2 ^ 32 - excess b)) (2 ^ 32))
    ∙ ap (λ k. (a + k) % 2 ^ 32) (complement b small)
    ∙ add-mod-mod a (2 ^ 32 - b) (2 ^ 32)

-- two tests that mean the same
ltb-alike : (a b c d : ℕ) → (a < b → c < d) → (b ≤ a → d ≤ c) → ltb c d ≡ ltb a b
ltb-alike a b c d to back = go (ltb a b) refl
  where
    go : (t : Bool) → ltb a b ≡ t → ltb c d ≡ t
    go true e = lt-ltb c d (to (ltb-true a b e))
    go false e = le-ltb c d (back (ltb-false a b e))

leb-alike : (a b c d : ℕ) → (a ≤ b → c ≤ d) → (b < a → d < c) → leb c d ≡ leb a b
leb-alike a b c d to back = go (leb a b) refl
  where
    go : (t : Bool) → leb a b ≡ t → leb c d ≡ t
    go true e = le-leb c d (to (leb-true a b e))
    go false e = lt-leb c d (back (leb-false a b e))

difference_beyond : (e f : ℕ) → f < 2 ^ 32 → beyond (e + (2 ^ 32 - f)) ≡ (ltb (e + 2 ^ 31) f || leb (f + 2 ^ 31) e)
difference_beyond e f small =
    rw
    (ltb-alike (e + 2 ^ 31) f (e + (2 ^ 32 - f)) (2 ^ 31) (λ h. omega arith) (λ h. omega arith), leb-alike (f + 2 ^ 31) e (2 ^ 32 + 2 ^ 31) (e + (2 ^ 32 - f)) (λ h. omega arith) (λ h. omega arith))

pub says_difference : (a b x y r : ℕ) → b < 2 ^ 32 → r < 2 ^ 64 → x ≡ (excess a + (2 ^ 64 - 2 ^ 31)) % 2 ^ 64 → y ≡ (excess b + (2 ^ 64 - 2 ^ 31)) % 2 ^ 64 → (r + y) % 2 ^ 64 ≡ x
    → Says (difference_of a b) (difference_overflows a b) r
says_difference a b x y r small_b small is_x is_y is =
    rw (difference_word a b small_b, difference_beyond (excess a) (excess b) (omega arith)) at
    (says_biased (excess a + (2 ^ 32 - excess b)) r (omega arith) (difference_biased (excess a) (excess b) x y r (omega arith) (omega arith) small is_x is_y is))
