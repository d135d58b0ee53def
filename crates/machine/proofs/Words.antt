-- Laws of bytes and words: a run of stores made in parts, lists of words made word by word, and words stored and read back.
-- Assumes nothing.
use Prim.Native.Nat.{ℕ, zero, suc, ◌+◌, ◌*◌, ◌/◌, ◌%◌, ◌^◌, ◌≤◌, ◌<◌}
use native.Mathlib.Omega.{arith}
use native.Mathlib.Nat.{add-zero}
use native.Mathlib.Numerals.{add-one}
use mathlib.Core.Path.{◌≡◌, refl, sym, ap, ◌∙◌}
use mathlib.Core.List.{List, [], ◌∷◌, ◌++◌}
use lib.ListN.{length, get_or, set, take}
use lib.Seq.{sets, length-sets, length-take-le, take-suc, set-get_or}
use Rattle.machine.proofs.Laws.{SameBytes, word_of_bytes, get_d_sets-inside, half_value, word_value}
use Rattle.machine.specs.Words.{byte_at, word_at, words_at, word_bytes, words_bytes}

-- a run of stores behind another is one run
pub sets-append : {A : Type 0} (l : List A) (at : ℕ) (us vs : List A) → sets (sets l at us) (at + length us) vs ≡ sets l at (us ++ vs)
sets-append l at [] vs = rw add-zero
sets-append l at (u ∷ us) vs =
    let e : at + suc (length us) ≡ suc at + length us = omega arith in
    rw e (sets-append (set l at u) (suc at) us vs)

-- a word's bytes are those of its last 32 bits
pub word_bytes-mod : (x : ℕ) → word_bytes (x % 2 ^ 32) ≡ word_bytes x
word_bytes-mod x =
    let first : x % 2 ^ 32 / 65536 / 256 % 256 ≡ x / 65536 / 256 % 256 = omega arith in
    let second : x % 2 ^ 32 / 65536 % 256 ≡ x / 65536 % 256 = omega arith in
    let third : x % 2 ^ 32 / 256 % 256 ≡ x / 256 % 256 = omega arith in
    let fourth : x % 2 ^ 32 % 256 ≡ x % 256 = omega arith in
    cc

-- one word more, at the end
pub words_at_more : (s : List ℕ) (a n : ℕ) → words_at s a (n + 1) ≡ words_at s a n ++ (word_at s (a + 4 * n) ∷ [])
unfolding words_at
words_at_more s a n = rw add-one (go a n)
  where
    go : (b k : ℕ) → words_at s b (suc k) ≡ words_at s b k ++ (word_at s (b + 4 * k) ∷ [])
    go b zero = rw add-zero
    go b (suc k) =
        let e : b + 4 * suc k ≡ b + 4 + 4 * k = omega arith in
        rw e (ap (λ (ws : List ℕ). word_at s b ∷ ws) (go (b + 4) k))

pub length-words_at : (s : List ℕ) (a n : ℕ) → length (words_at s a n) ≡ n
unfolding words_at
length-words_at s a zero = refl
length-words_at s a (suc n) = ap suc (length-words_at s (a + 4) n)

pub length-words_bytes : (ws : List ℕ) → length (words_bytes ws) ≡ 4 * length ws
unfolding words_bytes
length-words_bytes [] = refl
length-words_bytes (w ∷ ws) = omega (arith, length-words_bytes ws)

words_bytes-append : (ws : List ℕ) (w : ℕ) → words_bytes (ws ++ (w ∷ [])) ≡ words_bytes ws ++ word_bytes w
unfolding words_bytes
words_bytes-append [] w = refl
words_bytes-append (v ∷ ws) w = ap (λ (bytes : List ℕ). word_bytes v ++ bytes) (words_bytes-append ws w)

-- the bytes of one word more, stored behind those of the words before it
pub sets_words_more : (l : List ℕ) (a : ℕ) (ws : List ℕ) (n : ℕ) → n < length ws
    → sets (sets l a (words_bytes (take n ws))) (a + 4 * n) (word_bytes (get_or ws n 0)) ≡ sets l a (words_bytes (take (n + 1) ws))
sets_words_more l a ws n h =
    let long : 4 * n ≡ length (words_bytes (take n ws)) = omega (arith, length-words_bytes (take n ws), length-take-le n ws (omega arith)) in
    rw (add-one, take-suc ws n 0, words_bytes-append, long) (sets-append l a (words_bytes (take n ws)) (word_bytes (get_or ws n 0)))

-- a list of words goes by its bytes
pub words_of_bytes : (s t : List ℕ) (a n : ℕ) → SameBytes s t a (a + 4 * n) → words_at s a n ≡ words_at t a n
unfolding words_at
words_of_bytes s t a zero same = refl
words_of_bytes s t a (suc n) same =
    λ i.
    word_of_bytes s t a (λ k l h. same k l (omega arith)) i
    ∷ words_of_bytes s t (a + 4) n (λ k l h. same k (omega arith) (omega arith)) i

-- a word that a run of stores put there
pub word_of_sets : (l : List ℕ) (at : ℕ) (vs : List ℕ) → 4 ≤ length vs → at + length vs ≤ length l → word_at (sets l at vs) at ≡ word_at vs 0
unfolding word_at
word_of_sets l at vs long fits =
    omega (
      arith,
      byte at 0 (omega arith) (omega arith),
      byte (at + 1) 1 (omega arith) (omega arith),
      byte (at + 2) 2 (omega arith) (omega arith),
      byte (at + 2 + 1) 3 (omega arith) (omega arith),
    )
  where
    byte : (i k : ℕ) → i ≡ at + k → k < 4 → byte_at (sets l at vs) i ≡ byte_at vs k
    byte i k e h = rw e (get_d_sets-inside l at vs k 0 (omega arith) fits)

pub word_of_word_bytes : (x : ℕ) → word_at (word_bytes x) 0 ≡ x % 2 ^ 32
unfolding word_at
word_of_word_bytes x = rw (half_value (x / 65536), half_value x) (word_value x)

-- words of 32 bits, stored and read back
pub words_of_sets : (l : List ℕ) (a : ℕ) (ws : List ℕ) → ((i : ℕ) → get_or ws i 0 < 2 ^ 32) → a + 4 * length ws ≤ length l
    → words_at (sets l a (words_bytes ws)) a (length ws) ≡ ws
unfolding words_at words_bytes word_at
words_of_sets l a [] small fits = refl
words_of_sets l a (w ∷ ws) small fits =
    let one : w % 2 ^ 32 ≡ w = omega (arith, small 0) in
    let long : length (words_bytes (w ∷ ws)) ≡ 4 * length (w ∷ ws) = length-words_bytes (w ∷ ws) in
    let rest : words_at (sets (sets l a (word_bytes w)) (a + 4) (words_bytes ws)) (a + 4) (length ws) ≡ ws = words_of_sets (sets l a (word_bytes w)) (a + 4) ws (λ i. small (suc i)) (omega (arith, length-sets l a (word_bytes w))) in
    λ i.
    (word_of_sets l a (words_bytes (w ∷ ws)) (omega arith) (omega arith) ∙ word_of_word_bytes w ∙ one) i
    ∷ (ap (λ (t : List ℕ). words_at t (a + 4) (length ws)) (sym (sets-append l a (word_bytes w) (words_bytes ws))) ∙ rest) i

-- Bytes of 8 bits that are read as words and stored back: nothing changes.
module _ (r : List ℕ) (small : (i : ℕ) → byte_at r i < 256) where
  pub word_small : (a : ℕ) → word_at r a < 2 ^ 32
  unfolding word_at
  word_small a = omega (arith, small a, small (a + 1), small (a + 2), small (a + 2 + 1))

  word_same : (a : ℕ) → sets r a (word_bytes (word_at r a)) ≡ r
  unfolding word_at
  word_same a =
      let bytes : (byte_at r a < 256) × (byte_at r (a + 1) < 256) × (byte_at r (a + 2) < 256) × (byte_at r (a + 2 + 1) < 256) = (small a, small (a + 1), small (a + 2), small (a + 2 + 1)) in
      let first : word_at r a / 65536 / 256 % 256 ≡ byte_at r a = omega arith in
      let second : word_at r a / 65536 % 256 ≡ byte_at r (a + 1) = omega arith in
      let third : word_at r a / 256 % 256 ≡ byte_at r (a + 2) = omega arith in
      let fourth : word_at r a % 256 ≡ byte_at r (a + 2 + 1) = omega arith in
      let at₁ : suc a ≡ a + 1 = omega arith in
      let at₂ : suc (suc a) ≡ a + 2 = omega arith in
      let at₃ : suc (suc (suc a)) ≡ a + 2 + 1 = omega arith in
      rw (at₃, at₂, at₁, first, second, third, fourth) (simp set-get_or)

  pub sets_words_same : (a n : ℕ) → sets r a (words_bytes (words_at r a n)) ≡ r
  unfolding words_at words_bytes
  sets_words_same a zero = refl
  sets_words_same a (suc n) =
      sym (sets-append r a (word_bytes (word_at r a)) (words_bytes (words_at r (a + 4) n)))
      ∙ ap (λ (t : List ℕ). sets t (a + 4) (words_bytes (words_at r (a + 4) n))) (word_same a)
      ∙ sets_words_same (a + 4) n
