-- Bytes, big-endian words, and bits by number.
-- Document 01, its opening paragraph: bit 0 is leftmost; "The record": big-endian. What stands past the end of a list of bytes reads as zero.
use Rattle.std.specs.Prelude.{ℕ, zero, suc, ◌+◌, ◌-◌, ◌*◌, ◌/◌, ◌%◌, ◌^◌, Bool, List, [], ◌∷◌, ◌++◌, eqb, get_or}

-- bits `first` to `last` of a number that is `width` bits wide
abbrev pub bits : ℕ → ℕ → ℕ → ℕ → ℕ
bits width first last x = x / 2 ^ (width - 1 - last) % 2 ^ (last + 1 - first)

-- bit `i` of a number that is `width` bits wide is one
abbrev pub bit : ℕ → ℕ → ℕ → Bool
bit width i x = eqb (x / 2 ^ (width - 1 - i) % 2) 1

abbrev pub byte_at : List ℕ → ℕ → ℕ
byte_at s a = get_or s a 0

abbrev pub half_at : List ℕ → ℕ → ℕ
half_at s a = byte_at s a * 256 + byte_at s (a + 1)

unfoldable pub word_at : List ℕ → ℕ → ℕ
word_at s a = half_at s a * 65536 + half_at s (a + 2)

unfoldable pub double_at : List ℕ → ℕ → ℕ
double_at s a = word_at s a * 2 ^ 32 + word_at s (a + 4)

-- the `n` words from address `a` on
unfoldable pub words_at : List ℕ → ℕ → ℕ → List ℕ
words_at s a zero = []
words_at s a (suc n) = word_at s a ∷ words_at s (a + 4) n

abbrev pub half_bytes : ℕ → List ℕ
half_bytes x = x / 256 % 256 ∷ x % 256 ∷ []

abbrev pub word_bytes : ℕ → List ℕ
word_bytes x = half_bytes (x / 65536) ++ half_bytes x

abbrev pub double_bytes : ℕ → List ℕ
double_bytes x = word_bytes (x / 2 ^ 32) ++ word_bytes x

unfoldable pub words_bytes : List ℕ → List ℕ
words_bytes [] = []
words_bytes (w ∷ ws) = word_bytes w ++ words_bytes ws
