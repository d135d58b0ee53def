-- Runs of bytes: those that follow one another, and those within one page, as they are reached, read, stored and marked.
use Rattle.std.specs.Prelude.{Err, Ok}
use Prim.Native.Nat.{ℕ, zero, suc, ◌+◌, ◌/◌, ◌%◌, ◌^◌, ◌≤◌, ◌<◌}
use native.Mathlib.Nat.{zero-add, add-zero, suc-add}
use native.Mathlib.Numerals.{add-one}
use native.Mathlib.Omega.{arith}
use mathlib.Core.Path.{◌≡◌, refl, ap, ◌∙◌}
use mathlib.Core.Bool.{Bool, true, false, cond}
use mathlib.Core.List.{List, [], ◌∷◌, ◌++◌, map-append}
use borrow.Author.Tests.{eq-eqb, eqb-false, ltb-true, ltb-false}
use lib.Dec.{ltb}
use lib.ListN.{length, get_or, set, take, drop}
use lib.Seq.{sets, drop-cons, set-set, set_out, get_or-set_same}
use Rattle.machine.specs.declared.Cpu.{Cpu}
use Rattle.machine.specs.Words.{bit, byte_at, half_at, word_at, double_at}
use Rattle.machine.specs.Psw.{mode31, wrap}
use Rattle.machine.specs.Host.{Located, places, in_frame, store_byte, stored, referenced, changed, mark_key, marked}
use Rattle.machine.specs.Addresses.{Access, reached, denied, Accesses, all, stopped, and_then, accesses, span}
use Rattle.machine.specs.Interruptions.{with_bytes, bytes_of}
use Rattle.machine.specs.Walk.{Walk, at_frame}

-- `n` bytes from guest absolute address `a` and host absolute address `q` on
unfoldable pub bytes_from : List ℕ → ℕ → ℕ → ℕ → List Located
bytes_from s a q zero = []
bytes_from s a q (suc n) = record { absolute = a; byte = byte_at s q } ∷ bytes_from s (a + 1) (q + 1) n

-- Runs that follow one another.

pub span-append : (c : Cpu) (a m n : ℕ) → span c a (m + n) ≡ span c a m ++ span c (a + m) n
unfolding span
span-append c a zero n = rw (zero-add, add-zero)
span-append c a (suc m) n =
    let e : a + suc m ≡ a + 1 + m = omega arith in
    rw (suc-add, e) (ap (λ later. wrap c a ∷ later) (span-append c (a + 1) m n))

-- what holds of the wrap of either mode holds of the wrap
pub wrap_by_mode : (P : (ℕ → ℕ) → Type 0) (c : Cpu) → P (λ a. a % 2 ^ 31) → P (λ a. a % 2 ^ 24) → P (wrap c)
unfolding wrap
wrap_by_mode P c wide narrow = go (mode31 c)
  where
    go : (m : Bool) → P (λ a. cond m (a % 2 ^ 31) (a % 2 ^ 24))
    go true = wide
    go false = narrow

same_span : (c : Cpu) (a b n : ℕ) → wrap c a ≡ wrap c b → span c a n ≡ span c b n
unfolding span
same_span c a b zero e = refl
same_span c a b (suc n) e =
    let next = wrap_by_mode (λ w. w a ≡ w b → w (a + 1) ≡ w (b + 1)) c (omega arith) (omega arith) e in
    rw e (ap (λ later. wrap c b ∷ later) (same_span c (a + 1) (b + 1) n next))

pub span_of_wrap : (c : Cpu) (a n : ℕ) → span c (wrap c a) n ≡ span c a n
span_of_wrap c a n = same_span c (wrap c a) a n (wrap_by_mode (λ w. w (w a) ≡ w a) c (omega arith) (omega arith))

-- the first run, then the second, as far as each is reached
unfoldable pub joined : Accesses → Accesses → Accesses
joined (stopped f) later = stopped f
joined (all ls) (stopped f) = stopped f
joined (all ls) (all ms) = all (ls ++ ms)

pub accesses-append : (one : ℕ → Access) (xs ys : List ℕ) → accesses one (xs ++ ys) ≡ joined (accesses one xs) (accesses one ys)
unfolding accesses joined and_then
accesses-append one [] ys = none (accesses one ys)
  where
    none : (r : Accesses) → r ≡ joined (all []) r
    none (stopped f) = refl
    none (all ls) = refl
accesses-append one (x ∷ xs) ys = ap (and_then (one x)) (accesses-append one xs ys) ∙ first (one x) (accesses one xs) (accesses one ys)
  where
    first : (x : Access) (r later : Accesses) → and_then x (joined r later) ≡ joined (and_then x r) later
    first (denied f) r later = refl
    first (reached l) (stopped f) later = refl
    first (reached l) (all ls) (stopped f) = refl
    first (reached l) (all ls) (all ms) = refl

pub stored-append : (behind : ℕ → Walk) (ls ms : List Located) (s : List ℕ) → stored behind (ls ++ ms) s ≡ stored behind ms (stored behind ls s)
unfolding stored
stored-append behind [] ms s = refl
stored-append behind (l ∷ ls) ms s = stored-append behind ls ms _

pub marked_append : (behind : ℕ → Walk) (mark : ℕ → ℕ) (xs ys : List ℕ) (keys : List ℕ)
    → marked behind mark (xs ++ ys) keys ≡ marked behind mark ys (marked behind mark xs keys)
unfolding marked
marked_append behind mark [] ys keys = refl
marked_append behind mark (x ∷ xs) ys keys = marked_append behind mark xs ys _

pub with_bytes-append : (ls ms : List Located) (bytes more : List ℕ) → length bytes ≡ length ls
    → with_bytes (ls ++ ms) (bytes ++ more) ≡ with_bytes ls bytes ++ with_bytes ms more
unfolding with_bytes
with_bytes-append [] ms [] more e = refl
with_bytes-append [] ms (b ∷ bytes) more e = absurd (omega arith)
with_bytes-append (l ∷ ls) ms [] more e = absurd (omega arith)
with_bytes-append (l ∷ ls) ms (b ∷ bytes) more e = ap (λ later. record { absolute = l.absolute; byte = b } ∷ later) (with_bytes-append ls ms bytes more (omega arith))

pub places-append : (ls ms : List Located) → places (ls ++ ms) ≡ places ls ++ places ms
places-append = map-append (λ l. l.absolute)

pub bytes_of-append : (ls ms : List Located) → bytes_of (ls ++ ms) ≡ bytes_of ls ++ bytes_of ms
bytes_of-append = map-append (λ l. l.byte)

-- Runs of bytes from one place on, read.

pub length-bytes_from : (s : List ℕ) (a q n : ℕ) → length (bytes_from s a q n) ≡ n
unfolding bytes_from
length-bytes_from s a q zero = refl
length-bytes_from s a q (suc n) = ap suc (length-bytes_from s (a + 1) (q + 1) n)

pub bytes_of-bytes_from : (s : List ℕ) (a q n : ℕ) → q + n ≤ length s → bytes_of (bytes_from s a q n) ≡ take n (drop q s)
unfolding bytes_from
bytes_of-bytes_from s a q zero fits = refl
bytes_of-bytes_from s a q (suc n) fits =
    rw (drop-cons s q 0 (omega arith), ← add-one q) (ap (λ later. byte_at s q ∷ later) (bytes_of-bytes_from s (a + 1) (q + 1) n (omega arith)))

one_and_one : (q : ℕ) → q + 1 + 1 ≡ q + 2
one_and_one q = omega arith

two_and_two : (q : ℕ) → q + 2 + 2 ≡ q + 4
two_and_two q = omega arith

pub half_of-bytes_from : (s : List ℕ) (a q : ℕ) → half_at (bytes_of (bytes_from s a q 2)) 0 ≡ half_at s q
unfolding bytes_from
half_of-bytes_from s a q = refl

pub word_of_bytes_from : (s : List ℕ) (a q : ℕ) → word_at (bytes_of (bytes_from s a q 4)) 0 ≡ word_at s q
unfolding bytes_from word_at
word_of_bytes_from s a q = simp one_and_one

pub double_of_bytes_from : (s : List ℕ) (a q : ℕ) → double_at (bytes_of (bytes_from s a q 8)) 0 ≡ double_at s q
unfolding bytes_from double_at word_at
double_of_bytes_from s a q = simp (one_and_one, two_and_two)

-- Runs of bytes behind which one host page lies, stored and marked.

module _ (behind : ℕ → Walk) {f : ℕ} {p : Bool} (s : List ℕ) where
  stored_bytes : (a q : ℕ) (bytes t : List ℕ) → a % 4096 + length bytes ≤ 4096 → ((i : ℕ) → a ≤ i → i < a + length bytes → behind i ≡ at_frame f p)
      → stored behind (with_bytes (bytes_from s a q (length bytes)) bytes) t ≡ sets t (in_frame f a) bytes
  unfolding bytes_from with_bytes stored store_byte
  stored_bytes a q [] t fits page = refl
  stored_bytes a q (b ∷ []) t fits page = rw (page a (omega arith) (omega arith))
  stored_bytes a q (b ∷ b' ∷ bytes) t fits page =
      let next : suc (in_frame f a) ≡ in_frame f (a + 1) = omega arith in
      rw (stored, page a (omega arith) (omega arith), next)
      (stored_bytes (a + 1) (q + 1) (b' ∷ bytes) (set t (in_frame f a) b) (omega arith) (λ i low high. page i (omega arith) (omega arith)))

  pub stored-in_page : (a q n : ℕ) (bytes t : List ℕ) → length bytes ≡ n → a % 4096 + n ≤ 4096 → ((i : ℕ) → a ≤ i → i < a + n → behind i ≡ at_frame f p)
      → stored behind (with_bytes (bytes_from s a q n) bytes) t ≡ sets t (in_frame f a) bytes
  stored-in_page a q n bytes t e fits page = rw (← e) (stored_bytes a q bytes t (omega arith) (λ i low high. page i low (omega arith)))

module _ (mark : ℕ → ℕ) (twice : (k : ℕ) → mark (mark k) ≡ mark k) where
  mark_twice : (w : Walk) (keys : List ℕ) → mark_key mark w (mark_key mark w keys) ≡ mark_key mark w keys
  unfolding mark_key
  mark_twice (Err x) keys = refl
  mark_twice (Ok page) keys = go (ltb page.frame (length keys)) refl
    where
      go : (b : Bool) → ltb page.frame (length keys) ≡ b → mark_key mark (Ok page) (mark_key mark (Ok page) keys) ≡ mark_key mark (Ok page) keys
      go true e = rw (set-set, get_or-set_same keys page.frame (mark (get_or keys page.frame 0)) 0 (ltb-true _ _ e), twice)
      go false e = let past : length keys ≤ page.frame = ltb-false _ _ e in simp set_out

  module _ (behind : ℕ → Walk) {f : ℕ} {p : Bool} (s : List ℕ) where
    marked_again : (a q n : ℕ) (keys : List ℕ) → ((i : ℕ) → a ≤ i → i < a + n → behind i ≡ at_frame f p)
        → marked behind mark (places (bytes_from s a q n)) (mark_key mark (at_frame f p) keys) ≡ mark_key mark (at_frame f p) keys
    unfolding bytes_from marked
    marked_again a q zero keys page = refl
    marked_again a q (suc n) keys page =
        rw (marked, page a (omega arith) (omega arith), mark_twice (at_frame f p) keys)
        (marked_again (a + 1) (q + 1) n keys (λ i low high. page i (omega arith) (omega arith)))

    pub marked-in_page : (a q n : ℕ) (keys : List ℕ) → 0 < n → ((i : ℕ) → a ≤ i → i < a + n → behind i ≡ at_frame f p)
        → marked behind mark (places (bytes_from s a q n)) keys ≡ mark_key mark (at_frame f p) keys
    unfolding bytes_from marked
    marked-in_page a q zero keys some page = absurd (omega arith)
    marked-in_page a q (suc n) keys some page =
        rw (marked, page a (omega arith) (omega arith)) (marked_again (a + 1) (q + 1) n keys (λ i low high. page i (omega arith) (omega arith)))

-- a flag that is set once is set
flag_twice : (b : ℕ → Bool) (v k : ℕ) → (b k ≡ false → b (k + v) ≡ true)
    → cond (b (cond (b k) k (k + v))) (cond (b k) k (k + v)) (cond (b k) k (k + v) + v) ≡ cond (b k) k (k + v)
flag_twice b v k sets = go (b k) refl
  where
    go : (t : Bool) → b k ≡ t → cond (b (cond t k (k + v))) (cond t k (k + v)) (cond t k (k + v) + v) ≡ cond t k (k + v)
    go true e = rw e
    go false e = rw (sets e)

pub referenced_twice : (k : ℕ) → referenced (referenced k) ≡ referenced k
unfolding referenced
referenced_twice k = flag_twice (bit 8 5) 4 k λ e. eq-eqb ((k + 4) / 4 % 2) 1 (omega (arith, eqb-false (k / 4 % 2) 1 e))

pub changed_twice : (k : ℕ) → changed (changed k) ≡ changed k
unfolding changed
changed_twice k = flag_twice (bit 8 6) 2 k λ e. eq-eqb ((k + 2) / 2 % 2) 1 (omega (arith, eqb-false (k / 2 % 2) 1 e))
