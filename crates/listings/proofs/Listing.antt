-- Laws of listings: page by page, and a span after the other.
use Prim.Native.Nat.{ℕ, zero, suc, ◌+◌, ◌-◌, ◌*◌, ◌≤◌, ◌<◌}
use native.Mathlib.Nat.{add-zero, zero-add, add-suc}
use native.Mathlib.Numerals.{add-one}
use native.Mathlib.Omega.{arith}
use mathlib.Core.Path.{◌≡◌, refl, sym, ap, ◌∙◌}
use mathlib.Core.Bool.{Bool, true, false, cond}
use mathlib.Core.List.{List, ◌++◌}
use mathlib.Core.Logic.{◌⊎◌, inl, inr, ⊎_elim}
use borrow.Author.Tests.{ltb-true, ltb-false, lt-ltb, le-ltb, eqb-true, eqb-false, ne_eqb}
use borrow.Rule.Slice.PartMut.{put_mid}
use lib.Dec.{eqb, ltb}
use mir.Val.{bool_byte}
use lib.ListN.{length, get_or, set, take, drop, replicate, length-set}
use lib.Seq.{get_or-set_same, get_or-set_other, ext_get_or}
use Rattle.std.proofs.lemmas.List.{length-take, length-take-le, length-drop, length-replicate, get_or-replicate, get_or-append-add, get_or_append_left, get_or-take, get_or-drop}
use Rattle.machine.specs.Words.{word_at}
use Rattle.machine.specs.Walk.{frame_of}
use Rattle.desk.specs.Reach.{page_valid}
use Rattle.desk.specs.Extent.{not_valid, count_below, words_below, frame_listed, valid_pages}
use Rattle.desk.proofs.Tables.{true_or_false}
use Rattle.desk.proofs.Extents.{same_count}
use Rattle.tables.specs.Tabling.{EntriesOf, entry_at, word_valid, word_shown}
use Rattle.tables.proofs.Entries.{valid_by_table, shown_by_table}

-- counting

pub count_more : (n : ℕ) (test : ℕ → Bool) → count_below (n + 1) test ≡ count_below n test + cond (test n) 1 0
unfolding count_below
count_more n test = rw add-one

pub count_few : (n : ℕ) (test : ℕ → Bool) → count_below n test ≤ n
unfolding count_below
count_few zero test = omega arith
count_few (suc n) test =
    let few = count_few n test in
    true_or_false _ (test n) (λ e. rw e (omega arith)) (λ e. rw e (omega arith))

pub count_along : (m n : ℕ) (test : ℕ → Bool) → count_below (m + n) test ≡ count_below m test + count_below n (λ k. test (m + k))
unfolding count_below
count_along m zero test = rw (add-zero m) (omega arith)
count_along m (suc n) test = rw (add-suc m n, count_along m n test) (omega arith)

count_none : (n : ℕ) (test : ℕ → Bool) → ((k : ℕ) → k < n → test k ≡ false) → count_below n test ≡ 0
unfolding count_below
count_none zero test none = refl
count_none (suc n) test none = rw (count_none n test (λ k h. none k (omega arith)), none n (omega arith))

-- the entries of a span that say valid pages are as many as its valid pages
pub count_by_table : (d : ℕ) (s : List ℕ) (from to : ℕ) (entries : List (List ℕ)) → EntriesOf d s from to entries → (n : ℕ) → from + n ≡ to
    → count_below (length entries) (λ k. word_valid (entry_at entries k)) ≡ count_below n (λ k. page_valid d s (from + k))
count_by_table d s from to entries told n is =
    let m = length entries in
    let sum : m + (n - m) ≡ n = omega (arith, told.few) in
    let test : ℕ → Bool = λ k. page_valid d s (from + k) in
    let rest = count_none (n - m) (λ k. test (m + k)) (λ k h. rw (valid_by_table d s from to entries told (m + k) (omega arith), le-ltb (m + k) m (omega arith))) in
    let whole : count_below (m + (n - m)) test ≡ count_below m test = count_along m (n - m) test ∙ omega (arith, rest) in
    same_count m (λ k. word_valid (entry_at entries k)) test
    (λ k h. sym (rw (valid_by_table d s from to entries told k (omega (arith, told.few)), lt-ltb k m h)))
    ∙ sym (rw sum at whole)

-- a part of a list put back

module _ (a n : ℕ) (xs ys : List ℕ) (long : length ys ≡ n) (fits : a + n ≤ length xs) where
  size : length (take a xs) ≡ a
  size = length-take-le a xs (omega arith)

  pub before_part : (i : ℕ) → i < a → get_or (put_mid a n xs ys) i 0 ≡ get_or xs i 0
  before_part i h = get_or_append_left (take a xs) _ 0 i (omega (arith, size)) ∙ get_or-take a xs i 0 h

  in_rest : (i : ℕ) → a ≤ i → get_or (put_mid a n xs ys) i 0 ≡ get_or (ys ++ drop n (drop a xs)) (i - a) 0
  in_rest i h =
      let is : length (take a xs) + (i - a) ≡ i = omega (arith, size) in
      rw is at (get_or-append-add (take a xs) (ys ++ drop n (drop a xs)) (i - a) 0)

  pub in_part : (i : ℕ) → a ≤ i → i < a + n → get_or (put_mid a n xs ys) i 0 ≡ get_or ys (i - a) 0
  in_part i low high = in_rest i low ∙ get_or_append_left ys _ 0 (i - a) (omega (arith, long))

  pub after_part : (i : ℕ) → a + n ≤ i → get_or (put_mid a n xs ys) i 0 ≡ get_or xs i 0
  after_part i h =
      let own : length ys + (i - a - n) ≡ i - a = omega (arith, long) in
      let is : a + (n + (i - a - n)) ≡ i = omega arith in
      in_rest i (omega arith)
      ∙ (rw own at (get_or-append-add ys (drop n (drop a xs)) (i - a - n) 0))
      ∙ get_or-drop n (drop a xs) (i - a - n) 0
      ∙ get_or-drop a xs (n + (i - a - n)) 0
      ∙ ap (λ j. get_or xs j 0) is

-- the words by their places

length_words : (n : ℕ) (word : ℕ → ℕ) (ws : List ℕ) → length (words_below n word ws) ≡ length ws
unfolding words_below
length_words zero word ws = refl
length_words (suc n) word ws = length-set (words_below n word ws) n (word n) ∙ length_words n word ws

word_there : (n : ℕ) (word : ℕ → ℕ) (ws : List ℕ) (k : ℕ) → n ≤ length ws → k < n → get_or (words_below n word ws) k 0 ≡ word k
unfolding words_below
word_there zero word ws k fits h = absurd (omega arith)
word_there (suc n) word ws k fits h =
    true_or_false _ (eqb k n)
    (λ e. rw (eqb-true k n e) (get_or-set_same (words_below n word ws) n (word n) 0 (omega (arith, length_words n word ws))))
    (λ e.
    let other : k ≡ n → ⊥ = eqb-false k n e in
    get_or-set_other (words_below n word ws) n k (word n) 0 other ∙ word_there n word ws k (omega arith) (omega arith))

word_past : (n : ℕ) (word : ℕ → ℕ) (ws : List ℕ) (k : ℕ) → n ≤ k → get_or (words_below n word ws) k 0 ≡ get_or ws k 0
unfolding words_below
word_past zero word ws k h = refl
word_past (suc n) word ws k h = get_or-set_other (words_below n word ws) n k (word n) 0 (omega arith) ∙ word_past n word ws k (omega arith)

-- a list with these words in the first places, and the others' elsewhere
pub first_words_by_place : (n : ℕ) (word : ℕ → ℕ) (ws l : List ℕ) → length l ≡ length ws → n ≤ length ws → ((k : ℕ) → k < n → get_or l k 0 ≡ word k)
    → ((i : ℕ) → n ≤ i → get_or l i 0 ≡ get_or ws i 0) → l ≡ words_below n word ws
first_words_by_place n word ws l long fits there beside =
    ext_get_or 0 l (words_below n word ws) (long ∙ sym (length_words n word ws)) λ i h.
    true_or_false _ (ltb i n)
    (λ e. let low = ltb-true i n e in there i low ∙ sym (word_there n word ws i fits low))
    (λ e. let high = ltb-false i n e in beside i high ∙ sym (word_past n word ws i high))

-- `n` words from a place on, by their distance from it
unfoldable pub words_from : ℕ → ℕ → (ℕ → ℕ) → List ℕ → List ℕ
words_from at zero word words = words
words_from at (suc n) word words = set (words_from at n word words) (at + n) (word n)

pub words_more : (at n : ℕ) (word : ℕ → ℕ) (ws : List ℕ) → words_from at (n + 1) word ws ≡ set (words_from at n word ws) (at + n) (word n)
unfolding words_from
words_more at n word ws = rw add-one

pub length-words_from : (at n : ℕ) (word : ℕ → ℕ) (ws : List ℕ) → length (words_from at n word ws) ≡ length ws
unfolding words_from
length-words_from at zero word ws = refl
length-words_from at (suc n) word ws = length-set (words_from at n word ws) (at + n) (word n) ∙ length-words_from at n word ws

pub words_beside : (at n : ℕ) (word : ℕ → ℕ) (ws : List ℕ) (i : ℕ) → (i < at) ⊎ (at + n ≤ i) → get_or (words_from at n word ws) i 0 ≡ get_or ws i 0
unfolding words_from
words_beside at zero word ws i h = refl
words_beside at (suc n) word ws i h =
    get_or-set_other (words_from at n word ws) (at + n) i (word n) 0 (⊎_elim (λ b e. omega arith) (λ b e. omega arith) h)
    ∙ words_beside at n word ws i (⊎_elim (λ b. inl b) (λ b. inr (omega arith)) h)

pub words_there : (at n : ℕ) (word : ℕ → ℕ) (ws : List ℕ) (k : ℕ) → k < n → at + n ≤ length ws → get_or (words_from at n word ws) (at + k) 0 ≡ word k
unfolding words_from
words_there at zero word ws k h fits = absurd (omega arith)
words_there at (suc n) word ws k h fits =
    true_or_false _ (eqb k n)
    (λ e. rw (eqb-true k n e) (get_or-set_same (words_from at n word ws) (at + n) (word n) 0 (omega (arith, length-words_from at n word ws))))
    (λ e.
    let other : k ≡ n → ⊥ = eqb-false k n e in
    get_or-set_other (words_from at n word ws) (at + n) (at + k) (word n) 0 (λ q. omega arith) ∙ words_there at n word ws k (omega arith) (omega arith))

-- a list with these words at these places, and the others' elsewhere
pub words_by_place : (at n : ℕ) (word : ℕ → ℕ) (ws l : List ℕ) → length l ≡ length ws → at + n ≤ length ws
    → ((i : ℕ) → (i < at) ⊎ (at + n ≤ i) → get_or l i 0 ≡ get_or ws i 0) → ((k : ℕ) → k < n → get_or l (at + k) 0 ≡ word k) → l ≡ words_from at n word ws
words_by_place at n word ws l long fits beside there =
    ext_get_or 0 l (words_from at n word ws) (long ∙ sym (length-words_from at n word ws)) λ i h.
    true_or_false _ (ltb i at)
    (λ e. let low = inl (ltb-true i at e) in beside i low ∙ sym (words_beside at n word ws i low))
    (λ e. true_or_false _ (ltb i (at + n))
    (λ f.
    let past : at ≤ i = ltb-false i at e in
    let below : i < at + n = ltb-true i (at + n) f in
    let is : at + (i - at) ≡ i = omega arith in
    rw (← is) (there (i - at) (omega arith) ∙ sym (words_there at n word ws (i - at) (omega arith) fits)))
    (λ f. let high = inr (ltb-false i (at + n) f) in beside i high ∙ sym (words_beside at n word ws i high)))

pub words_along : (m n : ℕ) (word : ℕ → ℕ) (ws : List ℕ) → words_below (m + n) word ws ≡ words_from m n (λ k. word (m + k)) (words_below m word ws)
unfolding words_below words_from
words_along m zero word ws = rw (add-zero m)
words_along m (suc n) word ws = rw (add-suc m n, words_along m n word ws)

pub same_words_from : (at n : ℕ) (f g : ℕ → ℕ) (ws : List ℕ) → ((k : ℕ) → k < n → f k ≡ g k) → words_from at n f ws ≡ words_from at n g ws
unfolding words_from
same_words_from at zero f g ws same = refl
same_words_from at (suc n) f g ws same = rw (same_words_from at n f g ws (λ k h. same k (omega arith)), same n (omega arith))

-- words from the front on
pub words_at_front : (n : ℕ) (word : ℕ → ℕ) (ws : List ℕ) (k : ℕ) → k < n → n ≤ length ws → get_or (words_from 0 n word ws) k 0 ≡ word k
words_at_front n word ws k h fits = let own : 0 + k ≡ k = zero-add k in rw own at (words_there 0 n word ws k h (omega arith))

-- a word that is shown as not valid does not count
pub counts_shown : (e : ℕ) → ◌≡◌ {A = ℕ} (cond (eqb (word_shown e) not_valid) 0 1) (cond (word_valid e) 1 0)
unfolding word_shown
counts_shown e = true_or_false _ (word_valid e) (λ f. rw f (rw (ne_eqb (frame_of e) not_valid (λ h. omega arith)))) (λ f. rw f)

-- the entry of an index, in a table that begins here, and the page of the index in a listing, by so many entries in reach
abbrev pub entry_of : List ℕ → ℕ → ℕ → ℕ
entry_of s start i = word_at s (start + i * 4)

abbrev pub index_shown : List ℕ → ℕ → ℕ → ℕ → ℕ
index_shown s start limit i = cond (ltb i limit) (word_shown (entry_of s start i)) not_valid

-- a table's pages from an index on, of which the first `m` are in reach
module _ (s : List ℕ) (start limit from m count : ℕ) (few : m ≤ count) (reach : (k : ℕ) → k < count → ltb (from + k) limit ≡ ltb k m) where
  near : (k : ℕ) → k < m → ltb (from + k) limit ≡ true
  near k h = reach k (omega arith) ∙ lt-ltb k m h

  far : (k : ℕ) → m ≤ k → k < count → ltb (from + k) limit ≡ false
  far k h below = reach k below ∙ le-ltb k m h

  pub reach-low : (k : ℕ) → k < m → from + k < limit
  reach-low k h = ltb-true _ _ (near k h)

  -- the copies, shown in their places, and the rest not shown
  pub words_of_table : (at : ℕ) (w₀ w₁ w₂ w₃ : List ℕ) → at + count ≤ length w₀ → w₁ ≡ words_from at m (λ k. entry_of s start (from + k)) w₀
      → w₂ ≡ words_from at m (λ k. word_shown (get_or w₁ (at + k) 0)) w₁ → w₃ ≡ words_from (at + m) (count - m) (λ k. not_valid) w₂
      → w₃ ≡ words_from at count (λ k. index_shown s start limit (from + k)) w₀
  words_of_table at w₀ w₁ w₂ w₃ fits copied shown hidden =
      words_by_place at count _ w₀ w₃ long₃ fits
      (λ i h.
      rw hidden (words_beside (at + m) (count - m) _ w₂ i (⊎_elim (λ b. inl (omega arith)) (λ b. inr (omega arith)) h)
      ∙ rw shown (words_beside at m _ w₁ i (⊎_elim (λ b. inl b) (λ b. inr (omega arith)) h)
      ∙ rw copied (words_beside at m _ w₀ i (⊎_elim (λ b. inl b) (λ b. inr (omega arith)) h)))))
      (λ k h. true_or_false _ (ltb k m) (λ e. in_reach k (ltb-true k m e)) (λ e. out_of_reach_lem k h (ltb-false k m e)))
    where
      long₁ : length w₁ ≡ length w₀
      long₁ = ap length copied ∙ length-words_from at m _ w₀

      long₂ : length w₂ ≡ length w₀
      long₂ = ap length shown ∙ length-words_from at m _ w₁ ∙ long₁

      long₃ : length w₃ ≡ length w₀
      long₃ = ap length hidden ∙ length-words_from (at + m) (count - m) _ w₂ ∙ long₂

      in_reach : (k : ℕ) → k < m → get_or w₃ (at + k) 0 ≡ cond (ltb (from + k) limit) (word_shown (entry_of s start (from + k))) not_valid
      in_reach k h =
          ap (λ l. get_or l (at + k) 0) hidden
          ∙ words_beside (at + m) (count - m) _ w₂ (at + k) (inl (omega arith))
          ∙ ap (λ l. get_or l (at + k) 0) shown
          ∙ words_there at m _ w₁ k h (omega (arith, long₁))
          ∙ ap word_shown (ap (λ l. get_or l (at + k) 0) copied ∙ words_there at m _ w₀ k h (omega arith))
          ∙ rw (near k h) refl

      out_of_reach_lem : (k : ℕ) → k < count → m ≤ k → get_or w₃ (at + k) 0 ≡ cond (ltb (from + k) limit) (word_shown (entry_of s start (from + k))) not_valid
      out_of_reach_lem k h past =
          let is : at + m + (k - m) ≡ at + k = omega arith in
          rw (far k past h, hidden, ← is) (words_there (at + m) (count - m) (λ _. not_valid) w₂ (k - m) (omega arith) (omega (arith, long₂)))

-- a truth counts one
pub counts : (b : Bool) → (bool_byte b ≡ cond b 1 0) × (bool_byte b ≤ 1)
counts true = (refl, omega arith)
counts false = (refl, omega arith)

-- the words of a span: those of the entries, shown, and the rest not valid
pub words_of_span : (d : ℕ) (s : List ℕ) (from to : ℕ) (entries : List (List ℕ)) → EntriesOf d s from to entries → (ws rest : List ℕ)
    → from + length ws ≡ to → ((k : ℕ) → k < length entries → get_or ws k 0 ≡ word_shown (entry_at entries k))
    → rest ≡ replicate (length (take (length ws - length entries) (drop (length entries) ws))) not_valid → (k : ℕ) → k < length ws
    → get_or (put_mid (length entries) (length ws - length entries) ws rest) k 0 ≡ frame_listed d s (from + k)
words_of_span d s from to entries told ws rest is shown hidden k h =
    let m = length entries in
    let n = length ws - m in
    let few : m + n ≤ length ws = omega (arith, told.few) in
    let size : length (take n (drop m ws)) ≡ n = simp (length-take, length-drop) (omega arith) in
    let long : length rest ≡ n = ap length hidden ∙ length-replicate (length (take n (drop m ws))) not_valid ∙ size in
    let word = shown_by_table d s from to entries told k (omega arith) in
    true_or_false _ (ltb k m)
    (λ e.
    let low = ltb-true k m e in
    before_part m n ws rest long few k low ∙ shown k low ∙ rw (word, e))
    (λ e.
    in_part m n ws rest long few k (ltb-false k m e) (omega (arith, told.few))
    ∙ ap (λ l. get_or l (k - m) 0) hidden
    ∙ get_or-replicate (length (take n (drop m ws))) (k - m) not_valid 0 (omega (arith, size, ltb-false k m e))
    ∙ rw (word, e))

pub few_valid : (first pages d : ℕ) (s : List ℕ) → valid_pages first pages d s ≤ pages
unfolding valid_pages
few_valid first pages d s = count_few pages (λ p. page_valid d s (first + p))

-- the pages of a span after those before them
module _ (first m n from d : ℕ) (s : List ℕ) (is : from ≡ first + m) where
  own : (k : ℕ) → from + k ≡ first + (m + k)
  own k = omega arith

  pub valid_along : valid_pages first (m + n) d s ≡ valid_pages first m d s + count_below n (λ k. page_valid d s (from + k))
  unfolding valid_pages
  valid_along =
      count_along m n (λ p. page_valid d s (first + p))
      ∙ ap (λ x. count_below m (λ p. page_valid d s (first + p)) + x) (same_count n _ _ λ k h. ap (page_valid d s) (sym (own k)))

  pub listed_along : (ws ys : List ℕ) → length ys ≡ n → m + n ≤ length ws → ((k : ℕ) → k < m → get_or ws k 0 ≡ frame_listed d s (first + k))
      → ((k : ℕ) → k < n → get_or ys k 0 ≡ frame_listed d s (from + k)) → (k : ℕ) → k < m + n → get_or (put_mid m n ws ys) k 0 ≡ frame_listed d s (first + k)
  listed_along ws ys long fits before here k h =
      true_or_false _ (ltb k m)
      (λ e. let low = ltb-true k m e in before_part m n ws ys long fits k low ∙ before k low)
      (λ e.
      let past : m ≤ k = ltb-false k m e in
      let place : from + (k - m) ≡ first + k = omega arith in
      in_part m n ws ys long fits k past h ∙ here (k - m) (omega arith) ∙ ap (frame_listed d s) place)

-- how long a part of a list is
pub length_of_part : (m n : ℕ) (ws : List ℕ) → m + n ≤ length ws → length (take n (drop m ws)) ≡ n
length_of_part m n ws fits = simp (length-take, length-drop) (omega arith)
