-- Laws of the entries of pages: the chunks of the storage in which they stand.
use Prim.Native.Nat.{ℕ, zero, suc, ◌+◌, ◌-◌, ◌*◌, ◌/◌, ◌≤◌, ◌<◌}
use native.Mathlib.Omega.{arith}
use mathlib.Core.Path.{◌≡◌, refl, ap, ◌∙◌}
use mathlib.Core.List.{List, []}
use mathlib.Core.Bool.{true, cond, ◌&&◌}
use borrow.Author.Tests.{ltb-true}
use lib.Dec.{ltb}
use lib.ListN.{length, get_or, take, drop}
use Rattle.std.specs.Simd.{first_chunks}
use Rattle.std.proofs.lemmas.List.{length-take, length-drop, get_or-drop, get_or-take}
use Rattle.machine.specs.Words.{byte_at, word_at}
use Rattle.machine.specs.Frames.{page_of}
use Rattle.desk.specs.Reach.{page_valid}
use Rattle.desk.specs.Extent.{not_valid, frame_listed}
use Rattle.desk.proofs.Tables.{true_or_false}
use Rattle.desk.proofs.Extents.{same_and}
use Rattle.tables.specs.Tabling.{TableAt, EntriesOf, entry_at, word_valid, word_shown}

-- a chunk, byte by byte
chunk_byte : (n count : ℕ) (xs : List ℕ) (k i : ℕ) → k < count → i < n → get_or (get_or (first_chunks n count xs) k []) i 0 ≡ get_or xs (k * n + i) 0
chunk_byte n zero xs k i h low = absurd (omega arith)
chunk_byte n (suc count) xs zero i h low = let own : 0 * n + i ≡ i = omega arith in rw own (get_or-take n xs i 0 low)
chunk_byte n (suc count) xs (suc k) i h low =
    let own : n + (k * n + i) ≡ suc k * n + i = omega arith in
    chunk_byte n count (drop n xs) k i (omega arith) low ∙ get_or-drop n xs (k * n + i) 0 ∙ ap (λ j. get_or xs j 0) own

-- the chunks of a part of the storage are words of the storage
module _ (s : List ℕ) (start size count k : ℕ) (h : k < count) (fits : count * 4 ≤ size) where
  abbrev chunks : List (List ℕ)
  chunks = first_chunks 4 count (take size (drop start s))

  byte_of_chunk : (i : ℕ) → i < 4 → get_or (get_or chunks k []) i 0 ≡ byte_at s (start + k * 4 + i)
  byte_of_chunk i low =
      let own : start + (k * 4 + i) ≡ start + k * 4 + i = omega arith in
      chunk_byte 4 count _ k i h low ∙ get_or-take size (drop start s) (k * 4 + i) 0 (omega arith) ∙ get_or-drop start s (k * 4 + i) 0
      ∙ ap (byte_at s) own

  pub word_of_chunk : word_at s (start + k * 4) ≡ entry_at chunks k
  unfolding word_at
  word_of_chunk =
      let last : start + k * 4 + 2 + 1 ≡ start + k * 4 + 3 = omega arith in
      let first : start + k * 4 + 0 ≡ start + k * 4 = omega arith in
      rw (byte_of_chunk 0 (omega arith), byte_of_chunk 1 (omega arith), byte_of_chunk 2 (omega arith), byte_of_chunk 3 (omega arith), first, last) (omega arith)

length_chunks : (n count : ℕ) (xs : List ℕ) → length (first_chunks n count xs) ≡ count
length_chunks n zero xs = refl
length_chunks n (suc count) xs = ap suc (length_chunks n count (drop n xs))

-- the entries in a part of the storage
pub entries_there : (d : ℕ) (s : List ℕ) (from to start end : ℕ) (t : TableAt d s from to start end)
    → EntriesOf d s from to (first_chunks 4 (length (take (end - start) (drop start s)) / 4) (take (end - start) (drop start s)))
entries_there d s from to start end t =
    let size : length (take (end - start) (drop start s)) ≡ t.count * 4 = simp (length-take, length-drop) (omega (arith, t.whole, t.fits)) in
    let count : length (take (end - start) (drop start s)) / 4 ≡ t.count = omega arith in
    rw count (record {
      few = rw length_chunks t.few;
      reach = λ k h. rw length_chunks (t.reach k h);
      is = λ k h.
          let low : k < t.count = rw length_chunks at h in
          ap (word_at s) (t.place k low) ∙ word_of_chunk s start (end - start) t.count k low (omega (arith, t.whole));
    })

-- a page by the entries of its segment
module _ (d : ℕ) (s : List ℕ) (from to : ℕ) (entries : List (List ℕ)) (told : EntriesOf d s from to entries) (k : ℕ) (own : from + k < to) where
  entry_is : ltb k (length entries) ≡ true → page_of d s (from + k) ≡ entry_at entries k
  entry_is e = told.is k (ltb-true _ _ e)

  pub valid_by_table : page_valid d s (from + k) ≡ (ltb k (length entries) && word_valid (entry_at entries k))
  unfolding page_valid word_valid
  valid_by_table = rw (told.reach k own) (same_and _ _ refl λ e. rw (entry_is e))

  pub shown_by_table : frame_listed d s (from + k) ≡ cond (ltb k (length entries)) (word_shown (entry_at entries k)) not_valid
  unfolding frame_listed word_shown
  shown_by_table = rw valid_by_table (true_or_false _ (ltb k (length entries)) (λ e. rw (e, entry_is e)) (λ e. rw e))

-- a page by the word at which its entry stands
module _ (d : ℕ) (s : List ℕ) (from to start end : ℕ) (told : TableAt d s from to start end) (k : ℕ) (own : from + k < to) where
  word_is : ltb k told.count ≡ true → page_of d s (from + k) ≡ word_at s (start + k * 4)
  word_is e = ap (word_at s) (told.place k (ltb-true _ _ e))

  pub valid_by_word : page_valid d s (from + k) ≡ (ltb k told.count && word_valid (word_at s (start + k * 4)))
  unfolding page_valid word_valid
  valid_by_word = rw (told.reach k own) (same_and _ _ refl λ e. rw (word_is e))

  pub shown_by_word : frame_listed d s (from + k) ≡ cond (ltb k told.count) (word_shown (word_at s (start + k * 4))) not_valid
  unfolding frame_listed word_shown
  shown_by_word = rw valid_by_word (true_or_false _ (ltb k told.count) (λ e. rw (e, word_is e)) (λ e. rw e))
