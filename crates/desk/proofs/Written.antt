-- What the change of one page's entry does to the pages of the extent, where that entry serves no second page of it and as no segment
-- entry: the others have the entries that they had, and its own page has the new one.
use Prim.Native.Nat.{ℕ, ◌+◌, ◌%◌, ◌^◌, ◌≤◌, ◌<◌}
use native.Mathlib.Omega.{arith}
use mathlib.Core.Path.{◌≡◌, refl, sym, ◌∙◌}
use mathlib.Core.Bool.{Bool, true, false, ◌&&◌}
use mathlib.Core.List.{List}
use mathlib.Core.Logic.{◌⊎◌, inl, inr}
use borrow.Author.Tests.{ltb-true, ltb-false, eqb-false, ne_eqb}
use lib.Dec.{eqb, ltb}
use lib.ListN.{length}
use Rattle.machine.specs.Words.{word_bytes}
use Rattle.machine.specs.Walk.{frame_of, page_invalid, page_protected}
use Rattle.machine.specs.Frames.{segment_place, page_place, page_of}
use Rattle.machine.proofs.Laws.{SameBytes, word_of_bytes}
use Rattle.machine.proofs.Words.{word_of_sets, word_of_word_bytes}
use Rattle.desk.specs.declared.Change.{Change}
use Rattle.desk.specs.Reach.{segment_reached, page_reached, page_valid}
use Rattle.desk.specs.Extent.{serves_second_page, serves_as_segment}
use Rattle.desk.specs.Desk.{entry_after, storage_after}
use Rattle.desk.proofs.Tables.{not_of, true_or_false, page_in-reach, segment_of-reached, SameTables, same_tables}
use Rattle.desk.proofs.Extents.{none_below, same_and}
use Rattle.desk.proofs.Entries.{ValidEntry}
use Rattle.desk.proofs.Changes.{length-after, byte_after}

-- entries stand at multiples of four: a byte of one lies beside every other
beside_another : (a b : ℕ) → a % 4 ≡ 0 → b % 4 ≡ 0 → eqb a b ≡ false → (i : ℕ) → a ≤ i → i < a + 4 → (i < b) ⊎ (b + 4 ≤ i)
beside_another a b fourA fourB apart i low high =
    let other : a ≡ b → ⊥ = eqb-false a b apart in
    true_or_false _ (ltb i b) (λ e. inl (ltb-true _ _ e)) (λ e. let past : b ≤ i = ltb-false _ _ e in inr (omega arith))

-- of two tests that do not both hold, the second where the first holds
not_second : {a b : Bool} → (a && b) ≡ false → a ≡ true → b ≡ false
not_second e t = rw t at e

-- in reach or not goes by the segment entry, and so does the place
module _ (d : ℕ) (s t : List ℕ) (page : ℕ) (lengths : length s ≡ length t)
    (segment : segment_reached d s page ≡ true → SameBytes s t (segment_place d page) (segment_place d page + 4)) where
  segment_by_length : segment_reached d s page ≡ segment_reached d t page
  unfolding segment_reached
  segment_by_length = rw lengths

  reach_by_segment : page_reached d s page ≡ page_reached d t page
  unfolding page_reached
  reach_by_segment = same_and _ _ segment_by_length λ reached. rw (word_of_bytes s t (segment_place d page) (segment reached), lengths)

  place_by_segment : page_reached d s page ≡ true → page_place d s page ≡ page_place d t page
  place_by_segment reached = rw (word_of_bytes s t (segment_place d page) (segment (segment_of-reached d s page reached)))

module _ (c : Change) (first pages d : ℕ) (s : List ℕ) (p : ℕ) (inside : p < pages) (reached : page_reached d s (first + p) ≡ true)
    (alone : serves_second_page first pages d s p ≡ false) (no_segment : serves_as_segment first pages d s p ≡ false) where
  abbrev after : List ℕ
  after = storage_after c d s (first + p)

  same_segment-bytes : (q : ℕ) → q < pages → segment_reached d s (first + q) ≡ true
      → SameBytes s after (segment_place d (first + q)) (segment_place d (first + q) + 4)
  unfolding serves_as_segment
  same_segment-bytes q below near i low high =
      sym (byte_after c d s (first + p) i
      (beside_another (segment_place d (first + q)) (page_place d s (first + p)) (omega arith) (omega arith)
      (not_second (none_below pages _ q no_segment below) near) i low high))

  same_own_bytes : (q : ℕ) → q < pages → (q ≡ p → ⊥) → page_reached d s (first + q) ≡ true
      → SameBytes s after (page_place d s (first + q)) (page_place d s (first + q) + 4)
  unfolding serves_second_page
  same_own_bytes q below other near i low high =
      sym (byte_after c d s (first + p) i
      (beside_another (page_place d s (first + q)) (page_place d s (first + p)) (omega arith) (omega arith)
      (not_second (not_second (none_below pages _ q alone below) (not_of (ne_eqb q p other))) near) i low high))

  lengths : length s ≡ length after
  lengths = sym (length-after c d s (first + p))

  -- every other page has its entries as before
  pub others_written : (q : ℕ) → q < pages → (q ≡ p → ⊥) → SameTables d s after (first + q)
  others_written q below other = same_tables d s after (first + q) (record {
    lengths = lengths;
    segment = same_segment-bytes q below;
    own = same_own_bytes q below other;
  })

  -- every page is in reach as before, at its place, as is its segment entry

  pub segment_written : (q : ℕ) → segment_reached d s (first + q) ≡ segment_reached d after (first + q)
  unfolding segment_reached
  segment_written q = rw lengths

  pub reach_written : (q : ℕ) → q < pages → page_reached d s (first + q) ≡ page_reached d after (first + q)
  reach_written q below = reach_by_segment d s after (first + q) lengths (same_segment-bytes q below)

  pub place_written : (q : ℕ) → q < pages → page_reached d s (first + q) ≡ true → page_place d s (first + q) ≡ page_place d after (first + q)
  place_written q below = place_by_segment d s after (first + q) lengths (same_segment-bytes q below)

  -- the page of the call has the new entry
  pub entry_written : page_of d after (first + p) ≡ entry_after c (page_of d s (first + p)) % 2 ^ 32
  unfolding storage_after
  entry_written =
      rw (← place_written p inside reached)
      (word_of_sets s (page_place d s (first + p)) (word_bytes (entry_after c (page_of d s (first + p)))) (omega arith) (page_in-reach d s (first + p) reached).in_storage
      ∙ word_of_word_bytes (entry_after c (page_of d s (first + p))))

  reached_written : page_reached d after (first + p) ≡ true
  reached_written = sym (reach_written p inside) ∙ reached

  -- a valid new entry makes its page valid, an invalid one makes it not valid

  pub valid_written : (frame : ℕ) (guarded : Bool) → ValidEntry (entry_after c (page_of d s (first + p)) % 2 ^ 32) frame guarded
      → (page_valid d after (first + p) ≡ true)
      × ((frame_of (page_of d after (first + p)) ≡ frame) × (page_protected (page_of d after (first + p)) ≡ guarded))
  unfolding page_valid
  valid_written frame guarded e = rw (entry_written, reached_written, e.valid, e.formed) (refl, (e.named, e.guard))

  pub invalid_written : page_invalid (entry_after c (page_of d s (first + p)) % 2 ^ 32) ≡ true → page_valid d after (first + p) ≡ false
  unfolding page_valid
  invalid_written e = rw (entry_written, reached_written, e)
