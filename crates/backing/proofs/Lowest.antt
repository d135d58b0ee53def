-- Laws of the lowest page that is not valid: in a table, in a span, and a span after the other.
use Prim.Native.Nat.{ℕ, ◌+◌, ◌-◌, ◌*◌, ◌/◌, ◌%◌, ◌≤◌, ◌<◌}
use native.Mathlib.Omega.{arith}
use mathlib.Core.Path.{◌≡◌, refl, ap, sym, ◌∙◌}
use mathlib.Core.Bool.{Bool, true, false, not, ◌&&◌, ◌||◌}
use mathlib.Core.List.{List, []}
use borrow.Author.Tests.{ltb-true, ltb-false, lt-ltb}
use lib.Dec.{eqb, ltb}
use lib.ListN.{length}
use Rattle.std.specs.Bool.{then_some}
use Rattle.std.specs.Int.{w32, from_be_bytes}
use Rattle.std.specs.List.{AllWithin, HoldsAt}
use Rattle.std.specs.Option.{MatchOption, unwrap_or}
use Rattle.std.specs.Prelude.{Option, Some, None}
use Rattle.machine.specs.Words.{byte_at, half_at, word_at}
use Rattle.machine.specs.Frames.{page_of}
use Rattle.desk.specs.Reach.{page_valid}
use Rattle.desk.proofs.Tables.{true_or_false}
use Rattle.desk.proofs.Extents.{same_and}
use Rattle.desk.proofs.Surveys.{AllPass, FirstFails}
use Rattle.tables.specs.Tabling.{TableAt, EntriesOf, entry_at, word_valid}
use Rattle.tables.proofs.Entries.{valid_by_table}
use Rattle.backing.specs.Lowest.{Bytes, Lowest}

even_apart : (x y : ℕ) → (x + 2 * y) % 2 ≡ x % 2
even_apart x y = omega arith

-- the bits of an entry that say a valid page, among its bytes
module _ (a b c d : ℕ) (a-low : a < 256) (b-low : b < 256) (c-low : c < 256) (d-low : d < 256) where
  abbrev entry : ℕ
  entry = (a * 256 + b) * 65536 + (c * 256 + d)

  abbrev number : ℕ
  number = a + b * 256 + c * 65536 + d * 16777216

  bit_0 : entry / 2147483648 % 2 ≡ number / 128 % 2
  bit_0 =
      let left : entry / 2147483648 ≡ a / 128 = omega arith in
      let right : number / 128 ≡ a / 128 + 2 * (b + c * 256 + d * 65536) = omega arith in
      rw (left, right) (sym (even_apart _ _))

  bit_20 : entry / 2048 % 2 ≡ number / 524288 % 2
  bit_20 =
      let left : entry / 2048 ≡ c / 8 + 2 * ((a * 256 + b) * 16) = omega arith in
      let right : number / 524288 ≡ c / 8 + 2 * (d * 16) = omega arith in
      rw (left, right) (even_apart _ _ ∙ sym (even_apart _ _))

  bit_21 : entry / 1024 % 2 ≡ number / 262144 % 2
  bit_21 =
      let left : entry / 1024 ≡ c / 4 + 2 * ((a * 256 + b) * 32) = omega arith in
      let right : number / 262144 ≡ c / 4 + 2 * (d * 32) = omega arith in
      rw (left, right) (even_apart _ _ ∙ sym (even_apart _ _))

  bit_23 : entry / 256 % 2 ≡ number / 65536 % 2
  bit_23 =
      let left : entry / 256 ≡ c + 2 * ((a * 256 + b) * 128) = omega arith in
      let right : number / 65536 ≡ c + 2 * (d * 128) = omega arith in
      rw (left, right) (even_apart _ _ ∙ sym (even_apart _ _))

module _ (s : List ℕ) (a number : ℕ) (read : Bytes s a number) where
  is_entry : word_at s a ≡ half_at s a * 65536 + (byte_at s (a + 2) * 256 + byte_at s (a + 3))
  unfolding word_at
  is_entry = let last : a + 2 + 1 ≡ a + 3 = omega arith in rw last

  -- an entry says a valid page by these bits of its bytes
  pub valid_by_bytes : word_valid (word_at s a)
      ≡ (not (eqb (number / 262144 % 2) 1) && not (eqb (number / 128 % 2) 1 || eqb (number / 524288 % 2) 1 || eqb (number / 65536 % 2) 1))
  unfolding word_valid
  valid_by_bytes =
      rw (
        is_entry,
        read.is,
        bit_0 _ _ _ _ read.first read.second read.third read.fourth,
        bit_20 _ _ _ _ read.first read.second read.third read.fourth,
        bit_21 _ _ _ _ read.first read.second read.third read.fourth,
        bit_23 _ _ _ _ read.first read.second read.third read.fourth,
      )

-- the first `m` entries of a span say valid pages, and the next does not
module _ (d : ℕ) (s : List ℕ) (from to : ℕ) (entries : List (List ℕ)) (told : EntriesOf d s from to entries) (m : ℕ) (some : m ≤ length entries)
    (passed : (k : ℕ) → k < m → word_valid (entry_at entries k) ≡ true) (stops : m < length entries → word_valid (entry_at entries m) ≡ false) where
  pages_passed : AllPass (page_valid d s) from (from + m)
  pages_passed q low high =
      let is : from + (q - from) ≡ q = omega arith in
      let own : q - from < m = omega arith in
      let inside : from + (q - from) < to = omega (arith, told.few) in
      rw is at (valid_by_table d s from to entries told (q - from) inside) ∙ rw (lt-ltb (q - from) (length entries) (omega arith)) (passed (q - from) own)

  page_stops : from + m < to → page_valid d s (from + m) ≡ false
  page_stops inside =
      rw (valid_by_table d s from to entries told m inside)
      (true_or_false _ (ltb m (length entries)) (λ e. rw e (stops (ltb-true _ _ e))) (λ e. rw e))

  pub lowest_of_span : Lowest (page_valid d s) from to (then_some (ltb (from + m) to) (from + m))
  lowest_of_span =
      true_or_false _ (ltb (from + m) to)
      (λ e. rw e (record { low = omega arith; high = ltb-true _ _ e; fails = page_stops (ltb-true _ _ e); passed = pages_passed }))
      (λ e. rw e (λ q low high. pages_passed q low (omega (arith, ltb-false _ _ e))))

-- an entry that says a valid page, and one that does not
abbrev pub Says : Bool → List ℕ → Type 0
Says b entry = word_valid (from_be_bytes w32 entry) ≡ b

-- by the first entry that does not, if there is one
pub lowest_by_entry : (d : ℕ) (s : List ℕ) (from to : ℕ) (entries : List (List ℕ)) → EntriesOf d s from to entries → (o : Option ℕ)
    → MatchOption o (AllWithin (Says true) entries 0 (length entries))
    (λ i. (i < length entries) × HoldsAt (Says false) entries i × AllWithin (Says true) entries 0 i)
    → Lowest (page_valid d s) from to (then_some (ltb (from + unwrap_or o (length entries)) to) (from + unwrap_or o (length entries)))
lowest_by_entry d s from to entries told None all =
    lowest_of_span d s from to entries told (length entries) (omega arith) (λ k low. all k [] (omega arith) low) (λ h. absurd (omega arith))
lowest_by_entry d s from to entries told (Some i) found =
    lowest_of_span d s from to entries told i (omega (arith, found.0)) (λ k low. found.2 k [] (omega arith) low) (λ _. found.1 [])

-- a span after the other
pub passes_along : (test : ℕ → Bool) (from mid to : ℕ) → AllPass test mid to → AllPass test from mid → AllPass test from to
passes_along test from mid to second first q low high =
    true_or_false _ (ltb q mid) (λ e. first q low (ltb-true q mid e)) (λ e. second q (ltb-false q mid e) high)

-- one of a span is the first of all, where those before it pass
pub found_along : (test : ℕ → Bool) (from mid next to page : ℕ) → from ≤ mid → next ≤ to → AllPass test from mid → FirstFails test mid next page
    → FirstFails test from to page
found_along test from mid next to page low high before h =
    record { low = omega (arith, h.low); high = omega (arith, h.high); fails = h.fails; passed = passes_along test from mid page h.passed before }

-- the page of an index is valid, by a table of so many entries in reach that begins here
abbrev pub index_valid : List ℕ → ℕ → ℕ → ℕ → Bool
index_valid s start count i = ltb i count && word_valid (word_at s (start + i * 4))

-- the pages from one up to another after those before them, by a table of the pages from `low` up to `high`
module _ (d : ℕ) (s : List ℕ) (from page next to low high start end : ℕ) (told : TableAt d s low high start end) (under : low ≤ page) (over : next ≤ high) where
  abbrev valid : ℕ → Bool
  valid k = index_valid s start told.count (page - low + k)

  by_index : (k : ℕ) → k < next - page → page_valid d s (page + k) ≡ valid k
  unfolding page_valid word_valid
  by_index k h =
      let i = page - low + k in
      let is : low + i ≡ page + k = omega arith in
      let inside : low + i < high = omega arith in
      let place : ltb i told.count ≡ true → page_of d s (low + i) ≡ word_at s (start + i * 4) = λ e. ap (word_at s) (told.place i (ltb-true _ _ e)) in
      rw (← is) (rw (told.reach i inside) (same_and _ _ refl λ e. rw (place e)))

  pub passed_on : (m : ℕ) → m ≤ next - page → AllPass valid 0 m → AllPass (page_valid d s) from page → AllPass (page_valid d s) from (page + m)
  passed_on m few first passed q low' high' =
      true_or_false _ (ltb q page) (λ e. passed q low' (ltb-true q page e))
      (λ e.
      let past : page ≤ q = ltb-false q page e in
      let is : page + (q - page) ≡ q = omega arith in
      rw (← is) (by_index (q - page) (omega arith) ∙ first (q - page) (omega arith) (omega arith)))

  -- the lowest of them is the lowest of all, where those before them are valid
  pub found_there : next ≤ to → from ≤ page → (m : ℕ) → Lowest valid 0 (next - page) (Some m) → AllPass (page_valid d s) from page
      → Lowest (page_valid d s) from to (Some (page + m))
  found_there end low' m first passed = record {
    low = omega arith;
    high = omega (arith, first.high);
    fails = by_index m first.high ∙ first.fails;
    passed = passed_on m (omega (arith, first.high)) first.passed passed;
  }

  -- with them all are valid up to the next
  pub all_passed : page ≤ next → Lowest valid 0 (next - page) None → AllPass (page_valid d s) from page → AllPass (page_valid d s) from next
  all_passed order first passed = let is : page + (next - page) ≡ next = omega arith in rw is at (passed_on (next - page) (omega arith) first passed)

pub all_of_them : (test : ℕ → Bool) (from to : ℕ) → AllPass test from to → Lowest test from to None
all_of_them test from to passed = passed
