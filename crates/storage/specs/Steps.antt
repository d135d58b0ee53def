-- The walk in steps that guest and host share: each step takes an address or an entry, or hands a failure on.
use Rattle.std.specs.Prelude.{ℕ, ◌+◌, Bool, cond, List, leb, length, Err, Ok}
use Rattle.machine.specs.declared.Failure.{Failure}
use Rattle.machine.specs.Failures.{addressing, segment_translation, page_translation, translation_specification, host_fault}
use Rattle.machine.specs.Walk.{segment_index, segment_entry_at, past_segment_table, segment_invalid, segment_malformed, page_entry_at, past_page_table, TableEntry}

-- the entry at an address that a step led to
unfoldable pub read_through : (ℕ → TableEntry) → TableEntry → TableEntry
read_through read (Err f) = Err f
read_through read (Ok at) = read at

-- where the segment entry of an address stands
unfoldable pub table_leads : (ℕ → Failure) → ℕ → ℕ → TableEntry
table_leads fail designation a =
    cond (past_segment_table designation (segment_index a)) (Err (fail segment_translation))
    (Ok (segment_entry_at designation (segment_index a)))

-- where the page entry of a page index stands
unfoldable pub segment_leads : (ℕ → Failure) → ℕ → TableEntry → TableEntry
segment_leads fail index (Err f) = Err f
segment_leads fail index (Ok e) =
    cond (segment_invalid e) (Err (fail segment_translation))
    (cond (segment_malformed e) (Err (fail translation_specification))
    (cond (past_page_table e index) (Err (fail page_translation)) (Ok (page_entry_at e index))))

-- a word at this address lies in the storage
abbrev pub inside : List ℕ → ℕ → Bool
inside storage at = leb (at + 4) (length storage)

-- the host table entry at an address, for the host virtual address `a`, by a number that is its word where it lies in the storage
abbrev pub held_entry : List ℕ → ℕ → ℕ → ℕ → TableEntry
held_entry storage a at word = cond (inside storage at) (Ok word) (Err (host_fault a addressing))
