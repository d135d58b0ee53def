-- What a step of the host's walk found, as one number: a word of 32 bits, or 2^32 and the code of a fault.
use Rattle.std.specs.Prelude.{ℕ, ◌+◌, ◌%◌, ◌^◌, ◌<◌, ◌≡◌, cond, List, ltb, Err, Ok}
use Rattle.machine.specs.Failures.{page_translation, host_fault}
use Rattle.machine.specs.Walk.{segment_index, page_index, page_entry_at, past_page_table, frame_of, page_protected, TableEntry, Walk, at_frame}
use Rattle.machine.specs.Host.{host_entry}
use Rattle.storage.specs.Steps.{read_through, table_leads, segment_leads}

abbrev pub stopped : ℕ → ℕ
stopped code = 2 ^ 32 + code

-- where the host page entry of a host virtual address stands, by what was found of its segment entry
unfoldable pub leads_on : ℕ → ℕ → TableEntry
leads_on a w =
    cond (ltb w (2 ^ 32))
    (cond (past_page_table w (page_index a)) (Err (host_fault a page_translation)) (Ok (page_entry_at w (page_index a))))
    (Err (host_fault a (w % 2 ^ 32)))

-- the host page of a host virtual address, by what was found of its page entry
unfoldable pub page_found : ℕ → ℕ → Walk
page_found a w = cond (ltb w (2 ^ 32)) (at_frame (frame_of w) (page_protected w)) (Err (host_fault a (w % 2 ^ 32)))

-- what was found of the segment entry of an index serves every host virtual address of that index
abbrev pub Serves : ℕ → List ℕ → ℕ → ℕ → Type 0
Serves designation storage index w =
    (a : ℕ) → a < 2 ^ 32 → segment_index a ≡ index
    → segment_leads (host_fault a) (page_index a) (read_through (host_entry storage a) (table_leads (host_fault a) designation a)) ≡ leads_on a w
