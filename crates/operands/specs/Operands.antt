-- An operand of n bytes by page: it stands on one page or on two.
use Rattle.std.specs.Prelude.{ℕ, ◌+◌, ◌-◌, ◌%◌, ◌≤◌, ◌≡◌, Bool, cond, List, ◌++◌, leb, length, take, drop, Err, Ok, Result}
use Rattle.std.proofs.lemmas.List.Edits.{sets}
use Rattle.machine.specs.declared.Cpu.{Cpu}
use Rattle.machine.specs.declared.Guest.{Guest}
use Rattle.machine.specs.Sizes.{page_bytes}
use Rattle.machine.specs.Psw.{wrap}
use Rattle.machine.specs.Host.{Host, Located, places, backing, stored, marked}
use Rattle.machine.specs.Interruptions.{with_bytes, bytes_of}
use Rattle.machine.specs.declared.Failure.{Failure}
use Rattle.pieces.specs.declared.Pieces.{Pieces}
use Rattle.address.specs.Touching.{touch_of, Place}
use Rattle.marks.specs.Marks.{mark_operand}

-- where an operand stands in host storage, or why it cannot be reached
abbrev pub Operand : Type 0
Operand = Result Pieces Failure

abbrev pub in_pieces : ℕ → ℕ → ℕ → Operand
in_pieces first count second = Ok (record { first = first; count = count; second = second })

unfoldable pub in_one_page : ℕ → Place → Operand
in_one_page n (Err f) = Err f
in_one_page n (Ok p) = in_pieces p n 0

unfoldable pub in_two_pages : ℕ → Place → Place → Operand
in_two_pages m (Err f) y = Err f
in_two_pages m (Ok p) (Err f) = Err f
in_two_pages m (Ok p) (Ok q) = in_pieces p m q

-- the bytes of a page from an address on
abbrev pub to_page_end : ℕ → ℕ
to_page_end a = page_bytes - a % page_bytes

-- where the operand of n bytes at a wrapped logical address stands
unfoldable pub operand_of : Guest → Host → Cpu → Bool → ℕ → ℕ → Operand
operand_of g h c store a n =
    cond (leb n (to_page_end a)) (in_one_page n (touch_of g h c store a))
    (in_two_pages (to_page_end a) (touch_of g h c store a) (touch_of g h c store (wrap c (a + to_page_end a))))

-- the n bytes that were reached stand at p, m of them, and at q
pub record Opened (g : Guest) (h : Host) (n : ℕ) (ls : List Located) (p m q : ℕ) : Type 0 where
  pub count : length ls ≡ n
  pub few : m ≤ n
  pub first : p + m ≤ length h.storage
  pub second : q + (n - m) ≤ length h.storage
  pub fetched : bytes_of ls ≡ take m (drop p h.storage) ++ take (n - m) (drop q h.storage)
  pub stores : (bytes t : List ℕ) → length bytes ≡ n → stored (backing g h) (with_bytes ls bytes) t ≡ sets (sets t p (take m bytes)) q (drop m bytes)
  pub marks : (mark : ℕ → ℕ) → ((k : ℕ) → mark (mark k) ≡ mark k) → (keys : List ℕ)
      → marked (backing g h) mark (places ls) keys ≡ mark_operand mark n p m q keys
