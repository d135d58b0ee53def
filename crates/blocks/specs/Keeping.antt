-- Blocks of 2,048 bytes whose translation is kept from one unit to the next, in a table of 32 words: the first logical addresses of
-- eight blocks that are fetched from, texts and operands alike, and the places of their first bytes in host storage; then those of
-- eight blocks that are stored into. The block of an address stands in entry address / 2,048 % 8.
use Rattle.std.specs.Prelude.{ℕ, ◌+◌, ◌/◌, ◌%◌, ◌≤◌, ◌<◌, ◌≡◌, Bool, true, false, List, length, get_or, Ok}
use Rattle.machine.specs.declared.Cpu.{Cpu}
use Rattle.machine.specs.declared.Guest.{Guest}
use Rattle.machine.specs.declared.Psw.{Psw}
use Rattle.machine.specs.Host.{Host, host, referenced, changed}
use Rattle.address.specs.Touching.{touch_of}
use Rattle.guard.specs.Guarding.{Alike}

pub record Block : Type 0 where
  pub first : ℕ
  pub place : ℕ

abbrev pub fetch_block : List ℕ → ℕ → Block
fetch_block kept i = record { first = get_or kept i 0; place = get_or kept (8 + i) 0 }

abbrev pub store_block : List ℕ → ℕ → Block
store_block kept i = record { first = get_or kept (16 + i) 0; place = get_or kept (24 + i) 0 }

-- a block that holds logical addresses: 2^31, which is none, stands for an entry that holds no block
abbrev pub Holding : Block → Type 0
Holding b = b.first < 2147483648

-- accesses of one kind to a block lead to its place. Stores to 0-511 are left out: low-address protection is the address's, not the
-- block's.
abbrev pub Leads : Guest → Host → Cpu → Bool → Block → Type 0
Leads g h c store b =
    (d : ℕ) → d < 2048 → b.first + d < 2147483648 → (store ≡ true → 512 ≤ b.first + d) → touch_of g h c store (b.first + d) ≡ Ok (b.place + d)

pub record Keeps (g : Guest) (h : Host) (c : Cpu) (kept : List ℕ) : Type 0 where
  pub fetch : (i : ℕ) → i < 8 → Leads g h c false (fetch_block kept i)
  pub store : (i : ℕ) → i < 8 → Leads g h c true (store_block kept i)

-- the blocks are kept whatever becomes of the frames that the guard does not name
abbrev pub Holds : List ℕ → Guest → Host → Cpu → List ℕ → Type 0
Holds guard g h c kept = (t : List ℕ) → Alike guard h.storage t → Keeps g (host h.designation t h.keys) c kept

-- a block lies in storage, and in one page
pub record Stands (storage : List ℕ) (b : Block) : Type 0 where
  pub aligned : b.first % 2048 ≡ 0
  pub placed : b.place % 2048 ≡ 0
  pub inside : b.place + 2048 ≤ length storage
  pub small : b.place < 2147483648

pub record Inside (storage kept : List ℕ) : Type 0 where
  pub fetch : (i : ℕ) → i < 8 → Holding (fetch_block kept i) → Stands storage (fetch_block kept i)
  pub store : (i : ℕ) → i < 8 → Holding (store_block kept i) → Stands storage (store_block kept i)

-- the key of a block's frame has the marks that accesses of the kind make
pub record HasMarks (keys : List ℕ) (store : Bool) (b : Block) : Type 0 where
  pub keyed : b.place / 4096 < length keys
  pub fetched : referenced (get_or keys (b.place / 4096) 0) ≡ get_or keys (b.place / 4096) 0
  pub stored : store ≡ true → changed (get_or keys (b.place / 4096) 0) ≡ get_or keys (b.place / 4096) 0

pub record Marks (keys kept : List ℕ) : Type 0 where
  pub fetch : (i : ℕ) → i < 8 → Holding (fetch_block kept i) → HasMarks keys false (fetch_block kept i)
  pub store : (i : ℕ) → i < 8 → Holding (store_block kept i) → HasMarks keys true (store_block kept i)

-- no block that is stored into lies in a frame that the guard names
abbrev pub Free : List ℕ → List ℕ → Type 0
Free guard kept = (i : ℕ) → i < 8 → Holding (store_block kept i) → get_or guard ((store_block kept i).place / 4096 % 64) 0 ≡ 0

-- PSWs of one kind that differ behind bit 17 alone: the condition code, the program mask, the addressing mode and the address guard no
-- access
pub record AccessAlike (psw later : Psw) : Type 0 where
  pub left : later.left / 16384 ≡ psw.left / 16384
  pub system370 : later.system370 ≡ psw.system370
