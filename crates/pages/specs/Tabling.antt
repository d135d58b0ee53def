-- How the table of kept blocks changes: blocks are dropped, and one is entered.
use Rattle.std.specs.Prelude.{ℕ, ◌+◌, ◌*◌, ◌/◌, ◌%◌, ◌<◌, ◌≡◌, Bool, true, cond, List, ◌⊎◌, set}
use Rattle.machine.specs.declared.Guest.{Guest}
use Rattle.machine.specs.declared.Psw.{Psw}
use Rattle.machine.specs.declared.Registers.{Registers}
use Rattle.machine.specs.Host.{host, referenced, changed}
use Rattle.address.specs.Touching.{seen}
use Rattle.guard.specs.Guarding.{Wider}
use Rattle.blocks.specs.Keeping.{fetch_block, store_block, Holds, Inside, Marks, Free}

-- what a table and its guard promise goes over to a later table and guard
pub record Tables (designation : ℕ) (g : Guest) (psw : Psw) (control : Registers) (storage keys guard kept guard' kept' : List ℕ) : Type 0 where
  pub wider : Wider guard guard'
  pub holds : Holds guard g (host designation storage keys) (seen psw control) kept → Holds guard' g (host designation storage keys) (seen psw control) kept'
  pub inside : Inside storage kept → Inside storage kept'
  pub marks : Marks keys kept → Marks keys kept'
  pub free : Free guard kept → Free guard' kept'

-- a key has the marks that accesses of a kind make
abbrev pub Marked : Bool → ℕ → Type 0
Marked store key = (referenced key ≡ key) × (store ≡ true → changed key ≡ key)

-- some of the blocks that are stored into are dropped
pub record Fewer (kept kept' : List ℕ) : Type 0 where
  pub fetch : (i : ℕ) → i < 8 → fetch_block kept' i ≡ fetch_block kept i
  pub store : (i : ℕ) → i < 8 → (store_block kept' i ≡ store_block kept i) ⊎ ((store_block kept' i).first ≡ 2147483648)

-- the entry of an address, by the place of its first word
abbrev pub entry_at : Bool → ℕ → ℕ
entry_at store a = cond store 16 0 + a / 2048 % 8

-- the block of an address that leads to a place is entered
unfoldable pub entered : List ℕ → Bool → ℕ → ℕ → List ℕ
entered kept store a p = set (set kept (entry_at store a) (a / 2048 * 2048)) (8 + entry_at store a) (p / 2048 * 2048)
