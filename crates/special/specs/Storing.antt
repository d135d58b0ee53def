-- Bytes that a done unit has stored on a kept block.
use Rattle.std.specs.Prelude.{ℕ, ◌/◌, ◌%◌, ◌≤◌, ◌≡◌, List, length}
use Rattle.std.proofs.lemmas.List.Edits.{sets}
use Rattle.machine.specs.declared.Psw.{Psw}
use Rattle.blocks.specs.Keeping.{store_block}
use Rattle.places.specs.Placing.{Spot}
use Rattle.special.specs.declared.Done.{Done}

-- the bytes stand at the address, behind the addresses of low-address protection, and the unit leaves this PSW
pub record Stored (kept : List ℕ) (next : Psw) (a : ℕ) (bytes : List ℕ) (d : Done) (storage storage' : List ℕ) : Type 0 where
  pub place : ℕ
  pub spot : Spot (store_block kept (a / 2048 % 8)) a (length bytes) place
  pub high : 512 ≤ a
  pub put : storage' ≡ sets storage place bytes
  pub left : d.left ≡ next.left
  pub right : d.right ≡ next.right
