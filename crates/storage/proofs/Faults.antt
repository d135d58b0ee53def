-- A host walk that fails does so with a fault of its address, with a code of few bits.
-- Assumes nothing.
use Rattle.std.specs.Prelude.{Err, Ok}
use Prim.Native.Nat.{ℕ, ◌+◌, ◌<◌}
use native.Mathlib.Omega.{arith}
use mathlib.Core.Path.{◌≡◌, refl, sym, subst}
use mathlib.Core.Bool.{Bool, true, false, cond}
use mathlib.Core.List.{List, []}
use lib.Dec.{leb, ltb}
use lib.ListN.{length}
use Rattle.machine.specs.declared.Failure.{Failure}
use Rattle.machine.specs.Refusals.{frames_of}
use Rattle.machine.specs.Failures.{addressing, host_fault}
use Rattle.machine.specs.Walk.{page_index, segment_index, past_segment_table, segment_invalid, segment_malformed, past_page_table, page_invalid, page_malformed, walk_page, TableEntry, Walk}
use Rattle.machine.specs.Host.{host, host_entry, in_storage, host_page}
use Rattle.storage.specs.Steps.{read_through, table_leads, segment_leads}
use Rattle.storage.proofs.Steps.{walk_in_steps}

-- a failure is a host fault of this address, with a code of few bits
pub record Fault (v : ℕ) (f : Failure) : Type 0 where
  pub code : ℕ
  pub is : f ≡ host_fault v code
  pub small : code < 32

abbrev OwnEntry : ℕ → TableEntry → Type 0
OwnEntry v (Ok x) = Unit {0}
OwnEntry v (Err f) = Fault v f

abbrev pub OwnWalk : ℕ → Walk → Type 0
OwnWalk v (Ok page) = Unit {0}
OwnWalk v (Err f) = Fault v f

either_entry : (v : ℕ) (b : Bool) (x y : TableEntry) → OwnEntry v x → OwnEntry v y → OwnEntry v (cond b x y)
either_entry v true x y p q = p
either_entry v false x y p q = q

either_walk : (v : ℕ) (b : Bool) (x y : Walk) → OwnWalk v x → OwnWalk v y → OwnWalk v (cond b x y)
either_walk v true x y p q = p
either_walk v false x y p q = q

module _ (s : List ℕ) (d v : ℕ) where
  fault : (code : ℕ) → code < 32 → Fault v (host_fault v code)
  fault code small = record { code = code; is = refl; small = small }

  own_entry : (at : ℕ) → OwnEntry v (host_entry s v at)
  unfolding host_entry
  own_entry at = either_entry v (leb (at + 4) (length s)) _ _ tt (fault addressing (omega arith))

  own_read : (e : TableEntry) → OwnEntry v e → OwnEntry v (read_through (host_entry s v) e)
  unfolding read_through
  own_read (Ok at) own = own_entry at
  own_read (Err f) own = own

  own_table : OwnEntry v (table_leads (host_fault v) d v)
  unfolding table_leads
  own_table = either_entry v (past_segment_table d (segment_index v)) _ _ (fault 16 (omega arith)) tt

  own_segment : (index : ℕ) (e : TableEntry) → OwnEntry v e → OwnEntry v (segment_leads (host_fault v) index e)
  unfolding segment_leads
  own_segment index (Err f) own = own
  own_segment index (Ok e) own =
      either_entry v (segment_invalid e) _ _ (fault 16 (omega arith))
      (either_entry v (segment_malformed e) _ _ (fault 18 (omega arith)) (either_entry v (past_page_table e index) _ _ (fault 17 (omega arith)) tt))

  own_page : (e : TableEntry) → OwnEntry v e → OwnWalk v (walk_page (host_fault v) e)
  unfolding walk_page
  own_page (Err f) own = own
  own_page (Ok e) own =
      either_walk v (page_invalid e) _ _ (fault 17 (omega arith)) (either_walk v (page_malformed e) _ _ (fault 18 (omega arith)) tt)

  own_in_storage : (w : Walk) → OwnWalk v w → OwnWalk v (in_storage s v w)
  unfolding in_storage
  own_in_storage (Err f) own = own
  own_in_storage (Ok page) own = either_walk v (ltb page.frame (frames_of s)) _ _ own (fault addressing (omega arith))

  pub own_host-page : OwnWalk v (host_page (host d s []) v)
  unfolding host_page
  own_host-page =
      own_in_storage _
      (subst (OwnWalk v) (sym (walk_in_steps (host_entry s v) (host_fault v) d v))
      (own_page _ (own_read _ (own_segment (page_index v) _ (own_read _ own_table)))))
