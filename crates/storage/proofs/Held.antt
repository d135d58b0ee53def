-- The steps over an entry that may lie beyond the storage, whose word is tested first.
-- Assumes nothing.
use Rattle.std.specs.Prelude.{Err, Ok}
use Prim.Native.Nat.{ℕ, ◌%◌, ◌^◌, ◌<◌}
use native.Mathlib.Omega.{arith}
use mathlib.Core.Path.{◌≡◌, refl, ap, sym, ◌∙◌}
use mathlib.Core.Bool.{Bool, true, false, cond}
use mathlib.Core.List.{List}
use borrow.Author.Tests.{le-ltb}
use Rattle.machine.specs.Words.{word_at}
use Rattle.machine.specs.Failures.{addressing, host_fault}
use Rattle.machine.specs.Walk.{page_index, walk_page}
use Rattle.machine.specs.Host.{host_entry, in_storage}
use Rattle.storage.specs.Steps.{segment_leads, inside, held_entry}
use Rattle.storage.specs.Found.{stopped, leads_on, page_found}

-- a fault as a number says its code
module _ (a code : ℕ) (few : code < 2 ^ 32) where
  own_code : stopped code % 2 ^ 32 ≡ code
  own_code = omega arith

  leads-stopped : leads_on a (stopped code) ≡ Err (host_fault a code)
  unfolding leads_on
  leads-stopped = rw (le-ltb (stopped code) (2 ^ 32) (omega arith), own_code)

  page-stopped : page_found a (stopped code) ≡ Err (host_fault a code)
  unfolding page_found
  page-stopped = rw (le-ltb (stopped code) (2 ^ 32) (omega arith), own_code)

-- an entry that fails by its word fails with addressing beyond the storage
module _ (a e code : ℕ) (few : code < 2 ^ 32) where
  pub segment_held : (there : Bool) → segment_leads (host_fault a) (page_index a) (Ok e) ≡ Err (host_fault a code)
      → segment_leads (host_fault a) (page_index a) (cond there (Ok e) (Err (host_fault a addressing))) ≡ leads_on a (stopped (cond there code addressing))
  unfolding segment_leads
  segment_held true fails = fails ∙ sym (leads-stopped a code few)
  segment_held false fails = sym (leads-stopped a addressing (omega arith))

  pub page_held : (s : List ℕ) (there : Bool) → walk_page (host_fault a) (Ok e) ≡ Err (host_fault a code)
      → in_storage s a (walk_page (host_fault a) (cond there (Ok e) (Err (host_fault a addressing)))) ≡ page_found a (stopped (cond there code addressing))
  unfolding walk_page in_storage
  page_held s true fails = ap (in_storage s a) fails ∙ sym (page-stopped a code few)
  page_held s false fails = sym (page-stopped a addressing (omega arith))

-- the word that is read, or any number beyond the storage, makes the entry
pub held_read : (s : List ℕ) (a at other : ℕ) → held_entry s a at (cond (inside s at) (word_at s at) other) ≡ host_entry s a at
unfolding host_entry
held_read s a at other = by_test (inside s at)
  where
    by_test : (b : Bool) → cond b (Ok (cond b (word_at s at) other)) (Err (host_fault a addressing)) ≡ cond b (Ok (word_at s at)) (Err (host_fault a addressing))
    by_test true = refl
    by_test false = refl
