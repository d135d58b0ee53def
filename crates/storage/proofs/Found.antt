-- What was found of the host's entries leads to the host page.
-- Assumes nothing.
use Rattle.std.specs.Prelude.{Err}
use Prim.Native.Nat.{ℕ, ◌%◌, ◌^◌, ◌≤◌, ◌<◌}
use native.Mathlib.Omega.{arith}
use mathlib.Core.Path.{◌≡◌, refl, ap, subst, ◌∙◌}
use mathlib.Core.Bool.{false}
use mathlib.Core.List.{List, []}
use borrow.Author.Tests.{lt-ltb, le-ltb}
use Rattle.machine.specs.Refusals.{frames_of}
use Rattle.machine.specs.Failures.{host_fault}
use Rattle.machine.specs.Walk.{segment_index, segment_entry_at, past_segment_table, page_index, page_entry_at, past_page_table, frame_of, page_protected, walk_page, at_frame}
use Rattle.machine.specs.Host.{host, host_entry, in_storage, host_page}
use Rattle.machine.proofs.Backing.{page-in_storage}
use Rattle.storage.specs.Steps.{read_through, table_leads}
use Rattle.storage.specs.Found.{leads_on, page_found, Serves}
use Rattle.storage.proofs.Faults.{OwnWalk, own_host-page}
use Rattle.storage.proofs.Steps.{walk_in_steps}

pub page_served : (d : ℕ) (s : List ℕ) (a w : ℕ) → a < 2 ^ 32 → Serves d s (segment_index a) w
    → host_page (host d s []) a ≡ in_storage s a (walk_page (host_fault a) (read_through (host_entry s a) (leads_on a w)))
unfolding host_page
page_served d s a w small serves = rw (walk_in_steps, serves a small refl)

pub table-read : (d : ℕ) (s : List ℕ) (a : ℕ) → past_segment_table d (segment_index a) ≡ false
    → read_through (host_entry s a) (table_leads (host_fault a) d a) ≡ host_entry s a (segment_entry_at d (segment_index a))
unfolding read_through table_leads
table-read d s a within = rw within

pub segment-read : (s : List ℕ) (a w : ℕ) → w < 2 ^ 32 → past_page_table w (page_index a) ≡ false
    → read_through (host_entry s a) (leads_on a w) ≡ host_entry s a (page_entry_at w (page_index a))
unfolding read_through leads_on
segment-read s a w small within = rw (lt-ltb w (2 ^ 32) small, within)

-- an entry that was found for the segment serves the address
pub served_page : (d : ℕ) (s : List ℕ) (v index w p : ℕ) → index ≡ segment_index v → Serves d s index w
    → ((e : ℕ) → Serves e s (segment_index v) w → host_page (host e s []) v ≡ page_found v p) → host_page (host d s []) v ≡ page_found v p
served_page d s v index w p own serves told = told d (subst (λ i. Serves d s i w) own serves)

-- the host page that was found for a host virtual address
module _ (d : ℕ) (s : List ℕ) (v p : ℕ) (found : host_page (host d s []) v ≡ page_found v p) where
  pub found-page : p < 2 ^ 32 → host_page (host d s []) v ≡ at_frame (frame_of p) (page_protected p)
  unfolding page_found
  found-page low = found ∙ rw (lt-ltb p (2 ^ 32) low)

  pub found-in_storage : p < 2 ^ 32 → frame_of p < frames_of s
  unfolding host_page
  found-in_storage low = (page-in_storage s v _ (found-page low)).1

  pub found-stopped : 2 ^ 32 ≤ p → host_page (host d s []) v ≡ Err (host_fault v (p % 2 ^ 32))
  unfolding page_found
  found-stopped high = found ∙ rw (le-ltb p (2 ^ 32) high)

  pub found_code : 2 ^ 32 ≤ p → p % 2 ^ 32 < 32
  found_code high =
      let own = subst (OwnWalk v) (found-stopped high) (own_host-page s d v) in
      let same : p % 2 ^ 32 ≡ own.code = ap (λ f. f.code) own.is in
      omega (arith, own.small)
