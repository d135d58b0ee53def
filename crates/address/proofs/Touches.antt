-- What the code finds out page by page is what the definition says of a byte.
-- Assumes nothing.
use Rattle.std.specs.Prelude.{Err, Ok}
use Prim.Native.Nat.{ℕ, ◌+◌, ◌/◌, ◌%◌, ◌^◌, ◌≤◌, ◌<◌}
use native.Mathlib.Omega.{arith}
use mathlib.Core.Path.{◌≡◌, refl, ap, ◌∙◌}
use mathlib.Core.Bool.{Bool, true, false, cond, not, ◌&&◌}
use mathlib.Core.List.{List, []}
use lib.Dec.{ltb}
use lib.ListN.{length, get_or}
use borrow.Author.Tests.{ltb-true}
use Rattle.machine.specs.declared.Cpu.{Cpu}
use Rattle.machine.specs.declared.Failure.{Failure}
use Rattle.machine.specs.declared.Guest.{Guest}
use Rattle.machine.specs.Words.{byte_at, word_at}
use Rattle.machine.specs.Refusals.{frames_of}
use Rattle.machine.specs.Sizes.{page_bytes}
use Rattle.machine.specs.Entry.{extent_bytes}
use Rattle.machine.specs.Psw.{dat_on}
use Rattle.machine.specs.Failures.{protection, host_fault, exception_of, walk_exception}
use Rattle.machine.specs.Walk.{segment_index, past_segment_table, segment_invalid, segment_malformed, past_page_table, page_invalid, page_malformed, walk_page, TableEntry, Walk, at_frame}
use Rattle.machine.specs.Host.{Host, Cell, host, host_virtual, in_frame, backing, host_page, cell_of, view}
use Rattle.machine.specs.Addresses.{prefixed, format_good, byte_of, entry_of, guest_entry, settle, in_page, low_protected, real_page, access, reached, denied}
use Rattle.machine.proofs.Backing.{no_failure, tested, ends_at_page, page-in_storage}
use Rattle.machine.proofs.Tests.{on_either_arm}
use Rattle.laws.proofs.Pages.{prefixed_keeps_offset, backing-in_page, backing-in_storage}
use Rattle.storage.specs.Steps.{table_leads, segment_leads}
use Rattle.storage.proofs.Steps.{walk_in_steps}
use Rattle.address.specs.Touching.{Aligned, Inside, Small, Backed, entry_behind, settled, guest_protects, touched, placed, touched_by}

-- the keys play no part in the host page behind an address
pub backing_keyless : (g : Guest) (d : ℕ) (s k : List ℕ) (a : ℕ) → backing g (host d s k) a ≡ backing g (host d s []) a
unfolding backing host_page
backing_keyless g d s k a = refl

entry-behind : (g : Guest) (h : Host) (a : ℕ) → a % 4 ≡ 0 → (w : Walk) → backing g h a ≡ w → entry_of (view g h) a (cell_of h a w) ≡ entry_behind h.storage a w
unfolding entry_of cell_of entry_behind word_at byte_of view
entry-behind g h a aligned (Err f) e = refl
entry-behind g h a aligned (Ok page) e =
    ap Ok
    (omega (
      arith,
      after (a + 1) (in_frame page.frame a + 1) (omega arith) (omega arith),
      after (a + 2) (in_frame page.frame a + 2) (omega arith) (omega arith),
      after (a + 3) (in_frame page.frame a + 2 + 1) (omega arith) (omega arith),
    ))
  where
    after : (b q : ℕ) → a / 4096 ≡ b / 4096 → q ≡ in_frame page.frame b → byte_of (view g h b) ≡ byte_at h.storage q
    after b q page there = rw (backing-in_page g h a b e page, there)

pub guest-entry-behind : (g : Guest) (d : ℕ) (s k : List ℕ) (real : ℕ) → real % 4 ≡ 0
    → guest_entry g (view g (host d s k)) real ≡ entry_behind s (prefixed g real) (backing g (host d s []) (prefixed g real))
unfolding guest_entry view
guest-entry-behind g d s k real aligned =
    entry-behind g (host d s k) (prefixed g real) (omega (arith, prefixed_keeps_offset g real)) _ refl
    ∙ ap (entry_behind s (prefixed g real)) (backing_keyless g d s k (prefixed g real))

settled_is : (g : Guest) (h : Host) (store : Bool) (protects : ℕ → Bool) (a : ℕ) (w : Walk) → backing g h a ≡ w
    → touched_by g h (settle g store protects a (cell_of h a w)) ≡ settled g h.keys store protects a w
unfolding settle settled touched_by cell_of placed
settled_is g h store protects a (Err f) e = refl
settled_is g h store protects a (Ok page) e = by_tests (protects (get_or h.keys page.frame 0)) (store && page.protected)
  where
    by_tests : (p q : Bool)
        → touched_by g h
        (cond p (denied (exception_of protection))
        (cond q (denied (host_fault (host_virtual g a) protection)) (reached (record { absolute = a; byte = byte_at h.storage (in_frame page.frame a) }))))
        ≡ cond p (Err (exception_of protection))
        (cond q (Err (host_fault (host_virtual g a) protection)) (Ok (in_frame page.frame a)))
    by_tests true q = refl
    by_tests false true = refl
    by_tests false false = rw e

pub touched_is : (g : Guest) (h : Host) (c : Cpu) (store : Bool) (a : ℕ)
    → touched_by g h (access g (view g h) c store a)
    ≡ cond (store && low_protected c a) (Err (exception_of protection)) (touched g h c store a (real_page g (view g h) c a))
unfolding access in_page touched view touched_by
touched_is g h c store a = by_test (store && low_protected c a)
  where
    in_page_lem : (w : Walk) → touched_by g h (in_page g (view g h) c store a w) ≡ touched g h c store a w
    in_page_lem (Err f) = refl
    in_page_lem (Ok page) = settled_is g h store (guest_protects c store page.protected) _ _ refl

    by_test : (b : Bool) → touched_by g h (cond b (denied (exception_of protection)) (in_page g (view g h) c store a (real_page g (view g h) c a)))
        ≡ cond b (Err (exception_of protection)) (touched g h c store a (real_page g (view g h) c a))
    by_test true = refl
    by_test false = in_page_lem (real_page g (view g h) c a)

-- a host page behind an address lies in the storage
pub inside-backing : (g : Guest) (d : ℕ) (s : List ℕ) (a : ℕ) → Inside s (backing g (host d s []) a)
inside-backing g d s a = by_walk (backing g (host d s []) a) refl
  where
    by_walk : (w : Walk) → backing g (host d s []) a ≡ w → Inside s w
    by_walk (Err f) e = tt
    by_walk (Ok page) e = backing-in_storage g (host d s []) a e

-- the steps of a walk lead to aligned entries

pub aligned_table_leads : (fail : ℕ → Failure) (d a : ℕ) → Aligned (table_leads fail d a)
unfolding table_leads
aligned_table_leads fail d a = on_either_arm Aligned (past_segment_table d (segment_index a)) tt (omega arith)

pub aligned_segment_leads : (fail : ℕ → Failure) (index : ℕ) (e : TableEntry) → Aligned (segment_leads fail index e)
unfolding segment_leads
aligned_segment_leads fail index (Err f) = tt
aligned_segment_leads fail index (Ok e) =
    on_either_arm Aligned (segment_invalid e) tt (on_either_arm Aligned (segment_malformed e) tt (on_either_arm Aligned (past_page_table e index) tt (omega arith)))

-- the real page of an address of 32 bits

small-walk_page : (fail : ℕ → Failure) (e : TableEntry) → Small (walk_page fail e)
unfolding walk_page
small-walk_page fail (Err f) = tt
small-walk_page fail (Ok e) = on_either_arm Small (page_invalid e) tt (on_either_arm Small (page_malformed e) tt (omega arith))

pub small-real_page : (g : Guest) (v : ℕ → Cell) (c : Cpu) (a : ℕ) → a < 2 ^ 32 → Small (real_page g v c a)
unfolding real_page
small-real_page g v c a small =
    on_either_arm Small (not (dat_on c)) {u = at_frame (a / page_bytes) false} (omega arith)
    (on_either_arm Small (not (format_good c)) tt (rw walk_in_steps (small-walk_page (walk_exception a) _)))

-- what is found behind a guest absolute address
pub backed_backing : (g : Guest) (d : ℕ) (s k : List ℕ) (a : ℕ) → frames_of s ≤ length k → Backed g k a (backing g (host d s []) a)
unfolding backing host_page
backed_backing g d s k a each = by_walk (backing g (host d s []) a) refl
  where
    page : {f : ℕ} {p : Bool} → backing g (host d s []) a ≡ at_frame f p → (f < length k) × (f < 524288) × (a < extent_bytes g)
    page =
        tested (ltb a (extent_bytes g))
        (λ below e.
        let inside = page-in_storage s (host_virtual g a) _ e in
        let named = (ends_at_page d s (host_virtual g a) inside.0).1 in
        (omega arith, omega arith, ltb-true _ _ below))
        (λ _. no_failure)

    by_walk : (w : Walk) → backing g (host d s []) a ≡ w → Backed g k a w
    by_walk (Err f) e = tt
    by_walk (Ok page_) e = page e
