-- The interval timer's word by the one host page behind it: its four bytes stand on the prefix page.
-- Assumes nothing.
use Rattle.std.specs.Prelude.{Err, Ok}
use Rattle.std.proofs.Common.{◌≡◌, ℕ, zero, suc, ◌+◌, ◌*◌, ◌/◌, ◌%◌, ◌<◌, ◌≤◌, Bool, true, false, ltb, List, [], ◌∷◌, refl, ap, ◌∙◌, subst, add_assoc, arith, eq-eqb}
use lib.Seq.{sets}
use Rattle.machine.specs.declared.Failure.{Failure}
use Rattle.machine.specs.declared.Guest.{Guest}
use Rattle.machine.specs.declared.Numbers.{Numbers}
use Rattle.machine.specs.Words.{byte_at, word_at, word_bytes}
use Rattle.machine.specs.Entry.{extent_bytes}
use Rattle.machine.specs.Failures.{protection, host_fault}
use Rattle.machine.specs.Record.{guest_of}
use Rattle.machine.specs.Host.{Host, host, Located, host_virtual, in_frame, host_page, backing, cell_of, view, stored, byte_in, bytes_behind}
use Rattle.machine.specs.Addresses.{prefixed, reached, denied, settle, real_access, Accesses, all, stopped, and_then, accesses, up_from}
use Rattle.machine.specs.Interruptions.{with_bytes, bytes_of}
use Rattle.machine.specs.Run.{Machine, host_of, behind_of, word_accesses, word_in}
use Rattle.machine.proofs.Backing.{no_failure, tested, ends_at_page, page-in_storage}
use Rattle.laws.proofs.PageBytes.{bytes_from, word_of_bytes_from, stored-in_page}
use Rattle.laws.proofs.Pages.{backing-in_page, backing-in_storage}
use Rattle.interval.specs.Standing.{word_address, word_on, Short, Stands, InStorage}
use Rattle.machine.specs.Walk.{Walk, at_frame}

-- real block 0 is the prefix block
pub prefixed-low : (g : Guest) (a : ℕ) → a < 4096 → prefixed g a ≡ g.prefix * 4096 + a
unfolding prefixed
prefixed-low g a low = rw (eq-eqb (a / 4096) 0 (omega arith)) (omega arith)

in_frame-low : (g : Guest) (frame a : ℕ) → a < 4096 → in_frame frame (g.prefix * 4096 + a) ≡ frame * 4096 + a
in_frame-low g frame a low = omega arith

-- bytes behind which one host page lies, read in a storage
read-in_page : (behind : ℕ → Walk) {f : ℕ} {p : Bool} (s t : List ℕ) (a q n : ℕ) → in_frame f a ≡ q → a % 4096 + n < 4096
    → ((i : ℕ) → a ≤ i → i < a + n → behind i ≡ at_frame f p) → bytes_behind behind t (bytes_from s a q n) ≡ bytes_of (bytes_from t a q n)
unfolding bytes_from byte_in
read-in_page behind s t a q zero e fits page = refl
read-in_page behind {f} s t a q (suc n) e fits page =
    rw (page a (omega arith) (omega arith), e)
    (ap (λ later. byte_at t q ∷ later) (read-in_page behind s t (a + 1) (q + 1) n (omega (arith, e)) (omega arith) (λ i low high. page i (omega arith) (omega arith))))

-- the bytes of the word, accessed as for a store
abbrev pub word_by : Guest → Host → Accesses
word_by g h = accesses (real_access g (view g h) true) (up_from 80 4)

module _ (g : Guest) (h : Host) where
  -- the first byte is denied
  word-denied : (f : Failure) → real_access g (view g h) true 80 ≡ denied f → word_by g h ≡ stopped f
  unfolding accesses up_from and_then
  word-denied f e = rw e

  pub word_failed : (f : Failure) → backing g h (word_address g) ≡ Err f → word_by g h ≡ stopped f
  unfolding real_access settle view cell_of
  word_failed f failed = word-denied f (simp (prefixed-low g 80 (omega arith), failed))

  pub word-protected : (frame : ℕ) → backing g h (word_address g) ≡ at_frame frame true
      → word_by g h ≡ stopped (host_fault (host_virtual g (word_address g)) protection)
  unfolding real_access settle view cell_of
  word-protected frame backed = word-denied _ (simp (prefixed-low g 80 (omega arith), backed))

  module _ {frame : ℕ} (page : (i : ℕ) → i / 4096 ≡ g.prefix → backing g h i ≡ at_frame frame false) where
    real_reached : (a : ℕ) → a < 4096
        → real_access g (view g h) true a ≡ reached (record { absolute = g.prefix * 4096 + a; byte = byte_at h.storage (frame * 4096 + a) })
    unfolding real_access settle view cell_of
    real_reached a low = simp (prefixed-low g a low, page (g.prefix * 4096 + a) (omega arith), in_frame-low g frame a low)

    real_accesses : (a n : ℕ) → a + n ≤ 4096
        → accesses (real_access g (view g h) true) (up_from a n) ≡ all (bytes_from h.storage (g.prefix * 4096 + a) (frame * 4096 + a) n)
    unfolding bytes_from accesses up_from and_then
    real_accesses a zero fits = refl
    real_accesses a (suc n) fits =
        rw (
          accesses,
          real_reached a (omega arith),
          add_assoc (g.prefix * 4096) a 1,
          add_assoc (frame * 4096) a 1,
          real_accesses (a + 1) n (omega arith),
        )

  -- the page of the word may be stored into
  module _ {frame : ℕ} (open-page : backing g h (word_address g) ≡ at_frame frame false) where
    on_page : (i : ℕ) → i / 4096 ≡ g.prefix → backing g h i ≡ at_frame frame false
    on_page i same = backing-in_page g h _ i open-page (omega arith)

    abbrev pub word_places : List Located
    word_places = bytes_from h.storage (word_address g) (frame * 4096 + 80) 4

    pub word_open : word_by g h ≡ all word_places
    word_open = real_accesses on_page 80 4 (omega arith)

    pub word_read : (t : List ℕ) → word_at (bytes_behind (backing g h) t word_places) 0 ≡ word_at t (frame * 4096 + 80)
    word_read t =
        ap (λ bytes. word_at bytes 0)
        (read-in_page (backing g h) h.storage t (word_address g) (frame * 4096 + 80) 4 (in_frame-low g frame 80 (omega arith)) (omega arith) (λ i low high. on_page i (omega arith)))
        ∙ word_of_bytes_from t (word_address g) (frame * 4096 + 80)

    pub word_put : (w : ℕ) (t : List ℕ) → stored (backing g h) (with_bytes word_places (word_bytes w)) t ≡ sets t (frame * 4096 + 80) (word_bytes w)
    word_put w t =
        stored-in_page (backing g h) h.storage (word_address g) _ 4 (word_bytes w) t refl (omega arith) (λ i low high. on_page i (omega arith))
        ∙ ap (λ q. sets t q (word_bytes w)) (in_frame-low g frame 80 (omega arith))

-- the word stands where its host page says
pub word_stands : (n : Numbers) (m : Machine) (g : Guest) → guest_of m.description ≡ g
    → (page : Walk) → backing g (host_of n m) (word_address g) ≡ page → Stands n m (word_on g page)
unfolding word_accesses word_in behind_of
word_stands n m g here page found =
    subst (λ g. (page : Walk) → backing g (host_of n m) (word_address g) ≡ page → Stands n m (word_on g page)) here by_page page found
  where
    own : Guest
    own = guest_of m.description

    found_there : (frame : ℕ) (protected : Bool) → backing own (host_of n m) (word_address own) ≡ at_frame frame protected
        → Stands n m (word_on own (at_frame frame protected))
    found_there frame true e = word-protected own (host_of n m) frame e
    found_there frame false e = record {
      at = word_places own (host_of n m) e;
      reached = word_open own (host_of n m) e;
      read = λ after. word_read own (host_of n m) e after.storage;
      put = λ w s. word_put own (host_of n m) e w s;
    }

    by_page : (page : Walk) → backing own (host_of n m) (word_address own) ≡ page → Stands n m (word_on own page)
    by_page (Err f) e = word_failed own (host_of n m) f e
    by_page (Ok page) e = found_there page.frame page.protected e

-- the host page behind an address has a short frame number, and a word on it lies in the storage
module _ (g : Guest) (d : ℕ) (s : List ℕ) where
  short_page : (a : ℕ) {f : ℕ} {p : Bool} → backing g (host d s []) a ≡ at_frame f p → f < 524288
  unfolding backing host_page
  short_page a =
      tested (ltb a (extent_bytes g))
      (λ below e.
      let inside = page-in_storage s (host_virtual g a) _ e in
      let named = (ends_at_page d s (host_virtual g a) inside.0).1 in
      omega arith)
      (λ _. no_failure)

  pub short_backing : (a : ℕ) → Short (backing g (host d s []) a)
  short_backing a = by_walk (backing g (host d s []) a) refl
    where
      by_walk : (w : Walk) → backing g (host d s []) a ≡ w → Short w
      by_walk (Err f) e = tt
      by_walk (Ok page) e = short_page a e

  found-in_storage : (frame : ℕ) (protected : Bool) → backing g (host d s []) (word_address g) ≡ at_frame frame protected
      → InStorage s (word_on g (at_frame frame protected))
  found-in_storage frame true e = tt
  found-in_storage frame false e = let fits = backing-in_storage g (host d s []) (word_address g) e in omega arith

  pub word-in_storage : (w : Walk) → backing g (host d s []) (word_address g) ≡ w → InStorage s (word_on g w)
  word-in_storage (Err f) e = tt
  word-in_storage (Ok page) e = found-in_storage page.frame page.protected e
