-- An interruption by page: the areas of every class stand in the prefix page, so one host page lies behind them all.
-- Assumes nothing.
use Rattle.std.specs.Prelude.{Err}
use Prim.Native.Nat.{ℕ, zero, suc, ◌+◌, ◌*◌, ◌/◌, ◌≤◌, ◌<◌}
use native.Mathlib.Nat.{suc_inj, add_assoc}
use native.Mathlib.Omega.{arith}
use mathlib.Core.Path.{◌≡◌, refl, ap, sym, ◌∙◌}
use mathlib.Core.Bool.{Bool, true, false, ◌&&◌}
use mathlib.Core.List.{List, [], ◌∷◌, ◌++◌}
use borrow.Author.Tests.{eq-eqb}
use lib.ListN.{length, length-append}
use lib.Seq.{sets}
use Rattle.machine.specs.declared.Cpu.{Cpu}
use Rattle.machine.specs.declared.Failure.{Failure}
use Rattle.machine.specs.declared.Guest.{Guest}
use Rattle.machine.specs.declared.Psw.{Psw}
use Rattle.machine.specs.Words.{byte_at, word_at}
use Rattle.machine.specs.Record.{psw_of, psw_bytes}
use Rattle.machine.specs.Psw.{with_psw, old_psw}
use Rattle.machine.specs.Failures.{protection, host_fault}
use Rattle.machine.specs.Host.{Host, Located, host_virtual, in_frame, places, backing, cell_of, view, referenced, changed, stored, mark_key, marked}
use Rattle.machine.specs.Addresses.{prefixed, reached, denied, settle, real_access, all, and_then, accesses, up_from, when_reached}
use Rattle.machine.specs.Outcomes.{faulted, Progress}
use Rattle.machine.specs.Interruptions.{with_bytes, bytes_of, Areas, interrupt}
use Rattle.machine.specs.Run.{marked_by}
use Rattle.laws.proofs.PageBytes.{bytes_from, joined, accesses-append, stored-append, marked_append, with_bytes-append, places-append, length-bytes_from, word_of_bytes_from, stored-in_page, marked-in_page, referenced_twice, changed_twice}
use Rattle.laws.proofs.Pages.{backing-in_page}
use Rattle.marks.specs.Marks.{mark_frame}
use Rattle.interruptions.specs.After.{event_of, cpu_after, storage_after, keys_after, Completes}
use Rattle.machine.specs.Walk.{at_frame}

-- bytes to be stored stay at their places
pub places-with_bytes : (ls : List Located) (bytes : List ℕ) → length ls ≡ length bytes → places (with_bytes ls bytes) ≡ places ls
unfolding with_bytes
places-with_bytes [] bytes e = refl
places-with_bytes (l ∷ ls) [] e = absurd (omega arith)
places-with_bytes (l ∷ ls) (b ∷ bytes) e = ap (λ more. l.absolute ∷ more) (places-with_bytes ls bytes (suc_inj e))

psw_of-bytes_from : (system370 : Bool) (s : List ℕ) (a q : ℕ) → psw_of system370 (bytes_of (bytes_from s a q 8)) 0 ≡ psw_of system370 s q
unfolding psw_of bytes_from word_at
psw_of-bytes_from system370 s a q =
    let past : q + 1 + 1 + 1 + 1 ≡ q + 4 = omega arith in
    let right = word_of_bytes_from s (a + 1 + 1 + 1 + 1) (q + 1 + 1 + 1 + 1) ∙ ap (word_at s) past in
    λ i. record { left = word_of_bytes_from s a q i; right = right i; system370 = system370 }

mark_frame_twice : (mark : ℕ → ℕ) → ((k : ℕ) → mark (mark k) ≡ mark k) → (frame : ℕ) (keys : List ℕ)
    → mark_frame mark frame (mark_frame mark frame keys) ≡ mark_frame mark frame keys
unfolding bytes_from marked mark_key
mark_frame_twice mark twice frame keys =
    marked-in_page mark twice (λ a. at_frame frame false) keys 0 0 2 keys (omega arith) (λ i low high. refl)

-- `n` bytes from real address `a` on, in the prefix page, a frame behind it
abbrev low_bytes : Guest → Host → ℕ → ℕ → ℕ → List Located
low_bytes g h frame a n = bytes_from h.storage (g.prefix * 4096 + a) (frame * 4096 + a) n

-- real block 0 is the prefix block
prefixed-low : (g : Guest) (a : ℕ) → a < 4096 → prefixed g a ≡ g.prefix * 4096 + a
unfolding prefixed
prefixed-low g a low = rw (eq-eqb (a / 4096) 0 (omega arith)) (omega arith)

in_frame-low : (g : Guest) (frame a : ℕ) → a < 4096 → in_frame frame (g.prefix * 4096 + a) ≡ frame * 4096 + a
in_frame-low g frame a low = omega arith

module _ (g : Guest) (h : Host) {frame : ℕ} {protected : Bool}
    (page : (i : ℕ) → i / 4096 ≡ g.prefix → backing g h i ≡ at_frame frame protected) where
  real_reached : (store : Bool) → (store && protected) ≡ false → (a : ℕ) → a < 4096
      → real_access g (view g h) store a ≡ reached (record { absolute = g.prefix * 4096 + a; byte = byte_at h.storage (frame * 4096 + a) })
  unfolding real_access settle view cell_of
  real_reached store writable a low = simp (prefixed-low g a low, page (g.prefix * 4096 + a) (omega arith), writable, in_frame-low g frame a low)

  pub real_accesses : (store : Bool) → (store && protected) ≡ false → (a n : ℕ) → a + n ≤ 4096
      → accesses (real_access g (view g h) store) (up_from a n) ≡ all (bytes_from h.storage (g.prefix * 4096 + a) (frame * 4096 + a) n)
  unfolding bytes_from accesses up_from and_then
  real_accesses store writable a zero fits = refl
  real_accesses store writable a (suc n) fits =
      rw (
        accesses,
        real_reached store writable a (omega arith),
        add_assoc (g.prefix * 4096) a 1,
        add_assoc (frame * 4096) a 1,
        real_accesses store writable (a + 1) n (omega arith),
      )

  stored_low : (a n : ℕ) (bytes t : List ℕ) → length bytes ≡ n → a + n ≤ 4096
      → stored (backing g h) (with_bytes (low_bytes g h frame a n) bytes) t ≡ sets t (frame * 4096 + a) bytes
  unfolding bytes_from with_bytes stored
  stored_low a zero [] t e fits = refl
  stored_low a zero (b ∷ bytes) t e fits = absurd (omega arith)
  stored_low a (suc n) bytes t e fits =
      stored-in_page (backing g h) h.storage _ _ (suc n) bytes t e (omega arith) (λ i low high. page i (omega arith))
      ∙ ap (λ q. sets t q bytes) (in_frame-low g frame a (omega arith))

  marked-low : (mark : ℕ → ℕ) → ((k : ℕ) → mark (mark k) ≡ mark k) → (a n : ℕ) → 0 < n → a + n ≤ 4096 → (keys : List ℕ)
      → marked (backing g h) mark (places (low_bytes g h frame a n)) keys ≡ mark_frame mark frame keys
  unfolding mark_key
  marked-low mark twice a n some fits keys =
      marked-in_page mark twice (backing g h) h.storage _ _ n keys some (λ i low high. page i (omega arith))

  -- a frame that is marked stays as it is, however many of its bytes are marked again
  marked_again : (mark : ℕ → ℕ) → ((k : ℕ) → mark (mark k) ≡ mark k) → (a n : ℕ) → a + n ≤ 4096 → (keys : List ℕ)
      → marked (backing g h) mark (places (low_bytes g h frame a n)) (mark_frame mark frame keys) ≡ mark_frame mark frame keys
  unfolding bytes_from marked
  marked_again mark twice a zero fits keys = refl
  marked_again mark twice a (suc n) fits keys =
      marked-low mark twice a (suc n) (omega arith) fits (mark_frame mark frame keys) ∙ mark_frame_twice mark twice frame keys

module _ (h : Host) (x : Progress) (viewed : x.view ≡ view x.guest h) (c : Cpu) (areas : Areas) (code : ℕ) (fields : List ℕ)
    (oldFits : areas.old + 8 ≤ 4096) (codeFits : areas.code + length fields ≤ 4096) (newFits : areas.new + 8 ≤ 4096) where
  -- the first byte is denied
  interrupt-denied : (f : Failure) → real_access x.guest (view x.guest h) true areas.old ≡ denied f → interrupt x c areas code fields ≡ faulted f
  unfolding interrupt when_reached accesses up_from and_then
  interrupt-denied f e = rw (viewed, e)

  pub interrupt_failed : (f : Failure) → backing x.guest h (x.guest.prefix * 4096 + areas.old) ≡ Err f → interrupt x c areas code fields ≡ faulted f
  unfolding real_access settle view cell_of
  interrupt_failed f failed = interrupt-denied f (simp (prefixed-low x.guest areas.old (omega arith), failed))

  pub interrupt-protected : (frame : ℕ) → backing x.guest h (x.guest.prefix * 4096 + areas.old) ≡ at_frame frame true
      → interrupt x c areas code fields ≡ faulted (host_fault (host_virtual x.guest (x.guest.prefix * 4096 + areas.old)) protection)
  unfolding real_access settle view cell_of
  interrupt-protected frame backed = interrupt-denied _ (simp (prefixed-low x.guest areas.old (omega arith), backed))

  -- the old PSW and the code fields are stored, the new PSW is fetched, and their frame is marked after the text's
  pub interrupt_open : (frame : ℕ) → backing x.guest h (x.guest.prefix * 4096 + areas.old) ≡ at_frame frame false
      → Completes (backing x.guest h) (interrupt x c areas code fields)
      (with_psw c (psw_of c.psw.system370 h.storage (frame * 4096 + areas.new)))
      (λ t. sets (sets t (frame * 4096 + areas.old) (psw_bytes (old_psw c x.text.ilc code))) (frame * 4096 + areas.code) fields)
      (λ k. mark_frame changed frame (mark_frame referenced frame (marked (backing x.guest h) referenced x.fetched k)))
  unfolding interrupt when_reached joined event_of cpu_after storage_after keys_after marked_by
  interrupt_open frame backed =
      rw (
        viewed,
        accesses-append,
        real_accesses x.guest h page true refl areas.old 8 oldFits,
        real_accesses x.guest h page true refl areas.code (length fields) codeFits,
        real_accesses x.guest h page false refl areas.new 8 newFits,
      )
      (record {
        event = refl;
        cpu = λ before. ap (with_psw c) (psw_of-bytes_from c.psw.system370 h.storage _ _);
        storage = λ t.
            rw (
              with_bytes-append old beside (psw_bytes kept) fields (sym (length-bytes_from h.storage _ _ 8)),
              stored-append,
              stored_low x.guest h page areas.old 8 (psw_bytes kept) t refl oldFits,
            )
            (stored_low x.guest h page areas.code (length fields) fields _ refl codeFits);
        keys = λ k.
            rw (
              marked_append,
              marked_append,
              marked-low x.guest h page referenced referenced_twice areas.new 8 (omega arith) newFits,
              marks referenced referenced_twice,
              mark_frame_twice referenced referenced_twice,
            )
            (marks changed changed_twice _);
      })
    where
      page : (i : ℕ) → i / 4096 ≡ x.guest.prefix → backing x.guest h i ≡ at_frame frame false
      page i same = backing-in_page x.guest h _ i backed (omega arith)

      old : List Located
      old = low_bytes x.guest h frame areas.old 8

      beside : List Located
      beside = low_bytes x.guest h frame areas.code (length fields)

      kept : Psw
      kept = old_psw c x.text.ilc code

      count : length (old ++ beside) ≡ length (psw_bytes kept ++ fields)
      count = simp (length-append, length-bytes_from)

      marks : (mark : ℕ → ℕ) → ((k : ℕ) → mark (mark k) ≡ mark k) → (keys : List ℕ)
          → marked (backing x.guest h) mark (places (with_bytes (old ++ beside) (psw_bytes kept ++ fields))) keys ≡ mark_frame mark frame keys
      marks mark twice keys =
          rw (
            places-with_bytes (old ++ beside) (psw_bytes kept ++ fields) count,
            places-append old beside,
            marked_append,
            marked-low x.guest h page mark twice areas.old 8 (omega arith) oldFits,
          )
          (marked_again x.guest h page mark twice areas.code (length fields) codeFits keys)
