-- The slips that document 01 names are not in the definition.
-- Assumes nothing.
use Rattle.std.specs.Prelude.{Err, Ok}
use Prim.Native.Nat.{ℕ, zero, suc, ◌+◌, ◌<◌}
use native.Mathlib.Omega.{arith}
use native.Mathlib.Nat.{add-zero}
use mathlib.Core.Path.{◌≡◌, refl, ap}
use mathlib.Core.Bool.{true}
use mathlib.Core.List.{List, [], ◌∷◌}
use lib.ListN.{length}
use borrow.Author.Tests.{lt-ltb, le-ltb}
use Rattle.machine.specs.declared.Cpu.{Cpu}
use Rattle.machine.specs.declared.Failure.{Failure}
use Rattle.machine.specs.declared.Guest.{Guest}
use Rattle.machine.specs.Words.{byte_at, word_at}
use Rattle.machine.specs.Entry.{extent_bytes}
use Rattle.machine.specs.Psw.{wrap}
use Rattle.machine.specs.Time.{guest_clock, comparator_due}
use Rattle.machine.specs.Host.{host, host_page, backing, in_frame, cell_of, view}
use Rattle.machine.specs.Addresses.{prefixed, byte_of, entry_of, guest_entry, Access, reached, denied, access, stopped, and_then, accesses, span, when_reached}
use Rattle.machine.specs.Execute.{storing}
use Rattle.machine.specs.Theorems.{SlipsRuledOut}
use Rattle.machine.specs.Walk.{Walk}

-- where one byte of a span is denied, the accesses stop
stopped_somewhere : (one : ℕ → Access) (c : Cpu) (n a i : ℕ) (f : Failure) → i < n → one (wrap c (a + i)) ≡ denied f
    → (first : Failure) × (accesses one (span c a n) ≡ stopped first)
unfolding accesses span and_then
stopped_somewhere one c zero a i f h e = absurd (omega arith)
stopped_somewhere one c (suc n) a zero f h e = (f, rw (rw add-zero at e))
stopped_somewhere one c (suc n) a (suc i) f h e = by_first (one (wrap c a)) (stopped_somewhere one c n (a + 1) i f (omega arith) (rw shift e))
  where
    shift : a + 1 + i ≡ a + suc i
    shift = omega arith

    by_first : (x : Access) → (first : Failure) × (accesses one (span c (a + 1) n) ≡ stopped first)
        → (first : Failure) × (and_then x (accesses one (span c (a + 1) n)) ≡ stopped first)
    by_first (denied d) later = (d, refl)
    by_first (reached l) later = (later.0, ap (and_then (reached l)) later.1)

-- the byte and the failure of a cell do not depend on the keys

module _ (g : Guest) (d : ℕ) (s k₁ k₂ : List ℕ) where
  same_byte : (a : ℕ) (w : Walk) → byte_of (cell_of (host d s k₁) a w) ≡ byte_of (cell_of (host d s k₂) a w)
  unfolding byte_of cell_of
  same_byte a (Err f) = refl
  same_byte a (Ok page) = refl

  same_entry : (a : ℕ) (w : Walk)
      → entry_of (view g (host d s k₁)) a (cell_of (host d s k₁) a w) ≡ entry_of (view g (host d s k₂)) a (cell_of (host d s k₂) a w)
  unfolding entry_of cell_of view backing host_page
  same_entry a (Err f) = refl
  same_entry a (Ok page) =
      λ i. Ok (word_at (byte_at s (in_frame page.frame a) ∷ byte (a + 1) i ∷ byte (a + 2) i ∷ byte (a + 3) i ∷ []) 0)
    where
      byte : (b : ℕ) → byte_of (view g (host d s k₁) b) ≡ byte_of (view g (host d s k₂) b)
      byte b = same_byte b (backing g (host d s k₁) b)

pub slips_ruled_out : SlipsRuledOut
unfolding backing host_page comparator_due storing when_reached guest_entry view
slips_ruled_out = record {
  every_byte_is_checked =
      λ x a i bytes c f h e.
      let stop = stopped_somewhere (access x.guest x.view x.cpu true) x.cpu (length bytes) a i f h e in
      (stop.0, rw stop.1);
  extent_before_origin = λ g h a below. rw (lt-ltb a (extent_bytes g) below);
  past_the_extent = λ g h a past. rw (le-ltb a (extent_bytes g) past);
  clocks_are_unsigned = λ g clock later. lt-ltb g.comparator (guest_clock g clock) later;
  table_reads_ignore_keys = λ g d s k₁ k₂ real. same_entry g d s k₁ k₂ (prefixed g real) (backing g (host d s k₁) (prefixed g real));
}
