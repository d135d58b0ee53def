-- What a call that is done does to the pages of the extent: the others have the entries that they had, and its own page has the new one.
use Prim.Native.Nat.{ℕ, ◌%◌, ◌^◌, ◌<◌}
use native.Mathlib.Omega.{arith}
use mathlib.Core.Path.{◌≡◌, sym}
use mathlib.Core.Bool.{Bool, true, false}
use mathlib.Core.List.{List}
use Rattle.machine.specs.Record.{guest_of}
use Rattle.machine.specs.Walk.{frame_of, page_invalid, page_protected}
use Rattle.machine.specs.Frames.{page_place, page_of}
use Rattle.desk.specs.declared.Change.{Change}
use Rattle.desk.specs.declared.Change.TheVariants.{Add, Remove, Protect}
use Rattle.desk.specs.Reach.{page_reached, page_valid}
use Rattle.desk.specs.Extent.{first_page, page_count}
use Rattle.desk.specs.Desk.{entry_after, desk_of}
use Rattle.desk.specs.Theorems.{OthersStay, CallsDoWhatTheySay}
use Rattle.desk.proofs.Tables.{page_is_valid, SameTables}
use Rattle.desk.proofs.Entries.{ValidEntry, added-entry, removed_entry, protected-entry}
use Rattle.desk.proofs.Changes.{host_of, few_frames, Happened, done_of}
use Rattle.desk.proofs.Written.{others_written, reach_written, place_written, entry_written, valid_written, invalid_written}

module _ (c : Change) (r : List ℕ) (d : ℕ) (s k : List ℕ) (p number : ℕ) (h : Happened c r d s k p number) where
  abbrev after : List ℕ
  after = (desk_of c r d s k p number).storage

  -- every other page has its entries as before
  pub others_same : (q : ℕ) → q < page_count (guest_of r) → (q ≡ p → ⊥) → SameTables d s after (host_of r q)
  others_same q below other =
      rw h.stored (others_written c (first_page (guest_of r)) (page_count (guest_of r)) d s p h.inside h.reached h.alone h.no_segment q below other)

  -- every page is in reach as before, at its place

  pub same_reach : (q : ℕ) → q < page_count (guest_of r) → page_reached d s (host_of r q) ≡ page_reached d after (host_of r q)
  same_reach q below =
      rw h.stored (reach_written c (first_page (guest_of r)) (page_count (guest_of r)) d s p h.inside h.reached h.alone h.no_segment q below)

  pub same_place : (q : ℕ) → q < page_count (guest_of r) → page_reached d s (host_of r q) ≡ true → page_place d s (host_of r q) ≡ page_place d after (host_of r q)
  same_place q below near =
      rw h.stored (place_written c (first_page (guest_of r)) (page_count (guest_of r)) d s p h.inside h.reached h.alone h.no_segment q below near)

  -- the page of the call has the new entry
  pub own_entry : page_of d after (host_of r p) ≡ entry_after c (page_of d s (host_of r p)) % 2 ^ 32
  own_entry =
      rw h.stored (entry_written c (first_page (guest_of r)) (page_count (guest_of r)) d s p h.inside h.reached h.alone h.no_segment)

  pub others_stay : OthersStay c r d s k p number
  others_stay = record {
    reach = λ q below. sym (same_reach q below);
    place = λ q below near. sym (same_place q below near);
    entry = λ q below other near. sym ((others_same q below other).entry near);
    valid = λ q below other. sym (others_same q below other).valid;
  }

  own_valid : (frame : ℕ) (guarded : Bool) → ValidEntry (entry_after c (page_of d s (host_of r p)) % 2 ^ 32) frame guarded
      → (page_valid d after (host_of r p) ≡ true)
      × ((frame_of (page_of d after (host_of r p)) ≡ frame) × (page_protected (page_of d after (host_of r p)) ≡ guarded))
  own_valid frame guarded e =
      rw h.stored
      (valid_written c (first_page (guest_of r)) (page_count (guest_of r)) d s p h.inside h.reached h.alone h.no_segment frame guarded e)

  own_invalid : page_invalid (entry_after c (page_of d s (host_of r p)) % 2 ^ 32) ≡ true → page_valid d after (host_of r p) ≡ false
  own_invalid e =
      rw h.stored (invalid_written c (first_page (guest_of r)) (page_count (guest_of r)) d s p h.inside h.reached h.alone h.no_segment e)

pub calls_do_what_they_say : CallsDoWhatTheySay
calls_do_what_they_say = record {
  others = λ c r d s k p number done. others_stay c r d s k p number (done_of c r d s k p number done);
  inside = λ c r d s k p number done. (done_of c r d s k p number done).inside;
  adding = λ frame r d s k p number done.
      let h = done_of (Add frame) r d s k p number done in
      let small : frame < 2 ^ 19 = omega (arith, h.fits.1, few_frames r s k h.right) in
      (h.fits.0, own_valid (Add frame) r d s k p number h frame false (added-entry frame _ small));
  removing = λ r d s k p number done.
      let h = done_of Remove r d s k p number done in
      let removed = removed_entry _ (page_is_valid d s (host_of r p) h.fits).valid in
      (h.fits, (own_invalid Remove r d s k p number h removed.0, rw (own_entry Remove r d s k p number h) removed.1));
  protecting = λ r d s k p number done.
      let h = done_of Protect r d s k p number done in
      let before = page_is_valid d s (host_of r p) h.fits in
      (h.fits, own_valid Protect r d s k p number h _ true (protected-entry _ before.valid before.formed));
}
