-- What entry says of a guest that it lets through.
-- Assumes nothing.
use Prim.Native.Nat.{ℕ, ◌+◌, ◌*◌, ◌≤◌, ◌<◌}
use mathlib.Core.Path.{◌≡◌, refl}
use mathlib.Core.Bool.{Bool, true, false, not, ◌&&◌, ◌||◌}
use lib.Dec.{eqb, leb, ltb}
use borrow.Author.Tests.{eqb-true, leb-true, ltb-true}
use Rattle.machine.specs.declared.Guest.{Guest}
use Rattle.machine.specs.Words.{bits, bit}
use Rattle.machine.specs.Record.{system370_mode}
use Rattle.machine.specs.Entry.{mode_installed, extent_fits, prefix_fits, prefix_short, entry_good}

both : (a b : Bool) → (a && b) ≡ true → (a ≡ true) × (b ≡ true)
both true b e = (refl, e)
both false b e = (e, (cc))

-- the tests of entry
tests : (g : Guest) → entry_good g ≡ true → (mode_installed g ≡ true) × (extent_fits g ≡ true) × (prefix_fits g ≡ true) × (prefix_short g ≡ true)
unfolding entry_good
tests g good =
    let last = both (mode_installed g && extent_fits g && prefix_fits g) (prefix_short g) good in
    let third = both (mode_installed g && extent_fits g) (prefix_fits g) last.0 in
    let second = both (mode_installed g) (extent_fits g) third.0 in
    (second.0, second.1, third.1, last.1)

-- origin and extent lie within the host's 2 GiB, the extent is not empty, and the prefixed 4 KiB lie below it
pub record Placed (g : Guest) : Type 0 where
  pub sum : g.origin + g.extent ≤ 32768
  pub full : 0 < g.extent
  pub prefixed : g.prefix * 4096 + 4096 ≤ g.extent * 65536

pub entry-placed : (g : Guest) → entry_good g ≡ true → Placed g
unfolding extent_fits prefix_fits
entry-placed g good =
    let outer = tests g good in
    let fits : extent_fits g ≡ true = outer.1 in
    let below = leb g.origin 32767 in
    let full = ltb 0 g.extent in
    let inner : ((below && full) ≡ true) × (leb (g.origin + g.extent) 32768 ≡ true) = both (below && full) (leb (g.origin + g.extent) 32768) fits in
    record {
      sum = leb-true (g.origin + g.extent) 32768 inner.1;
      full = ltb-true 0 g.extent (both below full inner.0).1;
      prefixed = leb-true (g.prefix * 4096 + 4096) (g.extent * 65536) outer.2;
    }

-- a System/370 guest that entry lets through has a record of version 2
pub entry_version : (g : Guest) → entry_good g ≡ true → system370_mode g.mode ≡ true → g.version ≡ 2
unfolding mode_installed
entry_version g good mode =
    eqb-true g.version 2
    (installed (bits 8 4 5 g.mode) (eqb-true (bits 8 4 5 g.mode) 1 mode) (both _ (not (bit 8 6 g.mode)) (tests g good).0).0)
  where
    installed : (k : ℕ) → k ≡ 1 → (eqb k 2 || (eqb k 1 && eqb g.version 2)) ≡ true → eqb g.version 2 ≡ true
    installed k one h = rw one at h
