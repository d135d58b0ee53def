-- Entry by its parts: mode and prefix's length, then the guest's place.
-- Assumes nothing.
use Prim.Native.Nat.{ℕ, ◌+◌, ◌*◌, ◌≤◌, ◌<◌}
use native.Mathlib.Omega.{arith}
use mathlib.Core.Path.{◌≡◌}
use mathlib.Core.Bool.{Bool, true, false, ◌&&◌}
use mathlib.Core.List.{List}
use lib.Dec.{eqb, leb}
use lib.ListN.{length}
use Rattle.std.proofs.lemmas.Bool.Decides.{nat_tests}
use Rattle.machine.specs.declared.Guest.{Guest}
use Rattle.machine.specs.Words.{byte_at}
use Rattle.machine.specs.Record.{long_length, version_for, system370_mode, guest_of}
use Rattle.machine.specs.Entry.{mode_installed, extent_fits, prefix_fits, prefix_short, entry_good}
use Rattle.entry.specs.Modes.{xa_mode, mode_good}

-- entry by its parts: the tests of the mode and of the prefix's length in one
pub entry_parts : (g : Guest) → entry_good g ≡ (mode_good g.mode (eqb g.version 2) g.prefix && extent_fits g && prefix_fits g)
unfolding entry_good mode_installed prefix_short mode_good
entry_parts g = grind (arith, nat_tests)

-- entry of a guest whose mode and prefix are good
pub entry_rest : (g : Guest) (long good : Bool) → long ≡ eqb g.version 2 → good ≡ mode_good g.mode long g.prefix → good ≡ true
    → entry_good g ≡ (extent_fits g && prefix_fits g)
entry_rest g long good lengthy is so = rw (entry_parts g, ← lengthy, ← is, so)

-- and of one whose are not
pub entry_none : (g : Guest) (long good : Bool) → long ≡ eqb g.version 2 → good ≡ mode_good g.mode long g.prefix → good ≡ false → entry_good g ≡ false
entry_none g long good lengthy is so = rw (entry_parts g, ← lengthy, ← is, so)

-- of a guest that ends above 2 GiB
pub place_above : (g : Guest) → 32768 < g.origin + g.extent → (extent_fits g && prefix_fits g) ≡ false
unfolding extent_fits
place_above g above = grind (arith, nat_tests)

-- and of one that ends below: the prefixed page below the extent leaves no extent of 0
pub place_last : (g : Guest) → g.origin + g.extent ≤ 32768 → (extent_fits g && prefix_fits g) ≡ leb (g.prefix * 4096 + 4096) (g.extent * 65536)
unfolding extent_fits prefix_fits
place_last g below = grind (arith, nat_tests)

-- entry of a guest whose mode is 370-XA's
pub entry_xa : (g : Guest) → xa_mode g.mode ≡ true → entry_good g ≡ (extent_fits g && prefix_fits g)
unfolding mode_good
entry_xa g xa = rw (entry_parts g, xa)

-- 370-XA's mode is not System/370's
pub xa_mode_lem : (mode : ℕ) → xa_mode mode ≡ true → system370_mode mode ≡ false
xa_mode_lem mode xa = grind (arith, nat_tests)

-- the longer record is the one of version 2
pub long_record : (r : List ℕ) → byte_at r 2 ≡ version_for (length r) → eqb (length r) long_length ≡ eqb (guest_of r).version 2
unfolding guest_of
long_record r version = rw version (grind (arith, nat_tests))
