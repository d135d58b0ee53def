-- The host page behind a guest's prefix page, kept from one unit to the next: interruptions store there with no walk.
use Rattle.std.specs.Prelude.{ℕ, ◌+◌, ◌*◌, ◌/◌, ◌%◌, ◌≤◌, ◌<◌, ◌≡◌, false, List, length, get_or}
use Rattle.machine.specs.declared.Guest.{Guest}
use Rattle.machine.specs.Host.{Host, host, backing, referenced, changed}
use Rattle.guard.specs.Guarding.{Alike}
use Rattle.machine.specs.Walk.{at_frame}

-- a place that is kept: 2^31 stands for none
abbrev pub Placed : ℕ → Type 0
Placed area = area < 2147483648

-- the prefix page stands at this place whatever becomes of the frames that the guard does not name, it may be stored into, its marks
-- are made, and the guard does not name its frame
pub record Area (guard : List ℕ) (g : Guest) (h : Host) (area : ℕ) : Type 0 where
  pub behind : Placed area → (t : List ℕ) → Alike guard h.storage t → (a : ℕ) → a < 4096
      → backing g (host h.designation t h.keys) (g.prefix * 4096 + a) ≡ at_frame (area / 4096) false
  pub aligned : Placed area → area % 4096 ≡ 0
  pub inside : Placed area → area + 4096 ≤ length h.storage
  pub fetched : Placed area → referenced (get_or h.keys (area / 4096) 0) ≡ get_or h.keys (area / 4096) 0
  pub stored : Placed area → changed (get_or h.keys (area / 4096) 0) ≡ get_or h.keys (area / 4096) 0
  pub free : Placed area → get_or guard (area / 4096 % 64) 0 ≡ 0

-- it lies in storage
abbrev pub InStorage : List ℕ → ℕ → Type 0
InStorage storage area = Placed area → area + 4096 ≤ length storage
