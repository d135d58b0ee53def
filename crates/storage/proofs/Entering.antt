-- A guest that entry lets through.
use mathlib.Core.Path.{◌≡◌}
use mathlib.Core.Bool.{true}
use Rattle.machine.specs.declared.Guest.{Guest}
use Rattle.machine.specs.Entry.{entry_good}
use Rattle.machine.proofs.Entry.{entry-placed}
use Rattle.storage.specs.Entered.{Entered}

pub entered : (g : Guest) → entry_good g ≡ true → Entered g
entered g good = record { space = (entry-placed g good).sum; prefix = (entry-placed g good).prefixed }
