-- The turn of a streak in which a block or the prefix page's place is kept.
use Rattle.std.specs.Prelude.{ℕ, List}
use Rattle.machine.specs.declared.Guest.{Guest}
use Rattle.machine.specs.Host.{host}
use Rattle.pages.specs.Tabling.{Tables}
use Rattle.area.specs.Keeping.{Area}
use Rattle.turns.specs.declared.Stand.{Stand}
use Rattle.turns.specs.Turning.{Low, Stays}

-- after a turn in which a block or the prefix page's place was to be kept
pub record Keeping (designation : ℕ) (g : Guest) (s : Stand) (words storage keys guard kept : List ℕ) (r : Stand) (guard' kept' : List ℕ) : Type 0 where
  pub stays : Stays s r
  pub tables : Tables designation g s.psw (record { words = words }) storage keys guard kept guard' kept'
  pub area : Area guard g (host designation storage keys) s.area → Area guard' g (host designation storage keys) r.area
  pub small : Low r.next
