-- What the address path needs of a guest that entry lets through.
use Rattle.std.specs.Prelude.{◌+◌, ◌*◌, ◌≤◌}
use Rattle.machine.specs.declared.Guest.{Guest}
use Rattle.machine.specs.Sizes.{page_bytes}
use Rattle.machine.specs.Entry.{extent_bytes}

pub record Entered (g : Guest) : Type 0 where
  pub space : g.origin + g.extent ≤ 32768
  pub prefix : g.prefix * page_bytes + page_bytes ≤ extent_bytes g
