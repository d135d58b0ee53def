-- `pages::keep` meets its contract.
use mathlib.Core.Path.{sym, ◌∙◌}
use Rattle.pages.proofs.keep.Goals as goal

pub keep_at-requires : goal.keep_at-requires
keep_at-requires c = (c.requires.0, c.requires.1, sym c.touch.ensures ∙ c.in-Ok.is)
