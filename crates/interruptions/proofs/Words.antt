-- Words stored one behind the other.
-- Assumes nothing.
use Prim.Native.Nat.{ℕ, ◌+◌}
use mathlib.Core.Path.{◌≡◌, ap, sym, ◌∙◌}
use mathlib.Core.List.{List, ◌++◌}
use lib.ListN.{length}
use lib.Seq.{sets}
use Rattle.machine.proofs.Words.{sets-append}

pub two_words : (l : List ℕ) (at : ℕ) (us vs : List ℕ) → length us ≡ 4 → sets (sets l at us) (at + 4) vs ≡ sets l at (us ++ vs)
two_words l at us vs four = ap (λ n. sets (sets l at us) (at + n) vs) (sym four) ∙ sets-append l at us vs
