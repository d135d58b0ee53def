-- The text of an instruction whose tests come to an exception.
use Rattle.std.specs.Prelude.{ℕ, ◌+◌, ◌≡◌, cond, List, ltb}
use Rattle.machine.specs.declared.Guest.{Guest}
use Rattle.machine.specs.declared.Text.{Text}
use Rattle.machine.specs.Words.{half_at}
use Rattle.machine.specs.Opcodes.{length_of}

-- the text from a place on: as many halfwords as the first one says
abbrev pub text_in : List ℕ → ℕ → ℕ → Text
text_in storage at first = record {
  ilc = length_of first;
  first = first;
  second = cond (ltb (length_of first) 2) 0 (half_at storage (at + 2));
  third = cond (ltb (length_of first) 3) 0 (half_at storage (at + 4));
}

-- a text of this guest, with this ILC
abbrev pub Having : Guest → ℕ → Guest → Text → Type 0
Having guest ilc g text = (g ≡ guest) × (text.ilc ≡ ilc)
