-- A row of the code's table, and what the definition's table has for it.
use Rattle.std.specs.Prelude.{ℕ, ◌*◌, Bool, true, false, cond, not, ◌&&◌, ◌||◌, List, [], ◌∷◌, eqb, ltb, Option, None, Some}
use Rattle.machine.specs.declared.Class.TheVariants.{Unassigned}
use Rattle.machine.specs.Opcodes.{has, length_of, row}
use Rattle.machine.specs.Opcodes as opcodes
use Rattle.decode.specs.declared.Architectures.{Architectures}
use Rattle.decode.specs.declared.Architectures.TheVariants.{Both, Xa, System370}
use Rattle.decode.specs.declared.Row.{Row}

-- the architectures that have a row, as the definition names them
abbrev pub architectures_of : Architectures → opcodes.Architectures
architectures_of Both = opcodes.Architectures.both
architectures_of Xa = opcodes.Architectures.xa_alone
architectures_of System370 = opcodes.Architectures.system370_alone

-- a row as the definition has it
abbrev pub meant : Row → opcodes.Row
meant r = row (architectures_of r.1) r.0 r.3 r.4 r.5

-- the length in halfwords of an opcode, by its number: one below 256 is a halfword's first byte
unfoldable pub length_of_number : ℕ → ℕ
length_of_number n = length_of (cond (ltb n 256) (n * 256) n)

-- each row has the length that its number has
unfoldable pub measured : List Row → Bool
measured [] = true
measured (r ∷ rows) = eqb r.2 (length_of_number r.0) && measured rows

-- a row has the number
unfoldable pub numbered : ℕ → List Row → Bool
numbered n [] = false
numbered n (r ∷ rows) = eqb n r.0 || numbered n rows

-- no two rows have the same number
unfoldable pub distinct : List Row → Bool
distinct [] = true
distinct (r ∷ rows) = not (numbered r.0 rows) && distinct rows

-- a row is that of a number, for a guest's architecture
unfoldable pub fits : Bool → ℕ → Row → Bool
fits system370 n r = eqb n (meant r).number && has (meant r).architectures system370

-- what the definition has for a number of which this row was found, or none
abbrev pub found : ℕ → Option Row → opcodes.Row
found n None = row opcodes.Architectures.both n false 1 Unassigned
found n (Some r) = meant r
