-- What lengths and alignments the table of opcodes gives.
-- Assumes nothing.
use Prim.Native.Nat.{ℕ, ◌≤◌, ◌<◌}
use mathlib.Core.Path.{◌≡◌, refl}
use mathlib.Core.Bool.{Bool, true, ◌&&◌}
use mathlib.Core.List.{List, [], ◌∷◌}
use native.Mathlib.Omega.{arith}
use lib.Dec.{ltb}
use Rattle.std.proofs.lemmas.Bool.Decides.{nat_tests}
use Rattle.machine.specs.Opcodes.{Row, length_of, opcodes, find, opcode_of}

-- a length is a length code
pub length_at_most : (s : Bool) (first : ℕ) → (opcode_of s first).length ≤ 3
unfolding opcode_of length_of
length_at_most s first = grind (arith, nat_tests)

-- no alignment of a table is zero
all_aligned : List Row → Bool
all_aligned [] = true
all_aligned (r ∷ rows) = ltb 0 r.alignment && all_aligned rows

aligned_found : (s : Bool) (n : ℕ) (rows : List Row) → all_aligned rows ≡ true → 0 < (find s n rows).alignment
unfolding all_aligned find
aligned_found s n [] e = omega arith
aligned_found s n (r ∷ rows) e = grind (arith, nat_tests, aligned_found s n rows)

-- an alignment divides
pub alignment_some : (s : Bool) (first : ℕ) → 0 < (opcode_of s first).alignment
unfolding opcode_of all_aligned
alignment_some s first = aligned_found s _ opcodes refl
