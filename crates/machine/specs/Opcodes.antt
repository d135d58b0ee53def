-- Document 01, "Instructions": one fixed table of opcodes gives length, privilege and class, and the alignment of the operand.
-- Request 1/12: a row is of 370-XA, of System/370 or of both.
use Rattle.std.specs.Prelude.{ℕ, ◌/◌, Bool, true, false, cond, not, ◌&&◌, List, [], ◌∷◌, ◌++◌, eqb, ltb}
use Rattle.machine.specs.declared.Class.{Class}
use Rattle.machine.specs.declared.Class.TheVariants.{Lr, Ar, Sr, Bcr, Svc, La, Bc, St, L, Lpsw, Stctl, Lctl, Stck, Spt, Stpt, Mandatory, Unassigned}
use Rattle.machine.specs.declared.Opcode.{Opcode}
use Rattle.machine.specs.Words.{bits}

-- the length in halfwords, by the two leftmost bits: 00 one, 01 and 10 two, 11 three
unfoldable pub length_of : ℕ → ℕ
length_of first = cond (eqb (bits 16 0 1 first) 0) 1 (cond (ltb (bits 16 0 1 first) 3) 2 3)

-- an opcode's number: the first byte, or both bytes where the first is B2
unfoldable pub number_of : ℕ → ℕ
number_of first = cond (eqb (first / 256) 0xb2) first (first / 256)

-- a class's place among the classes: no two have the same
abbrev pub code_of : Class → ℕ
code_of Lr = 0
code_of Ar = 1
code_of Sr = 2
code_of Bcr = 3
code_of Svc = 4
code_of La = 5
code_of Bc = 6
code_of St = 7
code_of L = 8
code_of Lpsw = 9
code_of Stctl = 10
code_of Lctl = 11
code_of Stck = 12
code_of Spt = 13
code_of Stpt = 14
code_of Mandatory = 15
code_of Unassigned = 16

abbrev pub same_class : Class → Class → Bool
same_class j k = eqb (code_of j) (code_of k)

-- the architectures that have a row
pub data Architectures : Type 0 where
  both : Architectures
  xa_alone : Architectures
  system370_alone : Architectures

-- the guest's architecture is one of them
unfoldable pub has : Architectures → Bool → Bool
has both system370 = true
has xa_alone system370 = not system370
has system370_alone system370 = system370

-- a row of the table: the alignment is 1 where none is asked
pub record Row : Type 0 where
  pub architectures : Architectures
  pub number : ℕ
  pub privileged : Bool
  pub alignment : ℕ
  pub class : Class

abbrev pub row : Architectures → ℕ → Bool → ℕ → Class → Row
row h n p a k = record { architectures = h; number = n; privileged = p; alignment = a; class = k }

-- the instructions of document 01's list
abbrev pub listed : List Row
listed =
    row both 0x18 false 1 Lr ∷ row both 0x1a false 1 Ar ∷ row both 0x1b false 1 Sr ∷ row both 0x07 false 1 Bcr
    ∷ row both 0x0a false 1 Svc ∷ row both 0x41 false 1 La ∷ row both 0x47 false 1 Bc ∷ row both 0x50 false 1 St
    ∷ row both 0x58 false 1 L ∷ row both 0x82 true 8 Lpsw ∷ row both 0xb6 true 4 Stctl ∷ row both 0xb7 true 4 Lctl
    ∷ row both 0xb205 false 1 Stck ∷ row both 0xb208 true 8 Spt ∷ row both 0xb209 true 8 Stpt ∷ []

-- mandatory interception
abbrev pub intercepted : Architectures → ℕ → Row
intercepted h n = row h n true 1 Mandatory

-- DIAGNOSE 83 and SIGP AE; of 370-XA B230 to B23C; of System/370 9C to 9F
abbrev pub mandatory : List Row
mandatory =
    intercepted both 0x83 ∷ intercepted both 0xae ∷ intercepted xa_alone 0xb230 ∷ intercepted xa_alone 0xb231
    ∷ intercepted xa_alone 0xb232 ∷ intercepted xa_alone 0xb233 ∷ intercepted xa_alone 0xb234 ∷ intercepted xa_alone 0xb235
    ∷ intercepted xa_alone 0xb236 ∷ intercepted xa_alone 0xb237 ∷ intercepted xa_alone 0xb238 ∷ intercepted xa_alone 0xb239
    ∷ intercepted xa_alone 0xb23a ∷ intercepted xa_alone 0xb23b ∷ intercepted xa_alone 0xb23c
    ∷ intercepted system370_alone 0x9c ∷ intercepted system370_alone 0x9d ∷ intercepted system370_alone 0x9e
    ∷ intercepted system370_alone 0x9f ∷ []

abbrev pub opcodes : List Row
opcodes = listed ++ mandatory

-- the row of an opcode's number in a table, for a guest's architecture; all others are unassigned
unfoldable pub find : Bool → ℕ → List Row → Row
find system370 n [] = row both n false 1 Unassigned
find system370 n (r ∷ rs) = cond (eqb n r.number && has r.architectures system370) r (find system370 n rs)

-- what the table says of a first halfword
unfoldable pub opcode_of : Bool → ℕ → Opcode
opcode_of system370 first = record {
  length = length_of first;
  privileged = (find system370 (number_of first) opcodes).privileged;
  alignment = (find system370 (number_of first) opcodes).alignment;
  class = (find system370 (number_of first) opcodes).class;
}
