-- The order of tests of an instruction whose text is fetched from a kept block, and what it leaves.
use Rattle.std.specs.Prelude.{ℕ, ◌+◌, ◌*◌, ◌/◌, ◌%◌, ◌≤◌, ◌<◌, ◌≡◌, Bool, true, false, not, ◌&&◌, ◌||◌, List, eqb}
use Rattle.machine.specs.declared.Cpu.{Cpu}
use Rattle.machine.specs.declared.Guest.{Guest}
use Rattle.machine.specs.declared.Psw.{Psw}
use Rattle.machine.specs.Psw.{problem_state}
use Rattle.machine.specs.Host.{Host}
use Rattle.machine.specs.Opcodes.{number_of, opcode_of}
use Rattle.machine.specs.Outcomes.{Progress}
use Rattle.machine.specs.Units.{decoded}
use Rattle.interruptions.specs.After.{Left}
use Rattle.guard.specs.Guarding.{Alike}
use Rattle.blocks.specs.Keeping.{Block}
use Rattle.steps.specs.Texting.{short_text, text_frame, done_as}
use Rattle.lap.specs.Stepping.{part_of}
use Rattle.area.specs.Keeping.{Placed}
use Rattle.calls.specs.Calling.{Stands}
use Rattle.special.specs.declared.Done.{Done}
use Rattle.special.specs.Performing.{psw_in, Begun}
use Rattle.single.specs.declared.Operation.{Operation}
use Rattle.single.specs.declared.Operation.TheVariants.{Lpsw, Stctl, Lctl, Stck, Spt, Stpt}
use Rattle.single.specs.declared.Kind.{Kind}
use Rattle.single.specs.declared.Kind.TheVariants.{Lap, Svc, With, Rest}

-- the opcode of an instruction with an operand
abbrev pub number : Operation → ℕ
number Lpsw = 0x82
number Stctl = 0xb6
number Lctl = 0xb7
number Stck = 0xb205
number Spt = 0xb208
number Stpt = 0xb209

-- what the first two bytes of an instruction say of its kind: a text of two halfwords has an operand
abbrev pub KindIs : ℕ → ℕ → Kind → Type 0
KindIs op second Lap = Unit {0}
KindIs op second Svc = op ≡ 0x0a
KindIs op second (With operation) = (number_of (op * 256 + second) ≡ number operation) × (64 ≤ op) × (op < 192)
KindIs op second Rest = Unit {0}

-- what its operand's address is a multiple of
abbrev pub alignment_of : Operation → ℕ
alignment_of Lpsw = 8
alignment_of Stctl = 4
alignment_of Lctl = 4
alignment_of Stck = 8
alignment_of Spt = 8
alignment_of Stpt = 8

-- it has the tests of a privileged instruction, and of an aligned operand
abbrev pub is_tested : Operation → Bool
is_tested Lpsw = true
is_tested Stctl = true
is_tested Lctl = true
is_tested Stck = false
is_tested Spt = true
is_tested Stpt = true

-- an instruction with an operand: it is privileged in problem state, or its operand is misaligned. STCK is neither privileged nor
-- aligned; STCTL and LCTL have words.
unfoldable pub stopped_of : Operation → Cpu → ℕ → Bool
stopped_of operation c a = is_tested operation && (problem_state c || not (eqb (a % alignment_of operation) 0))

-- the sum of the parts D2 and B2 of an address, by the second halfword
abbrev pub sum_of : List ℕ → ℕ → ℕ
sum_of words second = part_of words (second / 4096) + second % 4096

-- an instruction with an operand, with this second byte: its tests and itself leave this state and this storage,
-- whatever the host is
abbrev pub Operates : Guest → ℕ → Psw → ℕ → List ℕ → List ℕ → Operation → ℕ → ℕ → List ℕ → Done → List ℕ → List ℕ → Type 0
Operates g clock psw timer control kept operation registers a storage d control' storage' =
    (guard : List ℕ) (h : Host) (x : Progress) (c : Cpu) (text : Block) (first second : ℕ)
    → Begun kept storage guard psw a h g x clock c text first second → c.timer ≡ timer → c.control.words ≡ control
    → number_of first ≡ number operation → first % 256 ≡ registers
    → Left h g c (decoded x (opcode_of c.psw.system370 first)) (done_as (psw_in d psw) d.timer (record { words = control' })) storage' h.keys
    × Alike guard storage storage'

-- SVC with this number: its tests and itself leave this state and this storage, whatever the host is
abbrev pub Calls : Guest → ℕ → Psw → ℕ → ℕ → List ℕ → Done → List ℕ → Type 0
Calls g area psw timer number storage d storage' =
    (guard : List ℕ) (h : Host) (x : Progress) (clock : ℕ) (c : Cpu) (text : Block) (first : ℕ)
    → (Placed area → Stands area psw storage guard h g x clock c (short_text first 0) (text_frame text)) → c.timer ≡ timer
    → first / 256 ≡ 0x0a → first % 256 ≡ number
    → Left h g c (decoded x (opcode_of c.psw.system370 first)) (done_as (psw_in d psw) timer c.control) storage' h.keys
    × Alike guard storage storage'
