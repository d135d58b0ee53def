-- Document 01, "Instructions": the effect of each, as SA22-7085. One definition an instruction, under its name in the manual.
use Rattle.std.specs.Prelude.{ℕ, zero, suc, ◌+◌, ◌-◌, ◌*◌, ◌%◌, ◌^◌, Bool, cond, not, ◌&&◌, ◌||◌, List, [], ◌∷◌, ◌++◌, eqb, leb, ltb, length}
use Rattle.machine.specs.declared.Class.{Class}
use Rattle.machine.specs.declared.Class.TheVariants.{Lr, Ar, Sr, Bcr, Svc, La, Bc, St, L, Lpsw, Stctl, Lctl, Stck, Spt, Stpt, Mandatory, Unassigned}
use Rattle.machine.specs.declared.Cpu.{Cpu}
use Rattle.machine.specs.declared.Reason.TheVariants.{Instruction}
use Rattle.machine.specs.Words.{bits, bit, word_at, double_at, words_at, word_bytes, double_bytes, words_bytes}
use Rattle.machine.specs.Record.{psw_of}
use Rattle.machine.specs.Psw.{condition_code, overflow_enabled, wrap, with_psw, with_timer, with_control, with_general, control, general, with_address, advanced, with_condition_code}
use Rattle.machine.specs.Time.{guest_clock}
use Rattle.machine.specs.Failures.{operation, fixed_point_overflow, exception_of}
use Rattle.machine.specs.Host.{Located, places}
use Rattle.machine.specs.Addresses.{access, accesses, span, when_reached}
use Rattle.machine.specs.Outcomes.{Outcome, completed, intercepted, Progress}
use Rattle.machine.specs.Interruptions.{with_bytes, bytes_of, supervisor_call_areas, code_fields, fields_beside, interrupt, exception}

-- the fields of the text

-- R1, and the mask M1
abbrev pub r1 : Progress → ℕ
r1 x = bits 16 8 11 x.text.first

-- R2, R3 and the index X2
abbrev pub r2 : Progress → ℕ
r2 x = bits 16 12 15 x.text.first

-- I, the number of SUPERVISOR CALL
abbrev pub immediate : Progress → ℕ
immediate x = bits 16 8 15 x.text.first

abbrev pub base : Progress → ℕ
base x = bits 16 0 3 x.text.second

abbrev pub displacement : Progress → ℕ
displacement x = bits 16 4 15 x.text.second

-- the content of a base or index register: register 0 stands for zero
unfoldable pub address_part : Progress → ℕ → ℕ
address_part x i = cond (eqb i 0) 0 (general x.cpu i)

-- D2(B2), cut once at the end
unfoldable pub operand_address : Progress → ℕ
operand_address x = wrap x.cpu (address_part x (base x) + displacement x)

-- D2(X2,B2)
unfoldable pub indexed_address : Progress → ℕ
indexed_address x = wrap x.cpu (address_part x (r2 x) + address_part x (base x) + displacement x)

-- how an instruction ends

-- past the instruction
abbrev pub next : Progress → Cpu → Cpu
next x c = advanced c x.text.ilc

-- the instruction ends with this state, having fetched and stored these operand bytes
unfoldable pub finish : Progress → Cpu → List Located → List Located → Outcome
finish x c fetched stores = completed c (record { fetched = x.fetched ++ places fetched; stores = stores })

-- the whole operand is fetched, and then gives the state
unfoldable pub fetching : Progress → ℕ → ℕ → (List ℕ → Cpu) → Outcome
fetching x a n after =
    when_reached (accesses (access x.guest x.view x.cpu Bool.false) (span x.cpu a n)) (exception x x.cpu)
    λ operand. finish x (after (bytes_of operand)) operand []

-- the bytes are stored, once every access is known good
unfoldable pub storing : Progress → ℕ → List ℕ → Cpu → Outcome
storing x a bytes c =
    when_reached (accesses (access x.guest x.view x.cpu Bool.true) (span x.cpu a (length bytes))) (exception x x.cpu)
    λ operand. finish x c [] (with_bytes operand bytes)

-- LOAD (LR)
unfoldable pub load_register : Progress → Outcome
load_register x = finish x (next x (with_general x.cpu (r1 x) (general x.cpu (r2 x)))) [] []

-- the signed value of a word plus 2^31
abbrev pub excess : ℕ → ℕ
excess w = (w + 2 ^ 31) % 2 ^ 32

-- condition code of a sum: 0 zero, 1 below zero, 2 above zero, 3 overflow
unfoldable pub sum_code : ℕ → Bool → ℕ
sum_code sum overflow = cond overflow 3 (cond (eqb sum 0) 0 (cond (bit 32 0 sum) 1 2))

-- an add sets its register and the condition code together
unfoldable pub with_sum : Cpu → ℕ → ℕ → Bool → Cpu
with_sum c i sum overflow = with_condition_code (with_general c i sum) (sum_code sum overflow)

-- with the program mask's first bit one, an overflow sets its results and then is program exception 8
unfoldable pub summed : Progress → ℕ → Bool → Outcome
summed x sum overflow =
    cond (overflow && overflow_enabled x.cpu)
    (exception x (with_sum x.cpu (r1 x) sum overflow) (exception_of fixed_point_overflow))
    (finish x (next x (with_sum x.cpu (r1 x) sum overflow)) [] [])

abbrev pub sum_of : ℕ → ℕ → ℕ
sum_of a b = (a + b) % 2 ^ 32

-- the signed sum is below -2^31 or above 2^31 - 1
abbrev pub sum_overflows : ℕ → ℕ → Bool
sum_overflows a b = ltb (excess a + excess b) (2 ^ 31) || leb (2 ^ 32 + 2 ^ 31) (excess a + excess b)

abbrev pub difference_of : ℕ → ℕ → ℕ
difference_of a b = (a + (2 ^ 32 - b)) % 2 ^ 32

-- the signed difference is below -2^31 or above 2^31 - 1
abbrev pub difference_overflows : ℕ → ℕ → Bool
difference_overflows a b = ltb (excess a + 2 ^ 31) (excess b) || leb (excess b + 2 ^ 31) (excess a)

-- ADD (AR)
unfoldable pub add : Progress → Outcome
add x = summed x (sum_of a b) (sum_overflows a b)
  where
    a : ℕ
    a = general x.cpu (r1 x)

    b : ℕ
    b = general x.cpu (r2 x)

-- SUBTRACT (SR)
unfoldable pub subtract : Progress → Outcome
subtract x = summed x (difference_of a b) (difference_overflows a b)
  where
    a : ℕ
    a = general x.cpu (r1 x)

    b : ℕ
    b = general x.cpu (r2 x)

-- the mask's bit for the condition code is one
unfoldable pub selected : ℕ → ℕ → Bool
selected mask code = bit 4 code mask

unfoldable pub branch : Progress → Bool → ℕ → Outcome
branch x taken a = finish x (cond taken (with_address x.cpu a) (next x x.cpu)) [] []

-- BRANCH ON CONDITION (BCR): with R2 zero it never branches
unfoldable pub branch_register : Progress → Outcome
branch_register x =
    branch x (not (eqb (r2 x) 0) && selected (r1 x) (condition_code x.cpu)) (general x.cpu (r2 x))

-- BRANCH ON CONDITION (BC)
unfoldable pub branch_indexed : Progress → Outcome
branch_indexed x = branch x (selected (r1 x) (condition_code x.cpu)) (indexed_address x)

-- SUPERVISOR CALL (SVC): the old PSW has the address after it
unfoldable pub supervisor_call : Progress → Outcome
supervisor_call x =
    interrupt x (next x x.cpu) supervisor_call_areas (immediate x)
    (fields_beside (next x x.cpu) (code_fields x.text.ilc (immediate x)))

-- LOAD ADDRESS (LA)
unfoldable pub load_address : Progress → Outcome
load_address x = finish x (next x (with_general x.cpu (r1 x) (indexed_address x))) [] []

-- STORE (ST)
unfoldable pub store : Progress → Outcome
store x = storing x (indexed_address x) (word_bytes (general x.cpu (r1 x))) (next x x.cpu)

-- LOAD (L)
unfoldable pub load : Progress → Outcome
load x = fetching x (indexed_address x) 4 λ bytes. next x (with_general x.cpu (r1 x) (word_at bytes 0))

-- LOAD PSW (LPSW)
unfoldable pub load_psw : Progress → Outcome
load_psw x = fetching x (operand_address x) 8 λ bytes. with_psw x.cpu (psw_of x.cpu.psw.system370 bytes 0)

-- how many control registers R1 to R3 are, going up and through 15 to 0
unfoldable pub range_count : Progress → ℕ
range_count x = (r2 x + (16 - r1 x)) % 16 + 1

-- the control registers from `i` on
unfoldable pub controls_from : Cpu → ℕ → ℕ → List ℕ
controls_from c i zero = []
controls_from c i (suc n) = control c i ∷ controls_from c ((i + 1) % 16) n

unfoldable pub with_controls : Cpu → ℕ → List ℕ → Cpu
with_controls c i [] = c
with_controls c i (w ∷ ws) = with_controls (with_control c i w) ((i + 1) % 16) ws

-- STORE CONTROL (STCTL)
unfoldable pub store_control : Progress → Outcome
store_control x = storing x (operand_address x) (words_bytes (controls_from x.cpu (r1 x) (range_count x))) (next x x.cpu)

-- LOAD CONTROL (LCTL)
unfoldable pub load_control : Progress → Outcome
load_control x =
    fetching x (operand_address x) (4 * range_count x)
    λ bytes. next x (with_controls x.cpu (r1 x) (words_at bytes 0 (range_count x)))

-- STORE CLOCK (STCK): the guest clock of the unit's start, condition code 0
unfoldable pub store_clock : Progress → Outcome
store_clock x =
    storing x (operand_address x) (double_bytes (guest_clock x.guest x.clock)) (next x (with_condition_code x.cpu 0))

-- SET CPU TIMER (SPT)
unfoldable pub set_timer : Progress → Outcome
set_timer x = fetching x (operand_address x) 8 λ bytes. next x (with_timer x.cpu (double_at bytes 0))

-- STORE CPU TIMER (STPT): the timer of the unit's start
unfoldable pub store_timer : Progress → Outcome
store_timer x = storing x (operand_address x) (double_bytes x.cpu.timer) (next x x.cpu)

-- code 4 stores text and ILC, and advances the address
unfoldable pub intercept_instruction : Progress → Outcome
intercept_instruction x = intercepted (Instruction x.text) (next x x.cpu)

-- the effect of each class; that of an unassigned opcode comes before all other tests (`Units.decoded`)
unfoldable pub execute : Class → Progress → Outcome
execute Lr x = load_register x
execute Ar x = add x
execute Sr x = subtract x
execute Bcr x = branch_register x
execute Svc x = supervisor_call x
execute La x = load_address x
execute Bc x = branch_indexed x
execute St x = store x
execute L x = load x
execute Lpsw x = load_psw x
execute Stctl x = store_control x
execute Lctl x = load_control x
execute Stck x = store_clock x
execute Spt x = set_timer x
execute Stpt x = store_timer x
execute Mandatory x = intercept_instruction x
execute Unassigned x = exception x x.cpu (exception_of operation)
