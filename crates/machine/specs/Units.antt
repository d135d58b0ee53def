-- Document 01, "Before each unit, first that applies", and "Instructions", the order of an instruction's tests. Request 1/12: the
-- interval timer's request comes after step 5.
use Rattle.std.specs.Prelude.{ℕ, zero, suc, ◌+◌, ◌*◌, ◌%◌, Bool, false, cond, not, ◌&&◌, ◌||◌, List, [], ◌++◌, eqb, ltb}
use Rattle.machine.specs.declared.Class.{Class}
use Rattle.machine.specs.declared.Class.TheVariants.{Svc, Lpsw, Lctl, Unassigned}
use Rattle.machine.specs.declared.Cpu.{Cpu}
use Rattle.machine.specs.declared.Guest.{Guest}
use Rattle.machine.specs.declared.Opcode.{Opcode}
use Rattle.machine.specs.declared.Reason.TheVariants.{ExternalRequest, External, IoRequest, Wait, Validity, Stop}
use Rattle.machine.specs.declared.Text.{Text}
use Rattle.machine.specs.Words.{bit, half_at}
use Rattle.machine.specs.Psw.{io_enabled, external_enabled, waiting, problem_state, instruction_address, not_installed, malformed, control}
use Rattle.machine.specs.Time.{comparator_due, timer_due}
use Rattle.machine.specs.Failures.{operation, privileged_operation, specification, exception_of}
use Rattle.machine.specs.Host.{Cell, Located, places}
use Rattle.machine.specs.Addresses.{Accesses, access, accesses, span, when_reached}
use Rattle.machine.specs.Opcodes.{same_class, opcode_of}
use Rattle.machine.specs.Outcomes.{Outcome, intercepted, Progress}
use Rattle.machine.specs.Interruptions.{bytes_of, exception}
use Rattle.machine.specs.Execute.{r1, immediate, range_count, operand_address, intercept_instruction, execute}

-- interception

-- flag bit 0 is one, or flag bit 1, 2, 3 is one and its number equals the SVC's
unfoldable pub intercepts_svc : Guest → ℕ → Bool
intercepts_svc g number =
    bit 8 0 g.svc || (bit 8 1 g.svc && eqb g.svc1 number) || (bit 8 2 g.svc && eqb g.svc2 number)
    || (bit 8 3 g.svc && eqb g.svc3 number)

-- the control bit of one of `n` registers from `i` on is one
unfoldable pub intercepts_lctl : Guest → ℕ → ℕ → Bool
intercepts_lctl g i zero = false
intercepts_lctl g i (suc n) = bit 16 i g.lctl || intercepts_lctl g ((i + 1) % 16) n

-- the interception controls ask for code 4: of SVC, LPSW and LCTL alone
unfoldable pub intercepts : Class → Progress → Bool
intercepts k x =
    cond (same_class k Svc) (intercepts_svc x.guest (immediate x))
    (cond (same_class k Lpsw) (bit 8 2 x.guest.interceptions)
    (cond (same_class k Lctl) (intercepts_lctl x.guest (r1 x) (range_count x)) false))

-- the operand's address is not a multiple of its alignment
unfoldable pub misaligned : ℕ → ℕ → Bool
misaligned alignment a = not (eqb (a % alignment) 0)

-- the text is fetched: operation, privilege, interception, alignment, and then the operand
unfoldable pub decoded : Progress → Opcode → Outcome
decoded x o =
    cond (same_class o.class Unassigned) (exception x x.cpu (exception_of operation))
    (cond (o.privileged && problem_state x.cpu) (exception x x.cpu (exception_of privileged_operation))
    (cond (intercepts o.class x) (intercept_instruction x)
    (cond (misaligned o.alignment (operand_address x)) (exception x x.cpu (exception_of specification)) (execute o.class x))))

-- the fetch of the text

-- halfword `n` of the instruction
unfoldable pub halfword : Progress → ℕ → Accesses
halfword x n =
    accesses (access x.guest x.view x.cpu false) (span x.cpu (instruction_address x.cpu + 2 * n) 2)

-- with this text, and with more of it fetched
unfoldable pub reading : Progress → Text → List Located → Progress
reading x t more = record {
  guest = x.guest;
  clock = x.clock;
  view = x.view;
  cpu = x.cpu;
  text = t;
  fetched = x.fetched ++ places more;
}

abbrev pub first_text : Bool → ℕ → Text
first_text system370 first = record { ilc = (opcode_of system370 first).length; first = first; second = 0; third = 0 }

abbrev pub second_text : Text → ℕ → Text
second_text t second = record { ilc = t.ilc; first = t.first; second = second; third = 0 }

abbrev pub third_text : Text → ℕ → Text
third_text t third = record { ilc = t.ilc; first = t.first; second = t.second; third = third }

-- the halfword that these bytes make
abbrev pub half_of : List Located → ℕ
half_of ls = half_at (bytes_of ls) 0

-- what the table says of the instruction
abbrev pub opcode_in : Progress → Opcode
opcode_in x = opcode_of x.cpu.psw.system370 x.text.first

unfoldable pub fetch_third : Progress → Outcome
fetch_third x =
    cond (ltb x.text.ilc 3) (decoded x (opcode_in x))
    (when_reached (halfword x 2) (exception x x.cpu)
    λ third. decoded (reading x (third_text x.text (half_of third)) third) (opcode_in x))

unfoldable pub fetch_second : Progress → Outcome
fetch_second x =
    cond (ltb x.text.ilc 2) (decoded x (opcode_in x))
    (when_reached (halfword x 1) (exception x x.cpu)
    λ second. fetch_third (reading x (second_text x.text (half_of second)) second))

-- before anything is fetched, with the ILC of an exception that comes now
abbrev pub started : Guest → ℕ → (ℕ → Cell) → Cpu → ℕ → Progress
started g clock v c ilc = record {
  guest = g;
  clock = clock;
  view = v;
  cpu = c;
  text = record { ilc = ilc; first = 0; second = 0; third = 0 };
  fetched = [];
}

-- ILC is 1 at an odd address, and if the first halfword cannot be read
unfoldable pub instruction : Progress → Outcome
instruction x =
    cond (eqb (instruction_address x.cpu % 2) 1) (exception x x.cpu (exception_of specification))
    (when_reached (halfword x 0) (exception x x.cpu)
    λ first. fetch_second (reading x (first_text x.cpu.psw.system370 (half_of first)) first))

-- the interruption codes of code 20

abbrev pub comparator_code : ℕ
comparator_code = 0x1004

abbrev pub timer_code : ℕ
timer_code = 0x1005

abbrev pub interval_code : ℕ
interval_code = 0x0080

-- V, the intervention requests

abbrev pub stop_requested : Guest → Bool
stop_requested g = bit 8 5 g.interventions

abbrev pub io_requested : Guest → Bool
io_requested g = bit 8 6 g.interventions

abbrev pub external_requested : Guest → Bool
external_requested g = bit 8 7 g.interventions

-- one unit of the guest from this state at this host clock, with the interval timer's request or without: the list, first that applies
unfoldable pub unit : Guest → ℕ → Bool → (ℕ → Cell) → Cpu → Outcome
unit g clock requested v c =
    cond (stop_requested g) (intercepted Stop c)
    (cond (not_installed c) (intercepted Validity c)
    (cond (malformed c) (exception (started g clock v c 0) c (exception_of specification))
    (cond (external_enabled c && bit 32 20 (control c 0) && comparator_due g clock) (intercepted (External comparator_code) c)
    (cond (external_enabled c && bit 32 21 (control c 0) && timer_due c) (intercepted (External timer_code) c)
    (cond (external_enabled c && bit 32 24 (control c 0) && requested) (intercepted (External interval_code) c)
    (cond (external_requested g && external_enabled c) (intercepted ExternalRequest c)
    (cond (io_requested g && io_enabled c) (intercepted IoRequest c)
    (cond (waiting c) (intercepted Wait c) (instruction (started g clock v c 1))))))))))
