-- Answers packed into a number of 64 bits, and what stands at the caller's place afterwards. include/drevokas.h says the same to C.
use Rattle.std.specs.Prelude.{ℕ, ◌+◌, ◌*◌, ◌%◌, ◌^◌, Err, Ok}
use Rattle.machine.specs.declared.End.{End}
use Rattle.machine.specs.declared.End.TheVariants as end
use Rattle.machine.specs.declared.Sought.{Sought}
use Rattle.machine.specs.Answers.{refusal_number, reason_code, end_address, stage_number}
use Rattle.machine.specs.Sought.{nowhere}
use Rattle.machine.specs.Refusals.{RunAnswer}

-- the kind in bits 0-7, its number in bits 8-15, the stage in bits 16-23, bits 24-31 zero, the units completed in bits 32-63
abbrev pub packed : ℕ → ℕ → Sought → ℕ → ℕ
packed kind number s units = kind * 2 ^ 56 + number % 256 * 2 ^ 48 + stage_number s.stage * 2 ^ 40 + units

-- the kinds

abbrev pub refused_kind : ℕ
refused_kind = 0

abbrev pub intercepted_kind : ℕ
intercepted_kind = 1

abbrev pub host_fault_kind : ℕ
host_fault_kind = 2

abbrev pub budget_kind : ℕ
budget_kind = 3

abbrev pub exception_kind : ℕ
exception_kind = 4

abbrev pub good_kind : ℕ
good_kind = 5

abbrev pub none_kind : ℕ
none_kind = 6

-- the caller's place: the address of the table entry in bits 0-31, an address of the answer in bits 32-63
abbrev pub placed : Sought → ℕ → ℕ
placed s address = s.entry * 2 ^ 32 + address

-- the answer of run: the units completed stand beside the kind, its number and the stage
unfoldable pub packed_end : End → Sought → ℕ → ℕ
packed_end (end.Intercepted r) s units = packed intercepted_kind (reason_code r) s units
packed_end (end.HostFault f) s units = packed host_fault_kind f.code s units
packed_end end.BudgetUsed s units = packed budget_kind 0 s units

unfoldable pub packed_answer : RunAnswer → Sought → ℕ
packed_answer (Err refusal) s = packed refused_kind (refusal_number refusal) nowhere 0
packed_answer (Ok stopped) s = packed_end stopped.end s stopped.units

-- the host virtual address of a host fault, else zero; a refusal leaves what stood there
unfoldable pub place_after_run : RunAnswer → Sought → ℕ → ℕ
place_after_run (Err number) s before = before
place_after_run (Ok stopped) s before = placed s (end_address stopped.end)
