-- The program codes of SA22-7085, and the failures of document 01, "Addresses".
use Rattle.std.specs.Prelude.{ℕ, ◌*◌, ◌/◌, Bool, true, false, cond, ◌||◌, eqb}
use Rattle.machine.specs.declared.Failure.{Failure}
use Rattle.machine.specs.Sizes.{page_bytes}

abbrev pub operation : ℕ
operation = 1

abbrev pub privileged_operation : ℕ
privileged_operation = 2

abbrev pub protection : ℕ
protection = 4

abbrev pub addressing : ℕ
addressing = 5

abbrev pub specification : ℕ
specification = 6

abbrev pub fixed_point_overflow : ℕ
fixed_point_overflow = 8

abbrev pub segment_translation : ℕ
segment_translation = 0x10

abbrev pub page_translation : ℕ
page_translation = 0x11

abbrev pub translation_specification : ℕ
translation_specification = 0x12

-- 10 or 11 hex: it stores an address, and leaves the instruction address where it is
abbrev pub is_translation : ℕ → Bool
is_translation code = eqb code segment_translation || eqb code page_translation

abbrev pub host_fault : ℕ → ℕ → Failure
host_fault address code = record { host = true; code = code; address = address }

-- a guest program exception with no address
abbrev pub exception_of : ℕ → Failure
exception_of code = record { host = false; code = code; address = 0 }

-- a guest exception of the walk for a virtual address; 10 and 11 hex give the address with its last 12 bits zero
unfoldable pub walk_exception : ℕ → ℕ → Failure
walk_exception a code = record { host = false; code = code; address = cond (is_translation code) (a / page_bytes * page_bytes) 0 }
