-- Runs in which STCK is executed twice, with an interruption between: what `TwoReadingsDiffer` speaks of is there, of both architectures.
-- Assumes nothing.
use Prim.Native.Nat.{ℕ, ◌-◌, ◌%◌, ◌^◌}
use mathlib.Core.Path.{◌≡◌, refl}
use mathlib.Core.Bool.{Bool, true, false}
use mathlib.Core.List.{List, [], ◌∷◌}
use lib.ListN.{replicate}
use lib.Seq.{sets}
use Rattle.machine.specs.declared.Cpu.{Cpu}
use Rattle.machine.specs.declared.Numbers.{Numbers}
use Rattle.machine.specs.declared.Psw.{Psw}
use Rattle.machine.specs.Words.{word_at, double_at, words_at, word_bytes, words_bytes}
use Rattle.machine.specs.Record.{guest_of, cpu_of, psw_of, psw_bytes, with_cpu, with_results}
use Rattle.machine.specs.Interval.{active}
use Rattle.machine.specs.Refusals.{wrong_length, wrong_version, wrong_storage, wrong_keys, wrong_budget, wrong_time, used, wrong_interval, reserved_used, run_verdict}
use Rattle.machine.specs.Entry.{entry_good, mode_installed, extent_fits, prefix_fits, prefix_short}
use Rattle.machine.specs.Psw.{instruction_address, not_installed, malformed, wrap, with_psw, with_timer, with_condition_code, with_address, advanced, old_psw}
use Rattle.machine.specs.Time.{guest_clock, clock_after, timer_after, charged}
use Rattle.machine.specs.Walk.{walk, walk_segment, walk_page}
use Rattle.machine.specs.Host.{Located, host_entry, in_storage, host_page, backing, cell_of, view, store_byte, stored, referenced, changed, mark_key, marked}
use Rattle.machine.specs.Addresses.{Accesses, all, stopped, prefixed, real_page, settle, real_access, key_protects, in_page, low_protected, access, and_then, accesses, span, up_from, when_reached}
use Rattle.machine.specs.Opcodes.{length_of, number_of, has, find, opcode_of}
use Rattle.machine.specs.Outcomes.{Effects, Outcome, completed, intercepted, faulted}
use Rattle.machine.specs.Interruptions.{with_bytes, bytes_of, fields_beside, interrupt}
use Rattle.machine.specs.Execute.{address_part, operand_address, finish, storing, supervisor_call, store_clock, execute}
use Rattle.machine.specs.Units.{intercepts_svc, intercepts, misaligned, decoded, halfword, half_of, reading, fetch_third, fetch_second, instruction, unit}
use Rattle.machine.specs.Run.{Machine, host_of, requested_by, unit_from, behind_of, marked_by, after_unit, ticked, step_of, step, counted, onward, run}
use Rattle.machine.specs.Answers.{results, end_results}
use Rattle.machine.specs.Operations.{result_of, machine_of, run_as, run_of}
use Rattle.machine.specs.Readings.{begun, with_first, with_second, StoresClock, before_unit, ReadingsExist}

-- The PSW at address 200 hex: a BC one, or a 370-XA one of 31-bit addresses.
psw : Bool → Psw
psw true = record { left = 0; right = 0x200; system370 = true }
psw false = record { left = 0x00080000; right = 0x80000200; system370 = false }

-- A guest of one block from origin 0, of mode 01 in the longer record, its interval timer not active, or of mode 10. No control asks for an
-- interception.
description : Bool → List ℕ
description true = sets (sets (replicate 208 0) 1 (208 ∷ 2 ∷ 0 ∷ 5 ∷ 0 ∷ [])) 15 (1 ∷ psw_bytes (psw true))
description false = sets (sets (replicate 200 0) 1 (200 ∷ 1 ∷ 0 ∷ 8 ∷ 0 ∷ [])) 15 (1 ∷ psw_bytes (psw false))

-- the clock comes round in the second unit
numbers : Numbers
numbers = record { designation = 0; clock = 2 ^ 64 - 1; time = 1; budget = 3 }

-- One frame has the tables, at 0 and 400 hex, and every page. The guest has STCK 768 and SVC 0 at 200 hex, and SVC leads back there.
storage : Bool → List ℕ
storage system370 =
    sets (sets (sets (replicate 4096 0) 0 (word_bytes 0x400)) 96 (psw_bytes (psw system370))) 0x200 (0xb2 ∷ 0x05 ∷ 0x03 ∷ 0 ∷ 0x0a ∷ [])

keys : List ℕ
keys = 0 ∷ []

-- what was reached, and what a unit left

reached_by : Accesses → List Located
reached_by (all ls) = ls
reached_by (stopped f) = []

cpu_after : Outcome → Cpu → Cpu
cpu_after (completed c e) d = c
cpu_after (intercepted r c) d = d
cpu_after (faulted f) d = d

effects_of : Outcome → Effects
effects_of (completed c e) = e
effects_of (intercepted r c) = record { fetched = []; stores = [] }
effects_of (faulted f) = record { fetched = []; stores = [] }

module _ (system370 : Bool) (i value : ℕ) where
  abbrev at : Machine
  at = before_unit numbers (description system370) (storage system370) keys i

  abbrev first_half : List Located
  first_half = reached_by (halfword (begun numbers at) 0)

  abbrev second_half : List Located
  second_half = reached_by (halfword (with_first (begun numbers at) first_half) 1)

  abbrev operand_accesses : Accesses
  operand_accesses =
      accesses (access (guest_of at.description) (begun numbers at).view (cpu_of at.description) true)
      (span (cpu_of at.description) (operand_address (with_second (with_first (begun numbers at) first_half) second_half)) 8)

  -- what is left to compute of the unit
  stores : malformed (cpu_of at.description) ≡ false → instruction_address (cpu_of at.description) % 2 ≡ 0
      → halfword (begun numbers at) 0 ≡ all first_half → half_of first_half ≡ 0xb205
      → halfword (with_first (begun numbers at) first_half) 1 ≡ all second_half → operand_accesses ≡ all (reached_by operand_accesses)
      → unit_from numbers at ≡ completed (cpu_after (unit_from numbers at) (cpu_of at.description)) (effects_of (unit_from numbers at))
      → double_at (bytes_of (effects_of (unit_from numbers at)).stores) 0 ≡ value → StoresClock numbers at value
  stores well_formed even first_read stck second_read reached completes stored = record {
    well_formed = well_formed;
    even = even;
    first = first_half;
    first_read = first_read;
    stck = stck;
    second = second_half;
    second_read = second_read;
    operand = reached_by operand_accesses;
    reached = reached;
    cpu = cpu_after (unit_from numbers at) (cpu_of at.description);
    effects = effects_of (unit_from numbers at);
    completes = completes;
    stored = stored;
  }

-- the runs, computed
pub readings_exist : ReadingsExist
unfolding psw description numbers storage keys reached_by cpu_after effects_of run_of run_as run_verdict wrong_length wrong_version wrong_storage
    wrong_keys wrong_budget wrong_time used wrong_interval reserved_used word_at double_at words_at words_bytes guest_of cpu_of psw_of
    with_cpu with_results entry_good mode_installed extent_fits prefix_fits prefix_short active result_of machine_of end_results results run onward
    step step_of ticked requested_by unit_from host_of behind_of marked_by after_unit counted charged with_timer timer_after clock_after guest_clock
    unit instruction halfword reading fetch_second fetch_third decoded intercepts intercepts_svc misaligned not_installed malformed wrap
    with_psw with_condition_code with_address advanced old_psw access real_access accesses and_then span up_from when_reached in_page real_page settle
    prefixed key_protects low_protected view cell_of backing host_page in_storage host_entry stored store_byte marked mark_key referenced changed
    walk walk_segment walk_page length_of number_of has find opcode_of execute store_clock storing supervisor_call interrupt fields_beside finish
    address_part operand_address with_bytes
readings_exist true = (
  numbers,
  description true,
  storage true,
  keys,
  record {
    mode = refl;
    time = refl;
    ended = refl;
    at_first = stores true 0 (2 ^ 64 - 1) refl refl refl refl refl refl refl refl;
    after_svc = stores true 2 1 refl refl refl refl refl refl refl refl;
  },
)
readings_exist false = (
  numbers,
  description false,
  storage false,
  keys,
  record {
    mode = refl;
    time = refl;
    ended = refl;
    at_first = stores false 0 (2 ^ 64 - 1) refl refl refl refl refl refl refl refl;
    after_svc = stores false 2 1 refl refl refl refl refl refl refl refl;
  },
)
