-- A run in which the interval timer's word falls: what `Timed` asks can be met.
-- Assumes nothing.
use Prim.Native.Nat.{ℕ, zero, suc, ◌<◌}
use native.Mathlib.Omega.{arith}
use mathlib.Core.Path.{◌≡◌, refl, sym, ap, ◌∙◌}
use mathlib.Core.Bool.{true}
use mathlib.Core.List.{List, [], ◌∷◌}
use mathlib.Core.Logic.{inr}
use lib.ListN.{replicate, get_or-replicate}
use lib.Seq.{sets}
use Rattle.machine.specs.declared.Numbers.{Numbers}
use Rattle.machine.specs.Words.{word_at, double_at, words_at, word_bytes, words_bytes}
use Rattle.machine.specs.Record.{guest_of, cpu_of, psw_of, psw_bytes, with_cpu, with_results, with_request, with_interval}
use Rattle.machine.specs.Interval.{active, falls, residue_after, word_after, turns_negative, request_after}
use Rattle.machine.specs.Refusals.{wrong_length, wrong_version, wrong_storage, wrong_keys, wrong_budget, wrong_time, used, wrong_interval, reserved_used, run_verdict}
use Rattle.machine.specs.Entry.{entry_good, mode_installed, extent_fits, prefix_fits, prefix_short}
use Rattle.machine.specs.Psw.{not_installed, malformed, wrap, with_psw, with_timer, with_general, with_address, advanced}
use Rattle.machine.specs.Time.{timer_after, charged}
use Rattle.machine.specs.Walk.{walk, walk_segment, walk_page}
use Rattle.machine.specs.Host.{Located, host_entry, in_storage, host_page, backing, cell_of, view, store_byte, stored, byte_in, referenced, changed, mark_key, marked}
use Rattle.machine.specs.Addresses.{prefixed, byte_of, real_page, settle, real_access, key_protects, in_page, low_protected, access, and_then, accesses, span, up_from, when_reached}
use Rattle.machine.specs.Opcodes.{length_of, number_of, has, find, opcode_of}
use Rattle.machine.specs.Outcomes.{Outcome, completed, intercepted, faulted}
use Rattle.machine.specs.Interruptions.{with_bytes, after_exception, exception}
use Rattle.machine.specs.Execute.{address_part, operand_address, finish, load_register, execute}
use Rattle.machine.specs.Units.{intercepts, misaligned, decoded, halfword, reading, fetch_third, fetch_second, instruction, unit}
use Rattle.machine.specs.Run.{Machine, host_of, requested_by, unit_from, behind_of, marked_by, after_unit, after_interception, clears_t, answered, with_tick, with_word, word_accesses, word_in, residue_from, risen_to, fallen_to, ticked, step_of, step, counted, onward, run}
use Rattle.machine.specs.Answers.{reason_code, results, results_with, reason_results, end_results}
use Rattle.machine.specs.Operations.{result_of, machine_of, run_as, run_of}
use Rattle.machine.specs.Theorems.{none}
use Rattle.machine.specs.IntervalTimer.{timer_word, LeavesWord, FallsFromZero, TimedRunsExist}
use Rattle.machine.proofs.Laws.{get_d_sets_beside}
use Rattle.witnesses.proofs.OneFrame.{OneFrame, entry-in_frame_t, guest_frame_is_0}

-- A System/370 guest of one block from origin 0, its timer active and a residue short of a period, with a BC PSW at address 8. A program
-- exception is code 8.
description : List ℕ
description =
    sets
    (sets (sets (replicate 208 0) 1 (208 ∷ 2 ∷ 0 ∷ 4 ∷ 0x40 ∷ [])) 15 (1 ∷ psw_bytes (record { left = 0; right = 8; system370 = true })))
    204 (word_bytes 40959999)

numbers : Numbers
numbers = record { designation = 4096; clock = 0; time = 1; budget = 2 }

-- The tables stand in frame 1; every page stands in frame 0, where the guest has LR 0,0 at 8 and no instruction after it.
storage : List ℕ
storage = sets (sets (replicate 8192 0) 8 (0x18 ∷ [])) 4096 (word_bytes 4160)

keys : List ℕ
keys = 0 ∷ 0 ∷ []

tables : OneFrame (guest_of description) 1 storage
unfolding guest_of description storage word_at
tables = record {
  inside = λ page h. h.high;
  small = omega arith;
  segment = refl;
  zeros =
      λ i low high.
      get_d_sets_beside (sets (replicate 8192 0) 8 (0x18 ∷ [])) 4096 (word_bytes 4160) i 0 (inr (omega arith))
      ∙ get_d_sets_beside (replicate 8192 0) 8 (0x18 ∷ []) i 0 (inr (omega arith)) ∙ get_or-replicate 8192 i 0 0 (omega arith);
}

start : Machine
start = machine_of numbers description storage keys

-- the stores of a completed unit
stores_of : Outcome → List Located
stores_of (completed c e) = e.stores
stores_of (intercepted r c) = []
stores_of (faulted f) = []

-- the unit fetches the instruction and stores nothing
nothing_stored : stores_of (unit_from numbers start) ≡ []
unfolding stores_of start description numbers storage keys machine_of with_results end_results results unit_from host_of requested_by active
    guest_of cpu_of psw_of word_at double_at words_at unit not_installed malformed instruction halfword reading fetch_second fetch_third decoded
    intercepts misaligned wrap with_psw with_address advanced with_general access accesses and_then span when_reached in_page real_page settle
    prefixed key_protects low_protected view cell_of backing host_page in_storage host_entry walk walk_segment walk_page length_of number_of has find
    opcode_of execute load_register finish address_part operand_address
nothing_stored = refl

leaves_word : (i : ℕ) → i < 1 → LeavesWord numbers (run i numbers start).machine
unfolding run stores_of
leaves_word zero h c e is = rw (sym (ap stores_of is) ∙ nothing_stored) none
leaves_word (suc i) h c e is = absurd (omega arith)

-- the run, computed
falls_from_zero : FallsFromZero numbers description storage keys
unfolding description numbers storage keys start timer_word byte_of up_from run_of run_as run_verdict wrong_length wrong_version wrong_storage
    wrong_keys wrong_budget wrong_time used wrong_interval reserved_used word_at double_at words_at words_bytes guest_of cpu_of psw_of with_cpu
    with_results with_request with_interval entry_good mode_installed extent_fits prefix_fits prefix_short active falls residue_after word_after
    turns_negative request_after result_of machine_of end_results reason_results results_with reason_code results run onward step step_of ticked
    word_accesses word_in residue_from risen_to fallen_to with_tick with_word requested_by unit_from host_of behind_of marked_by after_unit counted
    charged with_timer timer_after unit instruction halfword reading fetch_second fetch_third decoded intercepts misaligned not_installed
    malformed wrap with_psw with_general with_address advanced access real_access accesses and_then span when_reached in_page real_page settle
    prefixed key_protects low_protected view cell_of backing host_page in_storage host_entry stored store_byte byte_in marked mark_key referenced
    changed walk walk_segment walk_page length_of number_of has find opcode_of execute load_register finish address_part operand_address with_bytes
    exception after_exception after_interception answered clears_t
falls_from_zero = record {
  timed = record {
    accepted = refl;
    good = refl;
    on = refl;
    apart =
        λ at frame entry guest e.
        omega (arith, entry-in_frame_t tables at entry.describes, guest_frame_is_0 tables frame guest.guest);
    small = omega arith;
    left = leaves_word;
  };
  ended = refl;
  word_before = refl;
  word_after_it = refl;
  residue_before = refl;
  residue_after_it = refl;
  request_before = refl;
  request_after_it = refl;
  key_before = refl;
  key_after_it = refl;
}

pub timed_runs_exist : TimedRunsExist
timed_runs_exist = (numbers, description, storage, keys, falls_from_zero)
