-- The proofs of machine's specs/IsolationIsNotEmpty: a guest on two hosts, with the host's tables in a frame of their own, and in the guest's.
use Prim.Native.Nat.{ℕ, zero, suc, ◌+◌, ◌*◌, ◌<◌}
use native.Mathlib.Omega.{arith}
use mathlib.Core.Path.{◌≡◌, refl, sym, ◌∙◌}
use mathlib.Core.Bool.{false}
use mathlib.Core.List.{List, [], ◌∷◌}
use mathlib.Core.Logic.{◌≢◌, inr}
use lib.ListN.{set, replicate, length-set, get_or-replicate}
use lib.Seq.{sets, get_or-set_other}
use Rattle.machine.specs.declared.End.TheVariants.{Intercepted}
use Rattle.machine.specs.declared.Numbers.{Numbers}
use Rattle.machine.specs.declared.Reason.TheVariants.{Instruction, Program}
use Rattle.machine.specs.Words.{byte_at, word_at, words_at, word_bytes, words_bytes}
use Rattle.machine.specs.Record.{guest_of, cpu_of, psw_of, psw_bytes, with_cpu, with_results}
use Rattle.machine.specs.Refusals.{wrong_length, wrong_version, wrong_storage, wrong_keys, wrong_budget, wrong_time, used, wrong_interval, reserved_used, run_verdict}
use Rattle.machine.specs.Interval.{active}
use Rattle.machine.specs.Entry.{entry_good, mode_installed, extent_fits, prefix_fits, prefix_short}
use Rattle.machine.specs.Psw.{not_installed, malformed, wrap, with_psw, with_timer, with_address, advanced}
use Rattle.machine.specs.Time.{charged}
use Rattle.machine.specs.Walk.{walk, walk_segment, walk_page}
use Rattle.machine.specs.Host.{host_entry, in_storage, host_page, backing, cell_of, view, store_byte, stored}
use Rattle.machine.specs.Frames.{InExtent}
use Rattle.machine.specs.Addresses.{prefixed, real_page, settle, key_protects, in_page, low_protected, access, and_then, accesses, span, when_reached}
use Rattle.machine.specs.Opcodes.{length_of, number_of, has, find, opcode_of}
use Rattle.machine.specs.Interruptions.{with_bytes, exception}
use Rattle.machine.specs.Execute.{address_part, operand_address, indexed_address, finish, storing, store, intercept_instruction, execute}
use Rattle.machine.specs.Units.{intercepts, misaligned, decoded, halfword, reading, fetch_third, fetch_second, instruction, unit}
use Rattle.machine.specs.Run.{host_of, requested_by, unit_from, behind_of, after_unit, after_interception, answered, ticked, step_of, step, counted, onward, run}
use Rattle.machine.specs.Answers.{results, end_results, run_answer}
use Rattle.machine.specs.Operations.{result_of, machine_of, run_as, run_of}
use Rattle.machine.specs.Isolation.{RunFrame, AgreeButApart}
use Rattle.machine.specs.IsolationIsNotEmpty.{AgreeingHostsExist, EntriesMustBeApart}
use Rattle.machine.proofs.Laws.{get_d_sets_beside, SameBytes}
use Rattle.machine.proofs.Runs.{same_end}
use Rattle.witnesses.proofs.OneFrame.{OneFrame, entry-in_frame_t, guest_frame_is_0}

-- A guest of one block from origin 0, with the PSW 00080000 80000008 and 1000 hex in general register 1. A program exception is code 8.
description : List ℕ
description =
    set
    (sets (sets (replicate 200 0) 1 (200 ∷ 1 ∷ 0 ∷ 8 ∷ 0x40 ∷ [])) 15
    (1 ∷ psw_bytes (record { left = 0x80000; right = 0x80000008; system370 = false })))
    142 0x10

-- The host's tables stand in frame t, which is 0 or 1.
numbers : ℕ → Numbers
numbers t = record { designation = t * 4096; clock = 0; time = 1; budget = 2 }

-- The segment entry, at the start of frame t, names the page table 64 bytes on; its sixteen entries are zero, so that every page stands in
-- frame 0. At 8 there the guest has ST 1,64, which moves page 0 to frame 1 if the tables stand in frame 0 too.
storage₁ : ℕ → List ℕ
storage₁ t = sets (sets (replicate ((t + 2) * 4096) 0) 8 (word_bytes 0x50100040)) (t * 4096) (word_bytes (t * 4096 + 64))

keys₁ : ℕ → List ℕ
keys₁ t = replicate (t + 2) 0

-- The other host differs in frame t + 1: in the byte at 12, where page 0 has the guest's next instruction, and in the key.
place : ℕ → ℕ
place t = (t + 1) * 4096 + 12

storage₂ : ℕ → List ℕ
storage₂ t = set (storage₁ t) (place t) 0x83

keys₂ : ℕ → List ℕ
keys₂ t = set (keys₁ t) (t + 1) 0x10

segment-entry : (t : ℕ) → t < 2 → word_at (storage₁ t) (t * 4096) ≡ t * 4096 + 64
unfolding storage₁ word_at
segment-entry zero h = refl
segment-entry (suc zero) h = refl
segment-entry (suc (suc t)) h = absurd (omega arith)

page_of_extent : (page : ℕ) → InExtent (guest_of description) page → page < 16
unfolding guest_of description
page_of_extent page h = h.high

module _ (t : ℕ) (small : t < 2) where
  page-table_is_zero : SameBytes (storage₁ t) [] (t * 4096 + 64) (t * 4096 + 128)
  unfolding storage₁
  page-table_is_zero i low high =
      get_d_sets_beside (sets zeros 8 (word_bytes 0x50100040)) (t * 4096) (word_bytes (t * 4096 + 64)) i 0 (inr (omega arith))
      ∙ get_d_sets_beside zeros 8 (word_bytes 0x50100040) i 0 (inr (omega arith))
      ∙ get_or-replicate ((t + 2) * 4096) i 0 0 (omega arith)
    where
      zeros : List ℕ
      zeros = replicate ((t + 2) * 4096) 0

  table : OneFrame (guest_of description) t (storage₁ t)
  table = record { inside = page_of_extent; small = small; segment = segment-entry t small; zeros = page-table_is_zero }

  hosts_agree : AgreeButApart (numbers t) description (storage₁ t) (keys₁ t) (storage₂ t) (keys₂ t)
  unfolding numbers storage₂ keys₂ place
  hosts_agree = record {
    lengths = (simp length-set, simp length-set);
    entries = λ at i h low high. byte i (λ e. omega (arith, entry-in_frame_t table at h.describes));
    frames = λ frame i h below. byte (frame * 4096 + i) (λ e. omega (arith, guest_frame_is_0 table frame h.guest));
    keys = λ frame h. sym (get_or-set_other (keys₁ t) (t + 1) frame 0x10 0 (λ e. omega (arith, guest_frame_is_0 table frame h.guest)));
  }
    where
      byte : (i : ℕ) → i ≢ place t → byte_at (storage₁ t) i ≡ byte_at (storage₂ t) i
      byte i h = sym (get_or-set_other (storage₁ t) (place t) i 0x83 0 h)

frame_0 : RunFrame (numbers 1) description (storage₁ 1) (keys₁ 1) 0
unfolding description numbers storage₁ keys₁ run_verdict wrong_length wrong_version wrong_storage wrong_keys wrong_budget wrong_time used
    wrong_interval reserved_used word_at guest_of entry_good mode_installed extent_fits prefix_fits prefix_short
frame_0 = record {
  accepted = refl;
  guest = record {
    good = refl;
    page = 0;
    inside = record { low = omega arith; high = omega arith };
    valid = record {
      reach = record {
        segment = record { in_table = refl; in_storage = omega arith };
        valid = refl;
        formed = refl;
        in_table = refl;
        in_storage = omega arith;
      };
      valid = refl;
      formed = refl;
    };
    named = refl;
    present = omega arith;
  };
}

-- With the tables in frame 1 the store changes a byte of frame 0, and an unassigned opcode follows it. With the tables in frame 0 the
-- guest's second instruction comes from frame 1: unassigned on the first host, DIAGNOSE on the second.
answers : ((run_of (numbers 1) description (storage₁ 1) (keys₁ 1)).answer ≡ run_answer (Intercepted (Program 1 1 0)) 1)
    × (byte_at (run_of (numbers 1) description (storage₁ 1) (keys₁ 1)).storage 66 ≡ 0x10)
    × ((run_of (numbers 0) description (storage₁ 0) (keys₁ 0)).answer ≡ run_answer (Intercepted (Program 1 1 0)) 1)
    × ((run_of (numbers 0) description (storage₂ 0) (keys₂ 0)).answer
    ≡ run_answer (Intercepted (Instruction (record { ilc = 2; first = 0x8300; second = 0; third = 0 }))) 1)
unfolding description numbers storage₁ keys₁ storage₂ keys₂ place run_of run_as run_verdict wrong_length wrong_version wrong_storage wrong_keys
    wrong_budget wrong_time used wrong_interval reserved_used word_at words_at words_bytes guest_of cpu_of psw_of with_cpu with_results entry_good
    mode_installed extent_fits prefix_fits prefix_short active requested_by ticked has result_of machine_of end_results results run onward step
    step_of unit_from host_of behind_of after_unit after_interception answered counted charged with_timer unit instruction halfword reading
    fetch_second fetch_third decoded intercepts misaligned not_installed malformed wrap with_psw with_address advanced access accesses and_then
    span when_reached in_page real_page settle prefixed key_protects low_protected view cell_of backing host_page in_storage host_entry stored
    store_byte walk walk_segment walk_page length_of number_of find opcode_of execute store storing finish address_part operand_address
    indexed_address intercept_instruction with_bytes exception
answers = (refl, refl, refl, refl)

pub agreeing_hosts_exist : AgreeingHostsExist
unfolding numbers place storage₁ storage₂ keys₁ keys₂
agreeing_hosts_exist = (
  numbers 1,
  description,
  storage₁ 1,
  keys₁ 1,
  storage₂ 1,
  keys₂ 1,
  record {
    agree = record {
      alike = hosts_agree 1 (omega arith);
      apart =
          let tables = table 1 (omega arith) in
          λ at frame entry guest e.
          omega (arith, entry-in_frame_t tables at entry.describes, guest_frame_is_0 tables frame guest.guest);
    };
    end = Intercepted (Program 1 1 0);
    units = 1;
    ended = answers.0;
    some = omega arith;
    stored = 66;
    inside = frame_0;
    changed = λ e. omega (arith, answers.1);
    place = place 1;
    outside = λ h. omega (arith, guest_frame_is_0 (table 1 (omega arith)) _ h.guest);
    other_byte = λ e. omega arith;
    other_key = λ e. omega arith;
  },
)

pub entries_must_be_apart : EntriesMustBeApart
entries_must_be_apart = (
  numbers 0,
  description,
  storage₁ 0,
  keys₁ 0,
  storage₂ 0,
  keys₂ 0,
  hosts_agree 0 (omega arith),
  λ same. let ends = same_end (sym answers.2 ∙ same ∙ answers.3) in let z : ◌≡◌ {A = ℕ} 0 1 = cc in omega arith,
)
