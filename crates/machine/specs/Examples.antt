-- Document 01, "Case file and worked examples": the starred examples, as one collection under a single statement. Then those of
-- request 1/12, and those of request 2/12, as others.
use Rattle.std.specs.Prelude.{ℕ, ◌-◌, ◌*◌, ◌/◌, ◌^◌, ◌≤◌, ◌≡◌, Bool, true, false, List, [], ◌∷◌, length, Ok}
use Rattle.machine.specs.declared.Class.TheVariants.{Ar, Mandatory, Unassigned}
use Rattle.machine.specs.declared.Cpu.{Cpu}
use Rattle.machine.specs.declared.End.TheVariants.{HostFault}
use Rattle.machine.specs.declared.Guest.{Guest}
use Rattle.machine.specs.declared.Psw.{Psw}
use Rattle.machine.specs.declared.Reason.TheVariants.{External, Validity}
use Rattle.machine.specs.declared.Stage.TheVariants.{GuestSegment, GuestPage, HostPage}
use Rattle.machine.specs.declared.Translated.TheVariants.{Address, Failed}
use Rattle.machine.specs.Words.{bits, word_at}
use Rattle.machine.specs.Record.{system370_mode, guest_of, cpu_of, psw_bytes}
use Rattle.machine.specs.Interval.{falls, residue_after, word_after, request_after}
use Rattle.machine.specs.Refusals.{translate_verdict, no_refusal}
use Rattle.machine.specs.Entry.{extent_bytes, mode_installed, entry_good}
use Rattle.machine.specs.Psw.{psw_bit, basic_control, extended_control, dat_on, io_enabled, external_enabled, access_key, condition_code, overflow_enabled, mode31, not_installed, malformed, control, general, with_address, old_psw}
use Rattle.machine.specs.Time.{guest_clock, comparator_due, timer_due, charged}
use Rattle.machine.specs.Failures.{protection, addressing, segment_translation, page_translation, translation_specification, host_fault, exception_of, walk_exception}
use Rattle.machine.specs.Host.{Host, Cell, view}
use Rattle.machine.specs.Addresses.{prefixed, guest_entry, format_good, real_page, access, denied}
use Rattle.machine.specs.Opcodes.{opcode_of}
use Rattle.machine.specs.Outcomes.{Effects, completed, intercepted, Progress}
use Rattle.machine.specs.Interruptions.{fields_beside}
use Rattle.machine.specs.Execute.{r1, r2, execute}
use Rattle.machine.specs.Units.{stop_requested, unit}
use Rattle.machine.specs.Sought.{nowhere, sought, end_sought}
use Rattle.machine.specs.Operations.{translate}
use Rattle.machine.specs.Walk.{at_frame}

-- the setup: any record, storage and keys with these words, numbers and bits
pub record Setup (r : List ℕ) (h : Host) : Type 0 where
  pub accepted : translate_verdict r h.storage h.keys 0 ≡ no_refusal
  pub designation : h.designation ≡ 0x1000
  pub segment : word_at h.storage 4096 ≡ 0x2000
  pub page : word_at h.storage 8192 ≡ 0x3000
  pub page_after : word_at h.storage 8196 ≡ 0x0400
  pub frames : length h.storage ≡ 8 * 4096
  pub mode : mode_installed (guest_of r) ≡ true
  pub origin : (guest_of r).origin ≡ 0
  pub extent : (guest_of r).extent ≡ 1
  pub prefix : (guest_of r).prefix ≡ 0
  pub dat_off : dat_on (cpu_of r) ≡ false
  pub key : access_key (cpu_of r) ≡ 0
  pub bit32 : mode31 (cpu_of r) ≡ true

pub record StarredExamples : Type 0 where
  pub fetch_at0 : (r : List ℕ) (h : Host) → Setup r h → translate r h 0 0 ≡ Ok (Address 12288)
  pub fetch_at4095 : (r : List ℕ) (h : Host) → Setup r h → translate r h 4095 0 ≡ Ok (Address 16383)
  pub fetch_at4096 : (r : List ℕ) (h : Host) → Setup r h → translate r h 4096 0 ≡ Ok (Failed (host_fault 4096 page_translation) (record { stage = HostPage; entry = 0x2004 }))
  pub fetch_at65536 : (r : List ℕ) (h : Host) → Setup r h → translate r h 65536 0 ≡ Ok (Failed (exception_of addressing) nowhere)
  pub prefix_for0 : (r : List ℕ) → word_at r 8 ≡ 0x2000 → prefixed (guest_of r) 0 ≡ 0x2000
  pub prefix_for2010 : (r : List ℕ) → word_at r 8 ≡ 0x2000 → prefixed (guest_of r) 0x2010 ≡ 0x10
  pub prefix_for1000 : (r : List ℕ) → word_at r 8 ≡ 0x2000 → prefixed (guest_of r) 0x1000 ≡ 0x1000
  pub segment_past_table : (g : Guest) (v : ℕ → Cell) (c : Cpu) → dat_on c ≡ true → format_good c ≡ true → bits 32 25 31 (control c 1) ≡ 0
      → access g v c false 0x01000000 ≡ denied (record { host = false; code = segment_translation; address = 0x01000000 })
  pub timer_at0 : (c : Cpu) → c.timer ≡ 5 → ((charged c 5).timer ≡ 0) × (timer_due (charged c 5) ≡ false)
  pub timer_below0 : (c : Cpu) → c.timer ≡ 5 → ((charged (charged c 5) 5).timer ≡ 2 ^ 64 - 5) × (timer_due (charged (charged c 5) 5) ≡ true)
  pub timer_wraps : (c : Cpu) → c.timer ≡ 2 ^ 63 → (charged c 1).timer ≡ 2 ^ 63 - 1
  pub comparator_reached : (g : Guest) (clock : ℕ) → guest_clock g clock ≡ g.comparator → comparator_due g clock ≡ false
  pub add_overflows : (x : Progress) → length x.cpu.general.words ≡ 16 → general x.cpu (r1 x) ≡ 0x7fffffff → general x.cpu (r2 x) ≡ 1
      → overflow_enabled x.cpu ≡ false
      → (c : Cpu) × (e : Effects) × (execute Ar x ≡ completed c e) × (general c (r1 x) ≡ 0x80000000) × (condition_code c ≡ 3)

-- Request 1/12: System/370 guests

-- a BC PSW, with a code and an ILC of its own as they were loaded
abbrev pub basic_psw : Psw
basic_psw = record { left = 0xff051111; right = 0x5a001008; system370 = true }

pub record System370Examples : Type 0 where
  pub mode_needs_version2 : (g : Guest) → system370_mode g.mode ≡ true → g.version ≡ 1 → entry_good g ≡ false
  pub mode_enters : (g : Guest) → g.mode ≡ 4 → g.version ≡ 2 → g.origin ≡ 0 → g.extent ≡ 1 → g.prefix ≡ 0 → entry_good g ≡ true
  pub prefix_of24_bits : (g : Guest) → system370_mode g.mode ≡ true → 4096 ≤ g.prefix → entry_good g ≡ false
  pub basic_has_no_dat : (c : Cpu) → basic_control c ≡ true → dat_on c ≡ false
  pub any_channel : (c : Cpu) → basic_control c ≡ true → psw_bit 0 c ≡ true → io_enabled c ≡ true
  pub basic_is_well_formed : (c : Cpu) → basic_control c ≡ true → (not_installed c ≡ false) × (malformed c ≡ false)
  pub extended_dat : (g : Guest) (clock : ℕ) (requested : Bool) (v : ℕ → Cell) (c : Cpu) → stop_requested g ≡ false → extended_control c ≡ true
      → psw_bit 5 c ≡ true → unit g clock requested v c ≡ intercepted Validity c
  pub basic_old_psw : (c : Cpu) → c.psw ≡ basic_psw → psw_bytes (old_psw c 2 8) ≡ 0xff ∷ 0x05 ∷ 0x00 ∷ 0x08 ∷ 0x9a ∷ 0x00 ∷ 0x10 ∷ 0x08 ∷ []
  pub nothing_beside : (c : Cpu) (fields : List ℕ) → basic_control c ≡ true → fields_beside c fields ≡ []
  pub basic_branch : (c : Cpu) → c.psw ≡ basic_psw
      → ((with_address c 0x01002000).psw.left ≡ 0xff051111) × ((with_address c 0x01002000).psw.right ≡ 0x5a002000)
  pub io_instructions : (first : ℕ) → first / 256 ≡ 0x9c
      → ((opcode_of true first).class ≡ Mandatory) × ((opcode_of false first).class ≡ Unassigned)
  pub xa_instructions : ((opcode_of true 0xb230).class ≡ Unassigned) × ((opcode_of false 0xb230).class ≡ Mandatory)
  pub residue_goes_on : (falls 40959999 1 ≡ true) × (residue_after 40959999 1 ≡ 2)
  pub word_wraps : word_after 255 ≡ 0xffffffff
  pub turns_at255 : request_after 0 255 ≡ 0x80
  pub not_at256 : request_after 0 256 ≡ 0
  pub not_when_negative : request_after 0 0x80000100 ≡ 0
  pub not_when_it_turns_positive : request_after 0 0x80000000 ≡ 0
  pub stays_set : (w : ℕ) → request_after 0x80 w ≡ 0x80
  pub request_makes_code20 : (g : Guest) (clock : ℕ) (v : ℕ → Cell) (c : Cpu) → stop_requested g ≡ false → basic_control c ≡ true
      → external_enabled c ≡ true → control c 0 ≡ 0x80 → unit g clock true v c ≡ intercepted (External 0x0080) c

-- Request 2/12: which table was bad

-- a guest with DAT on and a good CR0, whose segment table stands at 1000 hex and has 16 entries
pub record GuestTables (c : Cpu) : Type 0 where
  pub dat : dat_on c ≡ true
  pub format : format_good c ≡ true
  pub designation : control c 1 ≡ 0x1000

pub record WhichTableExamples : Type 0 where
  pub segment_past_table : (g : Guest) (h : Host) (c : Cpu) → GuestTables c
      → sought g h c 0x01000000 (walk_exception 0x01000000 segment_translation) ≡ record { stage = GuestSegment; entry = 0 }
  pub segment_invalid : (g : Guest) (h : Host) (c : Cpu) → GuestTables c → guest_entry g (view g h) 0x1004 ≡ Ok 0x20
      → sought g h c 0x00100000 (walk_exception 0x00100000 segment_translation) ≡ record { stage = GuestSegment; entry = 0x1004 }
  pub page_past_table : (g : Guest) (h : Host) (c : Cpu) → GuestTables c → guest_entry g (view g h) 0x1000 ≡ Ok 0x2000
      → sought g h c 0x00010000 (walk_exception 0x00010000 page_translation) ≡ record { stage = GuestPage; entry = 0 }
  pub page_invalid : (g : Guest) (h : Host) (c : Cpu) → GuestTables c → guest_entry g (view g h) 0x1000 ≡ Ok 0x2000
      → guest_entry g (view g h) 0x2004 ≡ Ok 0x0400
      → sought g h c 0x1000 (walk_exception 0x1000 page_translation) ≡ record { stage = GuestPage; entry = 0x2004 }
  pub segment_past_extent : (g : Guest) (h : Host) (c : Cpu) → GuestTables c → extent_bytes g ≤ prefixed g 0x1000
      → sought g h c 0 (exception_of addressing) ≡ record { stage = GuestSegment; entry = 0 }
  pub page_past_extent : (g : Guest) (h : Host) (c : Cpu) → GuestTables c → guest_entry g (view g h) 0x1000 ≡ Ok 0x2000
      → extent_bytes g ≤ prefixed g 0x2000 → sought g h c 0 (exception_of addressing) ≡ record { stage = GuestPage; entry = 0 }
  pub final_past_extent : (g : Guest) (h : Host) (c : Cpu) (a frame : ℕ) (protected : Bool) → real_page g (view g h) c a ≡ at_frame frame protected
      → sought g h c a (exception_of addressing) ≡ nowhere
  pub bad_format : (g : Guest) (h : Host) (c : Cpu) (a : ℕ) → format_good c ≡ false → sought g h c a (exception_of translation_specification) ≡ nowhere
  pub guest_protection : (g : Guest) (h : Host) (c : Cpu) (a : ℕ) → sought g h c a (exception_of protection) ≡ nowhere
  pub host_protection : (g : Guest) (h : Host) (c : Cpu) (a at : ℕ) → sought g h c a (host_fault at protection) ≡ nowhere
  -- of the starred setup, whose page entry at 2004 hex is invalid: whatever the guest wanted there, a table entry of its own too; the end of
  -- a run; a frame beyond the storage
  pub behind_any_address : (r : List ℕ) (h : Host) → Setup r h → (g : Guest) (c : Cpu) (a : ℕ)
      → sought g h c a (host_fault 4096 page_translation) ≡ record { stage = HostPage; entry = 0x2004 }
  pub end_of_run : (r : List ℕ) (h : Host) → Setup r h
      → end_sought h.designation h.storage (HostFault (host_fault 4096 page_translation)) ≡ record { stage = HostPage; entry = 0x2004 }
  pub frame_beyond_storage : (r : List ℕ) (h : Host) → Setup r h → word_at h.storage 8200 ≡ 0x8000
      → translate r h 8192 0 ≡ Ok (Failed (host_fault 8192 addressing) (record { stage = HostPage; entry = 0x2008 }))
