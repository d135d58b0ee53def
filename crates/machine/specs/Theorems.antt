-- What is proved of the definition, beside the worked examples and demand 3. Each statement is a type here; its proof is in proofs/.
use Rattle.std.specs.Prelude.{ℕ, ◌+◌, ◌-◌, ◌*◌, ◌%◌, ◌^◌, ◌≤◌, ◌<◌, ◌≡◌, Bool, true, false, List, [], ◌∷◌, ◌⊎◌, length, Err, Ok}
use Rattle.machine.specs.declared.Class.TheVariants.{Spt}
use Rattle.machine.specs.declared.Cpu.{Cpu}
use Rattle.machine.specs.declared.End.{End}
use Rattle.machine.specs.declared.End.TheVariants.{Intercepted, HostFault, BudgetUsed}
use Rattle.machine.specs.declared.Failure.{Failure}
use Rattle.machine.specs.declared.Guest.{Guest}
use Rattle.machine.specs.declared.Numbers.{Numbers}
use Rattle.machine.specs.declared.Reason.TheVariants.{External, Stop}
use Rattle.machine.specs.Words.{byte_at, half_at, double_at}
use Rattle.machine.specs.Record.{long_length, GoodLength, version_for, psw_at, timer_at, results_at, control_at, request_at, residue_at, guest_of, cpu_of, request_of, residue_of}
use Rattle.machine.specs.Interval.{active, period, without_t}
use Rattle.machine.specs.Sizes.{frame_bytes}
use Rattle.machine.specs.Refusals.{most_frames, most_units, most_time, check_verdict, translate_verdict, run_verdict, RunAnswer, no_refusal}
use Rattle.machine.specs.Entry.{extent_bytes, entry_good}
use Rattle.machine.specs.Psw.{wrap}
use Rattle.machine.specs.Time.{guest_clock, comparator_due}
use Rattle.machine.specs.Failures.{addressing, exception_of}
use Rattle.machine.specs.Host.{Host, host, Located, places, host_virtual, host_page, backing, view}
use Rattle.machine.specs.Addresses.{guest_entry, denied, access, all}
use Rattle.machine.specs.Opcodes.{opcode_of}
use Rattle.machine.specs.Outcomes.{Effects, completed, Progress}
use Rattle.machine.specs.Interruptions.{exception}
use Rattle.machine.specs.Execute.{storing}
use Rattle.machine.specs.Units.{halfword, half_of, started, interval_code, stop_requested}
use Rattle.machine.specs.Run.{Machine, goes, ends, step, host_of, unit_from, behind_of, marked_by, word_accesses, run}
use Rattle.machine.specs.Operations.{Result, machine_of, run_of}
use Rattle.machine.specs.Answers.{run_answer}
use Rattle.machine.specs.Walk.{Walk, at_frame}

-- the numbers with another budget
abbrev pub with_budget : Numbers → ℕ → Numbers
with_budget n budget = record { designation = n.designation; clock = n.clock; time = n.time; budget = budget }

-- a record, a storage and keys that no refusal names
pub record GoodInput (r storage keys : List ℕ) : Type 0 where
  pub long : GoodLength r
  pub length_field : half_at r 0 ≡ length r
  pub version : byte_at r 2 ≡ version_for (length r)
  pub reserved : (i : ℕ) → 66 ≤ i → i < 72 → byte_at r i ≡ 0
  pub reserved_too : length r ≡ long_length → (i : ℕ) → 201 ≤ i → i < 204 → byte_at r i ≡ 0
  pub residue : length r ≡ long_length → residue_of r < period
  pub frames : ℕ
  pub some : 0 < frames
  pub few : frames ≤ most_frames
  pub whole : length storage ≡ frames * frame_bytes
  pub each_key : length keys ≡ frames

-- good input is not refused
pub record GoodInputIsAccepted : Type 0 where
  pub by_check : (r storage keys : List ℕ) → GoodInput r storage keys → check_verdict r ≡ no_refusal
  pub by_translate : (r storage keys : List ℕ) (kind : ℕ) → GoodInput r storage keys → kind ≤ 2 → translate_verdict r storage keys kind ≡ no_refusal
  pub by_run : (n : Numbers) (r storage keys : List ℕ) → GoodInput r storage keys → n.budget ≤ most_units → 0 < n.time → n.time ≤ most_time
      → run_verdict n r storage keys ≡ no_refusal

-- on a good entry a run with budget 0 uses its budget, and one with a stop request and a budget is stopped
pub record BudgetAndStopDiffer : Type 0 where
  pub no_budget : (n : Numbers) (r storage keys : List ℕ) → run_verdict (with_budget n 0) r storage keys ≡ no_refusal → entry_good (guest_of r) ≡ true
      → (run_of (with_budget n 0) r storage keys).answer ≡ run_answer BudgetUsed 0
  pub stopped : (n : Numbers) (r storage keys : List ℕ) → run_verdict n r storage keys ≡ no_refusal → entry_good (guest_of r) ≡ true → 0 < n.budget
      → stop_requested (guest_of r) ≡ true → (run_of n r storage keys).answer ≡ run_answer (Intercepted Stop) 0

-- units counted on top of an answer's own
abbrev pub on_top_of : ℕ → RunAnswer → RunAnswer
on_top_of units (Err number) = Err number
on_top_of units (Ok stopped) = run_answer stopped.end (units + stopped.units)

-- the numbers with which a run is resumed after so many units
abbrev pub resumed_with : Numbers → ℕ → ℕ → Numbers
resumed_with n units budget = record {
  designation = n.designation;
  clock = (n.clock + units * n.time) % 2 ^ 64;
  time = n.time;
  budget = budget;
}

-- a run of budget `b` from what a first run of budget `a` left, where that used its budget; else the first run itself
abbrev pub resumed_at : Numbers → ℕ → ℕ → Result → ℕ → End → Result
resumed_at n a b first units (Intercepted reason) = first
resumed_at n a b first units (HostFault failure) = first
resumed_at n a b first units BudgetUsed = record {
  answer = on_top_of units second.answer;
  table = second.table;
  description = second.description;
  storage = second.storage;
  keys = second.keys;
}
  where
    second : Result
    second = run_of (resumed_with n a b) first.description first.storage first.keys

abbrev pub resumed_from : Numbers → ℕ → ℕ → Result → RunAnswer → Result
resumed_from n a b first (Err refusal) = first
resumed_from n a b first (Ok stopped) = resumed_at n a b first stopped.units stopped.end

-- RESUMPTION: a run of budget a + b is a run of budget a and then, where that used its budget, a run of budget b from the record, the
-- storage and the keys that it left, with the host clock advanced by a times the time
abbrev pub Resumption : Type 0
Resumption = (n : Numbers) (a b : ℕ) (r storage keys : List ℕ) → n.clock < 2 ^ 64 → a + b ≤ most_units
    → run_of (with_budget n (a + b)) r storage keys
    ≡ resumed_from n a b (run_of (with_budget n a) r storage keys) (run_of (with_budget n a) r storage keys).answer

-- the instruction at the PSW's address is SPT
pub record AtSpt (n : Numbers) (m : Machine) : Type 0 where
  pub text : List Located
  pub read : halfword (started (guest_of m.description) m.clock (view (guest_of m.description) (host_of n m)) (cpu_of m.description) 1) 0 ≡ all text
  pub class : (opcode_of (cpu_of m.description).psw.system370 (half_of text)).class ≡ Spt

-- THE TIMER: where none of the completed units starts at an SPT, the CPU timer has fallen by the time per unit, once for each of them,
-- however the run ended
abbrev pub TimerFalls : Type 0
TimerFalls = (n : Numbers) (r storage keys : List ℕ) (end : End) (units : ℕ) → double_at r timer_at < 2 ^ 64
    → (run_of n r storage keys).answer ≡ run_answer end units
    → ((i : ℕ) → i < units → AtSpt n (run i n (machine_of n r storage keys)).machine → ⊥)
    → double_at (run_of n r storage keys).description timer_at ≡ (double_at r timer_at + units * (2 ^ 64 - n.time)) % 2 ^ 64

-- the exit that the interval timer's request makes: code 20 with 0080 hex
abbrev pub interval_exit : End
interval_exit = Intercepted (External interval_code)

-- an exit is no unit: it charges no time, to the interval timer neither, stores nothing and marks nothing. T stays as it is, but for the
-- exit that it makes, which clears it.
pub record Uncharged (end : End) (before after : Machine) : Type 0 where
  pub timer : double_at after.description timer_at ≡ double_at before.description timer_at
  pub residue : residue_of after.description ≡ residue_of before.description
  pub request : (end ≡ interval_exit → ⊥) → request_of after.description ≡ request_of before.description
  pub cleared : end ≡ interval_exit → request_of after.description ≡ without_t (request_of before.description)
  pub clock : after.clock ≡ before.clock
  pub storage : after.storage ≡ before.storage
  pub keys : after.keys ≡ before.keys

abbrev pub ExitChargesNothing : Type 0
ExitChargesNothing = (n : Numbers) (m after : Machine) (end : End) → GoodLength m.description
    → double_at m.description timer_at < 2 ^ 64 → step n m ≡ ends end after → Uncharged end m after

-- a host fault leaves what the run of just the completed units leaves
abbrev pub HostFaultUndoesItsUnit : Type 0
HostFaultUndoesItsUnit = (n : Numbers) (r storage keys : List ℕ) (f : Failure) (units : ℕ)
    → (run_of n r storage keys).answer ≡ run_answer (HostFault f) units
    → ((run_of n r storage keys).description ≡ (run_of (with_budget n units) r storage keys).description)
    × ((run_of n r storage keys).storage ≡ (run_of (with_budget n units) r storage keys).storage)
    × ((run_of n r storage keys).keys ≡ (run_of (with_budget n units) r storage keys).keys)

-- each number of a list
pub data Each (P : ℕ → Type 0) : List ℕ → Type 0 where
  none : Each P []
  more : {a : ℕ} {l : List ℕ} → P a → Each P l → Each P (a ∷ l)

-- a host page is behind a guest absolute address
pub record HasPage (behind : ℕ → Walk) (a : ℕ) : Type 0 where
  pub frame : ℕ
  pub protected : Bool
  pub page : behind a ≡ at_frame frame protected

-- no store and no mark is dropped: a host page is behind each place that a completed unit fetched from or stored into
abbrev pub EffectsAreBacked : Type 0
EffectsAreBacked = (n : Numbers) (m : Machine) (c : Cpu) (e : Effects) → unit_from n m ≡ completed c e
    → Each (HasPage (behind_of n m)) e.fetched × Each (HasPage (behind_of n m)) (places e.stores)

-- nor is the interval timer's: a host page is behind each byte of its word that was reached
abbrev pub WordIsBacked : Type 0
WordIsBacked = (n : Numbers) (m : Machine) (at : List Located) → word_accesses n m ≡ all at → Each (HasPage (behind_of n m)) (places at)

-- the keys after a completed unit have the marks of its own effects alone: the interval timer's update marks none
abbrev pub MarksAreTheUnits : Type 0
MarksAreTheUnits = (n : Numbers) (m next : Machine) (c : Cpu) (e : Effects) → unit_from n m ≡ completed c e → step n m ≡ goes next
    → next.keys ≡ marked_by (behind_of n m) e m.keys

-- the host fault of a run is the host's, and no exception of the guest
abbrev pub FaultsAreTheHosts : Type 0
FaultsAreTheHosts = (n : Numbers) (r storage keys : List ℕ) (f : Failure) (units : ℕ)
    → (run_of n r storage keys).answer ≡ run_answer (HostFault f) units → f.host ≡ true

-- the unit count never exceeds the budget
abbrev pub UnitsWithinBudget : Type 0
UnitsWithinBudget = (n : Numbers) (r storage keys : List ℕ) (end : End) (units : ℕ)
    → (run_of n r storage keys).answer ≡ run_answer end units → units ≤ n.budget

-- lengths are kept
pub record LengthsKept : Type 0 where
  pub of_record : (n : Numbers) (r storage keys : List ℕ) → length (run_of n r storage keys).description ≡ length r
  pub of_storage : (n : Numbers) (r storage keys : List ℕ) → length (run_of n r storage keys).storage ≡ length storage
  pub of_keys : (n : Numbers) (r storage keys : List ℕ) → length (run_of n r storage keys).keys ≡ length keys

-- a byte of the record that no rule names: not of the PSW, the CPU timer, the results or the registers, nor, where the interval timer is
-- active, its request byte or of its residue
abbrev pub Unnamed : Bool → ℕ → Type 0
Unnamed timed i =
    (i < psw_at) ⊎ ((timer_at + 8 ≤ i) × (i < results_at)) ⊎ ((results_at + 14 ≤ i) × (i < control_at)) ⊎ ((request_at < i) × (i < residue_at))
    ⊎ ((timed ≡ false) × (request_at ≤ i))

-- every such byte is kept, V (byte 3) among them
abbrev pub BytesKept : Type 0
BytesKept = (n : Numbers) (r storage keys : List ℕ) (i : ℕ) → Unnamed (active (guest_of r)) i
    → byte_at (run_of n r storage keys).description i ≡ byte_at r i

-- Slips that the definition does not make: a store is an exception where any of its bytes is denied, on whichever page; the extent is
-- tested before the origin is added; clocks are compared unsigned; keys do not guard table reads.
pub record SlipsRuledOut : Type 0 where
  pub every_byte_is_checked : (x : Progress) (a i : ℕ) (bytes : List ℕ) (c : Cpu) (f : Failure) → i < length bytes
      → access x.guest x.view x.cpu true (wrap x.cpu (a + i)) ≡ denied f
      → (first : Failure) × (storing x a bytes c ≡ exception x x.cpu first)
  pub extent_before_origin : (g : Guest) (h : Host) (a : ℕ) → a < extent_bytes g → backing g h a ≡ host_page h (host_virtual g a)
  pub past_the_extent : (g : Guest) (h : Host) (a : ℕ) → extent_bytes g ≤ a → backing g h a ≡ Err (exception_of addressing)
  pub clocks_are_unsigned : (g : Guest) (clock : ℕ) → g.comparator < guest_clock g clock → comparator_due g clock ≡ true
  pub table_reads_ignore_keys : (g : Guest) (d : ℕ) (storage keys₁ keys₂ : List ℕ) (real : ℕ)
      → guest_entry g (view g (host d storage keys₁)) real ≡ guest_entry g (view g (host d storage keys₂)) real
