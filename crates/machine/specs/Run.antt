-- The run: units of the definition, one after the other. Between two units the state is the record, the host clock, the storage and
-- the keys; nothing else is carried over. Request 1/12: the interval timer's word falls at the end of a unit.
use Rattle.std.specs.Prelude.{ℕ, zero, suc, Bool, true, false, cond, not, ◌&&◌, List, ◌++◌, eqb}
use Rattle.machine.specs.declared.Cpu.{Cpu}
use Rattle.machine.specs.declared.End.{End}
use Rattle.machine.specs.declared.End.TheVariants.{Intercepted, HostFault, BudgetUsed}
use Rattle.machine.specs.declared.Numbers.{Numbers}
use Rattle.machine.specs.declared.Reason.{Reason}
use Rattle.machine.specs.declared.Reason.TheVariants.{Instruction, Program, ExternalRequest, External, IoRequest, Wait, Validity, Stop, Operation}
use Rattle.machine.specs.Words.{word_at, word_bytes}
use Rattle.machine.specs.Record.{guest_of, cpu_of, with_cpu, request_of, residue_of, with_request, with_interval}
use Rattle.machine.specs.Interval.{word_place, active, falls, residue_after, word_after, pending, without_t, request_after}
use Rattle.machine.specs.Time.{clock_after, charged}
use Rattle.machine.specs.Host.{Host, host, backing, view, Located, places, stored, bytes_behind, marked, referenced, changed}
use Rattle.machine.specs.Addresses.{Accesses, real_access, accesses, up_from, when_reached}
use Rattle.machine.specs.Outcomes.{Effects, Outcome, completed, intercepted, faulted}
use Rattle.machine.specs.Interruptions.{with_bytes}
use Rattle.machine.specs.Units.{interval_code, unit}
use Rattle.machine.specs.Walk.{Walk}

pub record Machine : Type 0 where
  pub description : List ℕ
  pub clock : ℕ
  pub storage : List ℕ
  pub keys : List ℕ

-- the host as a unit finds it
unfoldable pub host_of : Numbers → Machine → Host
host_of n m = host n.designation m.storage m.keys

-- the interval timer is active, and its request T is one
unfoldable pub requested_by : List ℕ → Bool
requested_by r = active (guest_of r) && pending (request_of r)

-- the unit that starts here
unfoldable pub unit_from : Numbers → Machine → Outcome
unit_from n m =
    unit (guest_of m.description) m.clock (requested_by m.description) (view (guest_of m.description) (host_of n m))
    (cpu_of m.description)

-- the host pages behind guest absolute addresses, as the unit finds them
unfoldable pub behind_of : Numbers → Machine → ℕ → Walk
behind_of n m = backing (guest_of m.description) (host_of n m)

-- Document 01, "Addresses": a completed unit sets key bit 5 for each frame fetched or stored and bit 6 for each stored
unfoldable pub marked_by : (ℕ → Walk) → Effects → List ℕ → List ℕ
marked_by behind e keys = marked behind changed (places e.stores) (marked behind referenced (e.fetched ++ places e.stores) keys)

-- a completed unit takes effect: stores, marks and time
unfoldable pub after_unit : Numbers → Machine → Cpu → Effects → Machine
after_unit n m c e = record {
  description = with_cpu (charged c n.time) m.description;
  clock = clock_after m.clock n.time;
  storage = stored (behind_of n m) e.stores m.storage;
  keys = marked_by (behind_of n m) e m.keys;
}

-- an interception changes the guest's state alone: no time, no marks, no count
unfoldable pub after_interception : Machine → Cpu → Machine
after_interception m c = record {
  description = with_cpu c m.description;
  clock = m.clock;
  storage = m.storage;
  keys = m.keys;
}

-- T is cleared by the exit that it makes, code 20 with 0080 hex, and by no other
unfoldable pub clears_t : Reason → Bool
clears_t (Instruction t) = false
clears_t (Program code ilc address) = false
clears_t ExternalRequest = false
clears_t (External code) = eqb code interval_code
clears_t IoRequest = false
clears_t Wait = false
clears_t Validity = false
clears_t Stop = false
clears_t (Operation t) = false

unfoldable pub answered : Reason → Machine → Machine
answered r m = record {
  description = cond (clears_t r) (with_request (without_t (request_of m.description)) m.description) m.description;
  clock = m.clock;
  storage = m.storage;
  keys = m.keys;
}

-- what a unit leads to: the machine that goes on, or the end of the run
pub data Step : Type 0 where
  goes : Machine → Step
  ends : End → Machine → Step

-- the machine with this request byte and residue
unfoldable pub with_tick : ℕ → ℕ → Machine → Machine
with_tick request residue m = record {
  description = with_interval request residue m.description;
  clock = m.clock;
  storage = m.storage;
  keys = m.keys;
}

-- the machine with this word stored at these places; no key is marked
unfoldable pub with_word : (ℕ → Walk) → List Located → ℕ → Machine → Machine
with_word behind at w m = record {
  description = m.description;
  clock = m.clock;
  storage = stored behind (with_bytes at (word_bytes w)) m.storage;
  keys = m.keys;
}

-- the bytes of the interval timer's word, accessed as for a store through the view of the unit: no key and no low-address protection
unfoldable pub word_accesses : Numbers → Machine → Accesses
word_accesses n m =
    accesses (real_access (guest_of m.description) (view (guest_of m.description) (host_of n m)) true) (up_from word_place 4)

-- the word at these places as the unit's own stores leave it
unfoldable pub word_in : Numbers → Machine → List Located → Machine → ℕ
word_in n m at after = word_at (bytes_behind (behind_of n m) after.storage at) 0

-- the residue after a unit from here
unfoldable pub residue_from : Numbers → Machine → ℕ
residue_from n m = residue_after (residue_of m.description) n.time

-- the residue rises, and the word stays
unfoldable pub risen_to : Numbers → Machine → Machine → Machine
risen_to n m after = with_tick (request_of m.description) (residue_from n m) after

-- the word falls, and T is set where it turns negative
unfoldable pub fallen_to : Numbers → Machine → Machine → List Located → Machine
fallen_to n m after at =
    with_tick (request_after (request_of m.description) w) (residue_from n m) (with_word (behind_of n m) at (word_after w) after)
  where
    w : ℕ
    w = word_in n m at after

-- A unit from `m` ends with the interval timer's update of what the unit left. A host fault there undoes the whole unit.
unfoldable pub ticked : Numbers → Machine → Machine → Step
ticked n m after =
    cond (not (active (guest_of m.description))) (goes after)
    (cond (not (falls (residue_of m.description) n.time)) (goes (risen_to n m after))
    (when_reached (word_accesses n m) (λ f. ends (HostFault f) m) λ at. goes (fallen_to n m after at)))

-- a host fault leaves all as the last completed unit left it
unfoldable pub step_of : Numbers → Machine → Outcome → Step
step_of n m (completed c e) = ticked n m (after_unit n m c e)
step_of n m (intercepted r c) = ends (Intercepted r) (answered r (after_interception m c))
step_of n m (faulted f) = ends (HostFault f) m

unfoldable pub step : Numbers → Machine → Step
step n m = step_of n m (unit_from n m)

-- how a run ends, with the units completed
pub record Ended : Type 0 where
  pub end : End
  pub units : ℕ
  pub machine : Machine

-- one completed unit more
unfoldable pub counted : Ended → Ended
counted e = record { end = e.end; units = suc e.units; machine = e.machine }

unfoldable pub onward : (Machine → Ended) → Step → Ended
onward rest (goes m) = counted (rest m)
onward rest (ends e m) = record { end = e; units = 0; machine = m }

-- the run of at most so many units; with no units left it ends as budget used
unfoldable pub run : ℕ → Numbers → Machine → Ended
run zero n m = record { end = BudgetUsed; units = 0; machine = m }
run (suc budget) n m = onward (run budget n) (step n m)
