-- The interval timer's tick at the end of a unit, with the timer's fields in hand.
use Rattle.std.specs.Prelude.{ℕ, ◌+◌, ◌≤◌, ◌≡◌, Bool, true, false, cond, List, length, None, Some, Option, Err, Ok}
use Rattle.std.proofs.lemmas.List.Edits.{sets}
use Rattle.machine.specs.declared.End.{End}
use Rattle.machine.specs.declared.End.TheVariants as end
use Rattle.machine.specs.declared.Guest.{Guest}
use Rattle.machine.specs.declared.Numbers.{Numbers}
use Rattle.machine.specs.Words.{word_at, word_bytes}
use Rattle.machine.specs.Record.{guest_of}
use Rattle.machine.specs.Interval.{active, falls, word_after, without_t, request_after}
use Rattle.machine.specs.Run.{Machine, clears_t}
use Rattle.interruptions.specs.declared.Event.{Event}
use Rattle.interruptions.specs.declared.Event.TheVariants.{Completed, Intercepted, Faulted}
use Rattle.interval.specs.Standing.{Stands, InStorage, Word}

-- the request byte behind a unit that the timer's update does not follow: T is cleared by the exit that it makes
unfoldable pub request_behind : Event → ℕ → ℕ
request_behind Completed request = request
request_behind (Intercepted r) request = cond (clears_t r) (without_t request) request
request_behind (Faulted f) request = request

-- where the interval timer's word stands as a unit of this guest begins
pub record WordFound (designation : ℕ) (g : Guest) (storage : List ℕ) (w : Word) : Type 0 where
  pub stands : (n : Numbers) (m : Machine) → n.designation ≡ designation → m.storage ≡ storage → guest_of m.description ≡ g → Stands n m w
  pub inside : InStorage storage w

-- the word that falls at the end of a unit, if it does
abbrev pub Due : Type 0
Due = Option Word

-- what it does is found
abbrev pub DueFound : ℕ → Guest → List ℕ → ℕ → ℕ → Due → Type 0
DueFound designation g storage residue time None = active g ≡ true → falls residue time ≡ false
DueFound designation g storage residue time (Some (Ok p)) = (active g ≡ true) × (falls residue time ≡ true) × WordFound designation g storage (Ok p)
DueFound designation g storage residue time (Some (Err f)) = (active g ≡ true) × (falls residue time ≡ true) × WordFound designation g storage (Err f)

-- a word that falls lies in the storage
abbrev pub Reaches : List ℕ → Due → Type 0
Reaches storage None = Unit {0}
Reaches storage (Some (Ok p)) = p + 4 ≤ length storage
Reaches storage (Some (Err f)) = Unit {0}

-- the word cannot be stored into
abbrev pub is_shut : Due → Bool
is_shut None = false
is_shut (Some (Ok p)) = false
is_shut (Some (Err f)) = true

-- how the run ends where the unit would complete then
abbrev pub fault_end : Due → End
fault_end None = end.BudgetUsed
fault_end (Some (Ok p)) = end.BudgetUsed
fault_end (Some (Err f)) = end.HostFault f

-- the word falls, and T is set where it turns negative
abbrev pub Fallen : Due → ℕ → List ℕ → ℕ → List ℕ → Type 0
Fallen None request storage later storage' = (later ≡ request) × (storage' ≡ storage)
Fallen (Some (Ok p)) request storage later storage' =
    (later ≡ request_after request (word_at storage p)) × (storage' ≡ sets storage p (word_bytes (word_after (word_at storage p))))
Fallen (Some (Err f)) request storage later storage' = (later ≡ request) × (storage' ≡ storage)
