-- What the run operation answers and leaves behind.
use Rattle.std.specs.Prelude.{ℕ, ◌≡◌, true, List}
use Rattle.machine.specs.declared.Guest.{Guest}
use Rattle.machine.specs.declared.Numbers.{Numbers}
use Rattle.machine.specs.Record.{guest_of}
use Rattle.machine.specs.Refusals.{run_verdict, RunAnswer, no_refusal}
use Rattle.machine.specs.Entry.{entry_good}
use Rattle.machine.specs.Operations.{Result, run_of}
use Rattle.desk.specs.Desk as desk
use Rattle.packing.specs.Packing.{packed_answer, place_after_run}
use Rattle.replies.specs.Replying.{packed_call, packed_listing}

-- the input of a run is accepted, and entry lets the guest through
pub record Starts (n : Numbers) (r storage keys : List ℕ) (g : Guest) : Type 0 where
  pub accepted : run_verdict n r storage keys ≡ no_refusal
  pub here : g ≡ guest_of r
  pub good : entry_good g ≡ true

-- a run answered, and left record, storage and keys, as a result says
pub record Gives (result : Result) (a : RunAnswer) (r storage keys : List ℕ) : Type 0 where
  pub answer : a ≡ result.answer
  pub description : r ≡ result.description
  pub bytes : storage ≡ result.storage
  pub marks : keys ≡ result.keys

-- run, packed: answer with its table and caller's place, record, storage and keys are those of the definition
pub record RunGives (n : Numbers) (r storage keys : List ℕ) (before x : ℕ) (r' storage' keys' : List ℕ) (after : ℕ) : Type 0 where
  pub answer : x ≡ packed_answer (run_of n r storage keys).answer (run_of n r storage keys).table
  pub place : after ≡ place_after_run (run_of n r storage keys).answer (run_of n r storage keys).table before
  pub description : r' ≡ (run_of n r storage keys).description
  pub bytes : storage' ≡ (run_of n r storage keys).storage
  pub marks : keys' ≡ (run_of n r storage keys).keys

-- a desk call, packed: answer, storage and number of valid pages are those of the definition
pub record DeskGives (result : desk.Result) (x : ℕ) (storage : List ℕ) (number : ℕ) : Type 0 where
  pub answer : x ≡ packed_call result.answer
  pub bytes : storage ≡ result.storage
  pub count : number ≡ result.number

-- a listing, packed: answer and workspace are those of the definition
pub record ListGives (result : desk.Listing) (x : ℕ) (words : List ℕ) : Type 0 where
  pub answer : x ≡ packed_listing result.answer
  pub shown : words ≡ result.words
