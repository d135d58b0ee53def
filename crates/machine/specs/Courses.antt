-- TWO READINGS over runs one after the other, request 5/12: the values that STCK stores differ in a run that is cut and resumed, and in any
-- course of runs whose host clock is not set back. The proofs are in proofs/Courses.
use Rattle.std.specs.Prelude.{ℕ, ◌+◌, ◌*◌, ◌%◌, ◌^◌, ◌≤◌, ◌<◌, ◌≡◌, List, [], ◌∷◌, Err, Ok}
use Rattle.machine.specs.declared.Numbers.{Numbers}
use Rattle.machine.specs.Record.{guest_of}
use Rattle.machine.specs.Operations.{Result, run_of}
use Rattle.machine.specs.Theorems.{with_budget, resumed_with}
use Rattle.machine.specs.Readings.{StoresClock, before_unit}
use Rattle.machine.specs.Refusals.{RunAnswer}

-- one run of a course, and how far the host clock goes on between it and the next
pub record Stretch : Type 0 where
  pub numbers : Numbers
  pub description : List ℕ
  pub storage : List ℕ
  pub keys : List ℕ
  pub pause : ℕ

-- the units that an answer counts
abbrev pub units_in : RunAnswer → ℕ
units_in (Err number) = 0
units_in (Ok stopped) = stopped.units

abbrev pub units_of : Stretch → ℕ
units_of s = units_in (run_of s.numbers s.description s.storage s.keys).answer

-- how far the host clock goes on until the next run
abbrev pub lasts : Stretch → ℕ
lasts s = units_of s * s.numbers.time + s.pause

unfoldable pub lasts_in_all : List Stretch → ℕ
lasts_in_all [] = 0
lasts_in_all (s ∷ more) = lasts s + lasts_in_all more

-- A course of runs: the epoch is the same in all, and each has the host clock to which those before it have come, from `clock` on. Else the
-- host may do what it likes between two runs: mend a page after a host fault, answer an interception, set registers and storage.
pub data Course (epoch : ℕ) : ℕ → List Stretch → Type 0 where
  over : {clock : ℕ} → Course epoch clock []
  then : {clock : ℕ} {s : Stretch} {more : List Stretch} → (guest_of s.description).epoch ≡ epoch
      → s.numbers.clock % 2 ^ 64 ≡ clock % 2 ^ 64 → Course epoch (clock + lasts s) more → Course epoch clock (s ∷ more)

-- unit `i` of a course, counted from 0 through all its runs, executes STCK and stores `value`
pub data StoresIn : List Stretch → ℕ → ℕ → Type 0 where
  in_first : {s : Stretch} {more : List Stretch} {i value : ℕ} → i < units_of s
      → StoresClock s.numbers (before_unit s.numbers s.description s.storage s.keys i) value → StoresIn (s ∷ more) i value
  in_rest : {s : Stretch} {more : List Stretch} {i value : ℕ} → StoresIn more i value → StoresIn (s ∷ more) (units_of s + i) value

-- the values of two units of a course that execute STCK differ, if it lasts no longer than 2^64 clock units, 142 years
abbrev pub ReadingsOfACourseDiffer : Type 0
ReadingsOfACourseDiffer = (epoch clock : ℕ) (course : List Stretch) → Course epoch clock course → lasts_in_all course ≤ 2 ^ 64
    → (i j v w : ℕ) → i < j → StoresIn course i v → StoresIn course j w → v ≡ w → ⊥

-- the units of budgets together
unfoldable pub in_all : List ℕ → ℕ
in_all [] = 0
in_all (b ∷ more) = b + in_all more

-- a run cut into these budgets and resumed, each run from what the one before it left, with the host clock advanced by its units times the
-- time
unfoldable pub cut : Numbers → List ℕ → List ℕ → List ℕ → List ℕ → List Stretch
cut n [] r storage keys = []
cut n (b ∷ more) r storage keys =
    record { numbers = with_budget n b; description = r; storage = storage; keys = keys; pause = 0 }
    ∷ cut (resumed_with n (units_in left.answer) b) more left.description left.storage left.keys
  where
    left : Result
    left = run_of (with_budget n b) r storage keys

-- CUT AND RESUMED: the values of two units that execute STCK, in whichever of the runs, differ
abbrev pub ReadingsOfACutRunDiffer : Type 0
ReadingsOfACutRunDiffer = (n : Numbers) (budgets r storage keys : List ℕ) → in_all budgets * n.time ≤ 2 ^ 64
    → (i j v w : ℕ) → i < j → StoresIn (cut n budgets r storage keys) i v → StoresIn (cut n budgets r storage keys) j w → v ≡ w → ⊥
