-- Two readings over runs one after the other: when each reading of a course was, and that a run cut and resumed is a course.
-- Assumes nothing.
use Prim.Native.Nat.{ℕ, ◌+◌, ◌*◌, ◌%◌, ◌^◌, ◌≤◌, ◌<◌}
use native.Mathlib.Omega.{arith}
use native.Mathlib.Nat.{mul-le-mul_right, mul-lt-mul_of_pos_right}
use mathlib.Core.Path.{◌≡◌, refl, ap, ◌∙◌}
use mathlib.Core.List.{List, [], ◌∷◌}
use Rattle.machine.specs.declared.Guest.{Guest}
use Rattle.machine.specs.declared.Numbers.{Numbers}
use Rattle.machine.specs.Record.{guest_of}
use Rattle.machine.specs.Operations.{Result, result_of, machine_of, run_of}
use Rattle.machine.specs.Theorems.{with_budget, resumed_with}
use Rattle.machine.specs.Readings.{StoresClock, before_unit}
use Rattle.machine.specs.Courses.{Stretch, units_in, units_of, lasts, lasts_in_all, Course, over, then, StoresIn, in_first, in_rest, ReadingsOfACourseDiffer, in_all, cut, ReadingsOfACutRunDiffer}
use Rattle.machine.proofs.Runs.{units_within, run_of_cases}
use Rattle.machine.proofs.Kept.{guest_left}
use Rattle.machine.proofs.Readings.{reading_of_run, short, apart}

-- a value is that of the clock so far after the course's start
abbrev At : ℕ → ℕ → ℕ → Type 0
At start t value = value ≡ (start + t) % 2 ^ 64

-- a unit of the first run
reading_here : (epoch clock : ℕ) (s : Stretch) (i value : ℕ) → (guest_of s.description).epoch ≡ epoch → s.numbers.clock % 2 ^ 64 ≡ clock % 2 ^ 64
    → i < units_of s → StoresClock s.numbers (before_unit s.numbers s.description s.storage s.keys i) value
    → At (clock + epoch) (i * s.numbers.time) value
reading_here epoch clock s i value same on within stores =
    reading_of_run s.numbers s.description s.storage s.keys i value within stores ∙ omega arith

-- the units' time of a run, until the next
unit_before : (s : Stretch) (i : ℕ) → i < units_of s → i * s.numbers.time < lasts s
unit_before s i within =
    let some : 0 < s.numbers.time = (short s.numbers s.description s.storage s.keys i within).0 in
    omega (arith, mul-lt-mul_of_pos_right within some)

-- when a reading of the course was, counted from its start
record When (start : ℕ) (course : List Stretch) (value : ℕ) : Type 0 where
  t : ℕ
  at : At start t value
  within : t < lasts_in_all course

when : (epoch clock : ℕ) (course : List Stretch) → Course epoch clock course → (i value : ℕ) → StoresIn course i value
    → When (clock + epoch) course value
unfolding lasts_in_all
when epoch clock (s ∷ more) (then same on follows) i value (in_first within stores) = record {
  t = i * s.numbers.time;
  at = reading_here epoch clock s i value same on within stores;
  within = omega (arith, unit_before s i within);
}
when epoch clock (s ∷ more) (then same on follows) _ value (in_rest {i = i} stores) =
    let behind : When (clock + lasts s + epoch) more value = when epoch (clock + lasts s) more follows i value stores in record {
      t = lasts s + behind.t;
      at = behind.at ∙ omega arith;
      within = omega (arith, behind.within);
    }
when epoch clock [] _ i value stores = elim stores [ ]

-- of two readings, the one of the later unit was later
record Twice (start : ℕ) (course : List Stretch) (v w : ℕ) : Type 0 where
  t : ℕ
  later_t : ℕ
  at_first : At start t v
  at_later : At start later_t w
  before : t < later_t
  within : later_t < lasts_in_all course

twice : (epoch clock : ℕ) (course : List Stretch) → Course epoch clock course → (i j v w : ℕ) → i < j → StoresIn course i v → StoresIn course j w
    → Twice (clock + epoch) course v w
unfolding lasts_in_all
twice epoch clock (s ∷ more) (then same on follows) i j v w before (in_first within stores) (in_first within' stores') = record {
  t = i * s.numbers.time;
  later_t = j * s.numbers.time;
  at_first = reading_here epoch clock s i v same on within stores;
  at_later = reading_here epoch clock s j w same on within' stores';
  before = mul-lt-mul_of_pos_right before (short s.numbers s.description s.storage s.keys i within).0;
  within = omega (arith, unit_before s j within');
}
twice epoch clock (s ∷ more) (then same on follows) i _ v w before (in_first within stores) (in_rest {i = j} stores') =
    let behind : When (clock + lasts s + epoch) more w = when epoch (clock + lasts s) more follows j w stores' in record {
      t = i * s.numbers.time;
      later_t = lasts s + behind.t;
      at_first = reading_here epoch clock s i v same on within stores;
      at_later = behind.at ∙ omega arith;
      before = omega (arith, unit_before s i within);
      within = omega (arith, behind.within);
    }
twice epoch clock (s ∷ more) (then same on follows) _ j v w before (in_rest stores) (in_first within' stores') = absurd (omega arith)
twice epoch clock (s ∷ more) (then same on follows) _ _ v w before (in_rest {i = i} stores) (in_rest {i = j} stores') =
    let behind : Twice (clock + lasts s + epoch) more v w = twice epoch (clock + lasts s) more follows i j v w (omega arith) stores stores' in record {
      t = lasts s + behind.t;
      later_t = lasts s + behind.later_t;
      at_first = behind.at_first ∙ omega arith;
      at_later = behind.at_later ∙ omega arith;
      before = omega (arith, behind.before);
      within = omega (arith, behind.within);
    }
twice epoch clock [] _ i j v w before stores _ = elim stores [ ]

pub readings_of_a_course_differ : ReadingsOfACourseDiffer
readings_of_a_course_differ epoch clock course follows short-enough i j v w before first second same =
    let both : Twice (clock + epoch) course v w = twice epoch clock course follows i j v w before first second in
    apart (clock + epoch) 0 both.t both.later_t both.before (omega (arith, both.within))
    (omega (arith, both.at_first, both.at_later))

-- a run cut and resumed

-- the units counted are within the budget
units_few : (n : Numbers) (r storage keys : List ℕ) → units_in (run_of n r storage keys).answer ≤ n.budget
unfolding result_of
units_few n r storage keys =
    run_of_cases n r storage keys (λ (result : Result). units_in result.answer ≤ n.budget) (λ number refused. omega arith) (λ accepted bad. omega arith)
    (λ accepted good. units_within n.budget n (machine_of n r storage keys))

-- the first of its runs, what that leaves, and the numbers of the next
module _ (n : Numbers) (b : ℕ) (r storage keys : List ℕ) where
  abbrev first_run : Stretch
  first_run = record { numbers = with_budget n b; description = r; storage = storage; keys = keys; pause = 0 }

  abbrev left : Result
  left = run_of (with_budget n b) r storage keys

  abbrev resumed : Numbers
  resumed = resumed_with n (units_in left.answer) b

-- it is a course
cut_follows : (n : Numbers) (budgets r storage keys : List ℕ) (epoch clock : ℕ) → (guest_of r).epoch ≡ epoch → n.clock % 2 ^ 64 ≡ clock % 2 ^ 64
    → Course epoch clock (cut n budgets r storage keys)
unfolding cut
cut_follows n [] r storage keys epoch clock same on = over
cut_follows n (b ∷ more) r storage keys epoch clock same on =
    let after = left n b r storage keys in
    then {s = first_run n b r storage keys} same on
    (cut_follows (resumed n b r storage keys) more after.description after.storage after.keys epoch
    (clock + lasts (first_run n b r storage keys))
    (ap (λ (g : Guest). g.epoch) (guest_left (with_budget n b) r storage keys) ∙ same) (omega arith))

-- that lasts no longer than its budgets
cut_lasts : (n : Numbers) (budgets r storage keys : List ℕ) → lasts_in_all (cut n budgets r storage keys) ≤ in_all budgets * n.time
unfolding cut lasts_in_all in_all
cut_lasts n [] r storage keys = omega arith
cut_lasts n (b ∷ more) r storage keys =
    let after = left n b r storage keys in
    omega (
      arith,
      cut_lasts (resumed n b r storage keys) more after.description after.storage after.keys,
      mul-le-mul_right n.time (units_few (with_budget n b) r storage keys),
    )

pub readings_of_a_cut_run_differ : ReadingsOfACutRunDiffer
readings_of_a_cut_run_differ n budgets r storage keys few i j v w before first second =
    readings_of_a_course_differ (guest_of r).epoch n.clock (cut n budgets r storage keys)
    (cut_follows n budgets r storage keys _ _ refl refl) (omega (arith, cut_lasts n budgets r storage keys)) i j v w before first second
