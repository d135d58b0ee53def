-- What holds between the turns of a streak.
-- Assumes nothing.
use Prim.Native.Nat.{ℕ, ◌+◌, ◌-◌, ◌*◌, ◌/◌, ◌^◌, ◌≤◌, ◌<◌}
use native.Mathlib.Omega.{arith}
use native.Mathlib.Nat.{eq-zero-or-pos}
use mathlib.Core.Path.{◌≡◌, refl, sym, ap, subst, ◌∙◌}
use mathlib.Core.Bool.{Bool, true, false}
use mathlib.Core.List.{List}
use mathlib.Core.Logic.{◌⊎◌, inl, inr}
use lib.ListN.{length, get_or, get_or-replicate}
use Rattle.std.specs.Prelude.{Result, Ok, Err, IfOk, IfErr}
use Rattle.std.proofs.lemmas.Result.{IfOk-at_ok, IfErr-at_err}
use Rattle.machine.specs.declared.Cpu.{Cpu}
use Rattle.machine.specs.declared.Guest.{Guest}
use Rattle.machine.specs.declared.Psw.{Psw}
use Rattle.machine.specs.Record.{system370_mode, Sixteen, Bounded}
use Rattle.machine.specs.Psw.{instruction_address}
use Rattle.machine.specs.Interval.{active, period}
use Rattle.machine.specs.Host.{Host, host}
use Rattle.address.specs.Touching.{seen}
use Rattle.guard.specs.Guarding.{Alike}
use Rattle.remaining.specs.Remaining.{machine_at, Remains}
use Rattle.remaining.proofs.Steps.{remains_start}
use Rattle.remaining.proofs.Going.{residue_any}
use Rattle.psws.specs.Psws.{state, psw_at, Wrapped}
use Rattle.psws.proofs.Placed.{fits_left, fits_right, left_at, system370_at, wrapped_at}
use Rattle.calm.specs.Calming.{clocks, timers, residues, Calm}
use Rattle.calm.proofs.Charging.{residue_further, calm_fewer, calm-after}
use Rattle.blocks.specs.Keeping.{Holds, Inside, Marks, Free, AccessAlike}
use Rattle.blocks.proofs.Holding.{holds_alike, holds_controls, inside_on, none_holds, none_inside, none_marks, none_free}
use Rattle.lap.specs.declared.Lap.{Lap}
use Rattle.lap.specs.Lapping.{stance, Goes, Laps}
use Rattle.area.specs.Keeping.{Area}
use Rattle.area.proofs.Holding.{area_none, area_alike}
use Rattle.special.specs.declared.Want.{Want}
use Rattle.special.specs.declared.Change.{Change}
use Rattle.special.specs.declared.Change.TheVariants as change
use Rattle.special.specs.declared.Done.{Done as Single}
use Rattle.special.specs.Performing.{IfCalm, psw_in, Near}
use Rattle.special.specs.Singling.{start, SinglesIn}
use Rattle.turns.specs.declared.Stand.{Stand}
use Rattle.streaks.specs.declared.Streak.{Streak}
use Rattle.streaks.specs.Streaking.{after_streak, unbegun, Paced}
use Rattle.turns.specs.Turning.{Low, none_kept, Charged, Lapped, Stays, Behind, Anew, Same, GuardedAlike, Emptied, ByChange, Passed}
use Rattle.keeping.specs.Keeping.{Keeping}
use Rattle.turns.proofs.Rising.{residue_below}
use Rattle.streaks.proofs.Lapping.{small_clock, small_timer, units_on, single_on}

-- what a streak begins with
pub record Course : Type 0 where
  pub designation : ℕ
  pub guest : Guest
  pub clock : ℕ
  pub time : ℕ
  pub budget : ℕ
  pub start : Cpu
  pub requested : Bool
  pub residue : ℕ
  pub storage : List ℕ
  pub keys : List ℕ

abbrev pub course : ℕ → Guest → ℕ → ℕ → ℕ → Cpu → Bool → ℕ → List ℕ → List ℕ → Course
course designation guest clock time budget start requested residue storage keys = record {
  designation = designation;
  guest = guest;
  clock = clock;
  time = time;
  budget = budget;
  start = start;
  requested = requested;
  residue = residue;
  storage = storage;
  keys = keys;
}

-- what it has beside its stand: general registers, control registers, storage, guard and table
pub record Hold : Type 0 where
  pub words : List ℕ
  pub control : List ℕ
  pub storage : List ℕ
  pub guard : List ℕ
  pub kept : List ℕ

abbrev pub hold : List ℕ → List ℕ → List ℕ → List ℕ → List ℕ → Hold
hold words control storage guard kept = record { words = words; control = control; storage = storage; guard = guard; kept = kept }

-- the streak so far
abbrev pub streak_of : Stand → List ℕ → List ℕ → Streak
streak_of s words control = record {
  psw = s.psw;
  timer = s.timer;
  clock = s.clock;
  control = record { words = control };
  general = record { words = words };
  units = s.units;
  residue = s.residue;
}

-- the state that it stands in
abbrev pub cpu_of : Stand → Hold → Cpu
cpu_of s h = after_streak (streak_of s h.words h.control)

abbrev host_in : Course → Hold → Host
host_in o h = host o.designation h.storage o.keys

-- the units done are the definition's
abbrev Done : Course → Stand → Hold → Type 0
Done o s h =
    Paced o.designation o.guest o.clock o.time o.budget o.start o.requested o.residue o.storage o.keys (streak_of s h.words h.control) h.storage

-- the units that may follow
pub record Ahead (o : Course) (s : Stand) (h : Hold) : Type 0 where
  pub within : s.units + s.most ≤ o.budget
  pub calm : Calm o.guest s.clock o.time o.requested (cpu_of s h) s.most
  pub rising : active o.guest ≡ true → residues s.residue o.time s.most < period
  pub wrapped : 0 < s.most → Wrapped s.psw (instruction_address (state s.psw))

-- the blocks that are kept, and the place of the prefix page
pub record Table (o : Course) (s : Stand) (h : Hold) : Type 0 where
  pub holds : Holds h.guard o.guest (host_in o h) (seen s.psw (record { words = h.control })) h.kept
  pub inside : Inside h.storage h.kept
  pub marks : Marks o.keys h.kept
  pub free : Free h.guard h.kept
  pub area : Area h.guard o.guest (host_in o h) s.area

pub record Onward (o : Course) (s : Stand) (h : Hold) : Type 0 where
  pub paced : Done o s h
  pub word : s.clock < 2 ^ 64
  pub ahead : Ahead o s h
  pub table : Table o s h
  pub few : 0 < s.most → s.tries ≤ 7
  pub small : Low s.next
  pub long : length h.storage ≡ length o.storage

-- what is left to try falls with each turn

pub falls_lapped : (budget : ℕ) (s t : Stand) (l : Lap) {timed : Bool} {time : ℕ} → s.units + s.most ≤ budget → l.units ≤ s.most → s.tries ≤ 7 → Lapped timed time s l t
    → 8 * (budget - t.units) + (8 - t.tries) < 8 * (budget - s.units) + (8 - s.tries)
falls_lapped budget s t l within fewer few lapped = by_units (eq-zero-or-pos l.units)
  where
    by_units : (l.units ≡ 0) ⊎ (0 < l.units) → 8 * (budget - t.units) + (8 - t.tries) < 8 * (budget - s.units) + (8 - s.tries)
    by_units (inl none) = omega (arith, lapped.charged.units, lapped.tried none)
    by_units (inr some) = omega (arith, lapped.charged.units, lapped.fresh some)

pub falls_stays : (budget : ℕ) (s t : Stand) → s.tries ≤ 7 → Stays s t → 8 * (budget - t.units) + (8 - t.tries) < 8 * (budget - s.units) + (8 - s.tries)
falls_stays budget s t few stays = omega (arith, stays.units, stays.tried)

-- A stand with another PSW, CPU timer, clock, units and place.

abbrev stand_at : Psw → ℕ → ℕ → ℕ → ℕ → Stand → Stand
stand_at p timer clock units area r = record {
  psw = p;
  timer = timer;
  clock = clock;
  residue = r.residue;
  units = units;
  most = r.most;
  next = r.next;
  area = area;
  tries = r.tries;
}

stands_at : (r : Stand) {p : Psw} {timer clock units area : ℕ} → r.psw ≡ p → r.timer ≡ timer → r.clock ≡ clock → r.units ≡ units → r.area ≡ area
    → stand_at p timer clock units area r ≡ r
stands_at r psw timer clock units area = λ i. stand_at (sym psw i) (sym timer i) (sym clock i) (sym units i) (sym area i) r

-- no streak
none_paced : (o : Course) → Bounded o.start → o.residue < period
    → Paced o.designation o.guest o.clock o.time o.budget o.start o.requested o.residue o.storage o.keys (unbegun o.start o.clock o.residue) o.storage
none_paced o bounded small =
    record { bounded = bounded; architecture = refl; small = small; remains = λ n d request designated timed of told. remains_start n o.budget (machine_at o.guest d o.start request o.residue o.clock o.storage o.keys) }

pub none_streak : (o : Course) → Bounded o.start → o.residue < period → (r : Streak) → r ≡ unbegun o.start o.clock o.residue
    → (r.units ≤ o.budget)
    × Paced o.designation o.guest o.clock o.time o.budget o.start o.requested o.residue o.storage o.keys r o.storage
none_streak o bounded small r none =
    subst (λ s. (s.units ≤ o.budget) × Paced o.designation o.guest o.clock o.time o.budget o.start o.requested o.residue o.storage o.keys s o.storage) (sym none)
    (omega arith, none_paced o bounded small)

-- no block is kept
empty_table : (o : Course) (s : Stand) (h : Hold) → 2147483648 ≤ s.area → h.kept ≡ none_kept → Table o s h
empty_table o s h nowhere empty = record {
  holds = none_holds h.kept none h.guard o.guest (host_in o h) (seen s.psw (record { words = h.control }));
  inside = none_inside h.kept none h.storage;
  marks = none_marks h.kept none o.keys;
  free = none_free h.kept none h.guard;
  area = area_none h.guard o.guest (host_in o h) s.area nowhere;
}
  where
    none : (i : ℕ) → i < 32 → get_or h.kept i 0 ≡ 2147483648
    none i few = ap (λ k. get_or k i 0) empty ∙ get_or-replicate 32 i 2147483648 0 few

-- the table stays where accesses are guarded alike, and the storage is alike in the frames that the guard names
same_table : (o : Course) (s : Stand) (h : Hold) → Table o s h → (t : Stand) (words control storage : List ℕ) → Alike h.guard h.storage storage → AccessAlike s.psw t.psw
    → get_or control 0 0 ≡ get_or h.control 0 0 → get_or control 1 0 ≡ get_or h.control 1 0 → t.area ≡ s.area → Table o t (hold words control storage h.guard h.kept)
same_table o s h table t words control storage alike accesses zeroth first place = record {
  holds = holds_controls h.guard o.guest (host o.designation storage o.keys) (seen s.psw (record { words = h.control })) (seen t.psw (record { words = control })) h.kept accesses zeroth first
      (holds_alike h.guard o.guest o.designation h.storage storage o.keys (seen s.psw (record { words = h.control })) h.kept alike table.holds);
  inside = inside_on h.storage storage alike.long h.kept table.inside;
  marks = table.marks;
  free = table.free;
  area = subst (Area h.guard o.guest (host o.designation storage o.keys)) (sym place)
      (area_alike h.guard o.guest o.designation h.storage storage o.keys s.area alike table.area);
}

-- nothing is done yet, and no block kept
pub onward-start : (o : Course) → Bounded o.start → o.residue < period → o.clock < 2 ^ 64 → (s : Stand) → s.psw ≡ o.start.psw → s.timer ≡ o.start.timer → s.clock ≡ o.clock
    → s.residue ≡ o.residue → s.units ≡ 0 → s.tries ≡ 0 → Low s.next → 2147483648 ≤ s.area → s.most ≤ o.budget
    → Calm o.guest o.clock o.time o.requested o.start s.most → (active o.guest ≡ true → residues o.residue o.time s.most < period)
    → (0 < s.most → Wrapped o.start.psw (instruction_address (state o.start.psw))) → (guard : List ℕ)
    → Onward o s (hold o.start.general.words o.start.control.words o.storage guard none_kept)
onward-start o bounded small word s psw timer clock residue units tries low nowhere few calm rising wrapped guard =
    subst (λ t. Onward o t begun) same (record {
      paced = none_paced o bounded small;
      word = word;
      ahead = record { within = omega (arith, few); calm = calm; rising = rising; wrapped = wrapped };
      table = empty_table o first begun nowhere refl;
      few = λ _. omega (arith, tries);
      small = low;
      long = refl;
    })
  where
    begun : Hold
    begun = hold o.start.general.words o.start.control.words o.storage guard none_kept

    first : Stand
    first = record {
      psw = o.start.psw;
      timer = o.start.timer;
      clock = o.clock;
      residue = o.residue;
      units = 0;
      most = s.most;
      next = s.next;
      area = s.area;
      tries = s.tries;
    }

    same : first ≡ s
    same = λ i. record {
      psw = sym psw i;
      timer = sym timer i;
      clock = sym clock i;
      residue = sym residue i;
      units = sym units i;
      most = s.most;
      next = s.next;
      area = s.area;
      tries = s.tries;
    }

-- a residue that is charged for so many of the units that may follow
module _ (o : Course) (s : Stand) (h : Hold) (on : Onward o s h) {timed : Bool} (told : timed ≡ active o.guest) (t : Stand) (n : ℕ) (charged : Charged timed o.time n s t) (few : n ≤ s.most) where
  rest-small : t.residue < period
  rest-small = by_active (active o.guest) refl
    where
      by_active : (b : Bool) → active o.guest ≡ b → t.residue < period
      by_active true runs = rw (charged.rises (told ∙ runs)) (residue_below s.residue o.time n s.most few (on.ahead.rising runs))
      by_active false off = rw (charged.stays (told ∙ off)) on.paced.small

  rises_on : t.most ≤ s.most - n → active o.guest ≡ true → residues t.residue o.time t.most < period
  rises_on fewer runs =
      rw (charged.rises (told ∙ runs), residue_further s.residue o.time n t.most)
      (residue_below s.residue o.time (n + t.most) s.most (omega arith) (on.ahead.rising runs))

-- a lap
module _ (o : Course) (kind : o.start.psw.system370 ≡ system370_mode o.guest.mode) {timed : Bool} (told : timed ≡ active o.guest) (s : Stand) (h : Hold) (on : Onward o s h) (some : 0 < s.most)
    (l : Lap) (words storage : List ℕ)
    (lap : (l.units ≤ s.most) × (l.code < 4) × (l.address < 2147483648) × (l.a < 2147483648) × Sixteen words × Laps h.kept s.psw h.words h.storage l words storage)
    (t : Stand) (lapped : Lapped timed o.time s l t) where
  abbrev held : Hold
  held = hold words h.control storage h.guard h.kept

  abbrev moved : Psw
  moved = psw_at s.psw l.address l.code

  abbrev to : Stand
  to = stand_at moved (timers s.timer o.time l.units) (clocks s.clock o.time l.units) (s.units + l.units) s.area t

  left : s.psw.left < 2 ^ 32
  left = on.paced.bounded.left

  right : s.psw.right < 2 ^ 32
  right = on.paced.bounded.right

  laps_both : Goes s.psw o.guest o.designation o.keys (record { words = h.control }) (stance s.psw h.words h.storage) l.units (stance moved words storage) × Alike h.guard h.storage storage
  laps_both = lap.5 o.guest o.designation o.keys h.guard (record { words = h.control }) (on.ahead.wrapped some) on.table.marks on.table.free on.table.holds

  same_kind : to.psw.system370 ≡ s.psw.system370
  same_kind = system370_at s.psw left right l.address l.code lap.1 (cpu_of to held) refl

  lap_paced : Done o to held
  lap_paced = record {
    bounded = record {
      left = fits_left s.psw left right l.address l.code lap.1;
      right = fits_right s.psw left right l.address l.code lap.1;
      timer = small_timer s.timer o.time l.units;
      control = on.paced.bounded.control;
      general = lap.4;
    };
    architecture = same_kind ∙ on.paced.architecture;
    small = rest-small o s h on told t l.units lapped.charged lap.0;
    remains = λ n d request designated clocked of asked.
        subst (Remains n o.budget (machine_at o.guest d o.start request o.residue o.clock o.storage o.keys) (s.units + l.units))
        (residue_any o.guest d (cpu_of to held) request to.clock storage o.keys (λ runs. sym (lapped.charged.rises (told ∙ runs))))
        (units_on n o.guest d of designated clocked request o.requested asked o.keys (cpu_of s h) on.paced.bounded (on.paced.architecture ∙ kind) s.residue s.clock s.most on.ahead.calm
        on.ahead.rising on.word h.storage o.budget (machine_at o.guest d o.start request o.residue o.clock o.storage o.keys) s.units on.ahead.within
        (on.paced.remains n d request designated clocked of asked) laps_both.0 lap.0
        (record { address = l.address; code = l.code; small = lap.1; own = refl; sixteen = lap.4 }));
  }

  lap_ahead : Ahead o to held
  lap_ahead = record {
    within = omega (arith, on.ahead.within, lap.0, lapped.fewer);
    calm = calm_fewer o.guest to.clock o.time o.requested (cpu_of to held) (s.most - l.units) t.most lapped.fewer
        (calm-after o.guest s.clock o.time o.requested (cpu_of s h) s.most l.units (cpu_of to held) left right lap.0 on.ahead.calm
        (record { address = l.address; code = l.code; small = lap.1; psw = refl; control = refl }) refl);
    rising = rises_on o s h on told t l.units lapped.charged lap.0 lapped.fewer;
    wrapped = λ _. wrapped_at s.psw left right l.address l.code lap.1;
  }

  pub onward_lap : Onward o t held
  onward_lap = subst (λ r. Onward o r held) (stands_at t lapped.psw lapped.timer lapped.charged.clock lapped.charged.units lapped.area) (record {
    paced = lap_paced;
    word = small_clock s.clock o.time l.units;
    ahead = lap_ahead;
    table = same_table o s h on.table to words h.control storage laps_both.1
        (record { left = left_at s.psw left right l.address l.code lap.1 (cpu_of to held) refl; system370 = same_kind }) refl refl refl;
    few = lapped.few;
    small = lapped.small lap.3;
    long = laps_both.1.long ∙ on.long;
  })

-- no unit is done
module _ (o : Course) (s : Stand) (h : Hold) (on : Onward o s h) (t : Stand) (stays : Stays s t) (low : Low t.next) where
  abbrev rested : Stand
  rested = record {
    psw = s.psw;
    timer = s.timer;
    clock = s.clock;
    residue = s.residue;
    units = s.units;
    most = t.most;
    next = t.next;
    area = t.area;
    tries = t.tries;
  }

  rests : rested ≡ t
  rests = λ i. record {
    psw = sym stays.psw i;
    timer = sym stays.timer i;
    clock = sym stays.clock i;
    residue = sym stays.residue i;
    units = sym stays.units i;
    most = t.most;
    next = t.next;
    area = t.area;
    tries = t.tries;
  }

  onward_rests : (guard kept : List ℕ) → Table o rested (hold h.words h.control h.storage guard kept) → Onward o t (hold h.words h.control h.storage guard kept)
  onward_rests guard kept table = subst (λ r. Onward o r (hold h.words h.control h.storage guard kept)) rests (record {
    paced = on.paced;
    word = on.word;
    ahead = record {
      within = omega (arith, on.ahead.within, stays.fewer);
      calm = calm_fewer o.guest s.clock o.time o.requested (cpu_of s h) s.most t.most stays.fewer on.ahead.calm;
      rising = λ runs. residue_below s.residue o.time t.most s.most stays.fewer (on.ahead.rising runs);
      wrapped = λ more. on.ahead.wrapped (omega (arith, more, stays.fewer));
    };
    table = table;
    few = stays.few;
    small = low;
    long = on.long;
  })

  -- guard, table and place are as they were
  onward_stays : (guard kept : List ℕ) → Same s h.guard h.kept t guard kept → Onward o t (hold h.words h.control h.storage guard kept)
  onward_stays guard kept same =
      onward_rests guard kept
      (subst (λ k. Table o rested (hold h.words h.control h.storage guard k)) (sym same.2)
      (subst (λ k. Table o rested (hold h.words h.control h.storage k h.kept)) (sym same.1) (record {
        holds = on.table.holds;
        inside = on.table.inside;
        marks = on.table.marks;
        free = on.table.free;
        area = subst (Area h.guard o.guest (host_in o h)) (sym same.0) on.table.area;
      })))

-- a block or the prefix page's place is kept
pub onward_keeping : (o : Course) (s : Stand) (h : Hold) → Onward o s h → (t : Stand) (guard kept : List ℕ)
    → Keeping o.designation o.guest s h.control h.storage o.keys h.guard h.kept t guard kept → Onward o t (hold h.words h.control h.storage guard kept)
onward_keeping o s h on t guard kept keeping = onward_rests o s h on t keeping.stays keeping.small guard kept (record {
  holds = keeping.tables.holds on.table.holds;
  inside = keeping.tables.inside on.table.inside;
  marks = keeping.tables.marks on.table.marks;
  free = keeping.tables.free on.table.free;
  area = keeping.area on.table.area;
})

-- a unit that a lap does not do came to this
pub record Came (o : Course) (s : Stand) (h : Hold) (r : Result Single Want) (control storage : List ℕ) : Type 0 where
  pub done : IfOk r (λ d. SinglesIn o.designation o.keys o.guest s.clock (start s.psw s.timer h.words h.control) h.kept s.area h.storage d control storage
      × IfCalm d.change (Near s.psw (psw_in d s.psw) × (d.timer ≡ s.timer) × (control ≡ h.control)))
  pub idle : IfErr r (λ _. (storage ≡ h.storage) × (control ≡ h.control))
  pub sixteen : Sixteen control

-- a unit that a lap does not do
module _ (o : Course) (kind : o.start.psw.system370 ≡ system370_mode o.guest.mode) {timed : Bool} (told : timed ≡ active o.guest) (s : Stand) (h : Hold) (on : Onward o s h) (some : 0 < s.most)
    (r : Result Single Want) (control storage : List ℕ) (came : Came o s h r control storage) (t : Stand) (guard kept : List ℕ) {cr0 cr1 : ℕ}
    (passed : Passed o.guest o.requested timed o.time o.budget cr0 cr1 s r control h.guard h.kept t guard kept)
    (zeroth : cr0 ≡ get_or h.control 0 0) (first : cr1 ≡ get_or h.control 1 0) where
  abbrev result : Type 0
  result = Onward o t (hold h.words control storage guard kept)

  -- it was not done
  passed_idle : (w : Want) → r ≡ Err w → result
  passed_idle w is =
      let at = IfErr-at_err _ is passed.idle in
      let none = IfErr-at_err _ is came.idle in
      subst (λ k. Onward o t (hold h.words k storage guard kept)) (sym none.1)
      (subst (λ k. Onward o t (hold h.words h.control k guard kept)) (sym none.0)
      (onward_stays o s h on t at.0 passed.small guard kept at.1))

  -- it was
  module _ (d : Single) (is : r ≡ Ok d) where
    abbrev next : Stand
    next = stand_at (psw_in d s.psw) (timers d.timer o.time 1) (clocks s.clock o.time 1) (s.units + 1) t.area t

    abbrev singles : SinglesIn o.designation o.keys o.guest s.clock (start s.psw s.timer h.words h.control) h.kept s.area h.storage d control storage
    singles = (IfOk-at_ok _ is came.done).0

    abbrev behind : Behind timed o.time s d t
    behind = (IfOk-at_ok _ is passed.done).0

    abbrev reached : Hold
    reached = hold h.words control storage guard kept

    alike : Alike h.guard h.storage storage
    alike = (singles h.guard (on.ahead.wrapped some) on.table.marks on.table.free on.table.holds on.table.area).1

    lasts : Bounded (cpu_of next reached)
    lasts = record { left = behind.left; right = behind.right; timer = small_timer d.timer o.time 1; control = came.sixteen; general = on.paced.bounded.general }

    same_next : next ≡ t
    same_next = stands_at t behind.psw behind.timer behind.charged.clock behind.charged.units refl

    passed_paced : Done o next reached
    passed_paced = record {
      bounded = lasts;
      architecture = on.paced.architecture;
      small = rest-small o s h on told t 1 behind.charged (omega arith);
      remains = λ n d' request designated clocked of asked.
          subst (Remains n o.budget (machine_at o.guest d' o.start request o.residue o.clock o.storage o.keys) (s.units + 1))
          (residue_any o.guest d' (cpu_of next reached) request next.clock storage o.keys (λ runs. sym (behind.charged.rises (told ∙ runs))))
          (single_on n o.guest d' of designated clocked request o.requested asked o.keys (cpu_of s h) on.paced.bounded (on.paced.architecture ∙ kind) s.residue s.clock s.most on.ahead.calm
          on.ahead.rising on.word h.storage o.budget (machine_at o.guest d' o.start request o.residue o.clock o.storage o.keys) s.units on.ahead.within
          (on.paced.remains n d' request designated clocked of asked) some (on.ahead.wrapped some) (psw_in d s.psw) d.timer control storage
          ((singles h.guard (on.ahead.wrapped some) on.table.marks on.table.free on.table.holds on.table.area).0 (cpu_of s h) refl refl refl refl) lasts);
    }

    passed_done : Ahead o t reached → Table o t reached → result
    passed_done ahead table = record {
      paced = subst (λ k. Done o k reached) same_next passed_paced;
      word = rw behind.charged.clock (small_clock s.clock o.time 1);
      ahead = ahead;
      table = table;
      few = λ _. omega (arith, behind.tries);
      small = passed.small;
      long = alike.long ∙ on.long;
    }

    -- with guard and table as they were
    passed_table : t.psw.left / 16384 ≡ s.psw.left / 16384 → get_or control 0 0 ≡ get_or h.control 0 0 → get_or control 1 0 ≡ get_or h.control 1 0 → Same s h.guard h.kept t guard kept → Table o t reached
    passed_table psw zero_same one_same same =
        subst (λ k. Table o t (hold h.words control storage guard k)) (sym same.2)
        (subst (λ k. Table o t (hold h.words control storage k h.kept)) (sym same.1)
        (same_table o s h on.table t h.words control storage alike (record { left = psw; system370 = ap (λ p. p.system370) behind.psw }) zero_same one_same same.0))

    abbrev StaysCalm : Type 0
    StaysCalm = Near s.psw (psw_in d s.psw) × (d.timer ≡ s.timer) × (control ≡ h.control)

    abbrev OneFewer : Type 0
    OneFewer = (t.most ≡ s.most - 1) × Same s h.guard h.kept t guard kept

    passed_calm : StaysCalm → OneFewer → result
    passed_calm near at =
        passed_done
        (subst (λ k. Ahead o k reached) same_next (record {
          within = omega (arith, on.ahead.within, at.0);
          calm = subst (Calm o.guest (clocks s.clock o.time 1) o.time o.requested (cpu_of next reached)) (sym at.0)
              (calm-after o.guest s.clock o.time o.requested (cpu_of s h) s.most 1 (cpu_of next reached) on.paced.bounded.left on.paced.bounded.right (omega arith) on.ahead.calm
              (record { address = near.0.address; code = near.0.code; small = near.0.small; psw = near.0.own; control = λ i. record { words = near.2 i } })
              (ap (λ x. timers x o.time 1) near.1));
          rising = rises_on o s h on told t 1 behind.charged (omega arith) (omega (arith, at.0));
          wrapped = λ _. subst (λ p. Wrapped p (instruction_address (state p))) (sym near.0.own)
              (wrapped_at s.psw on.paced.bounded.left on.paced.bounded.right near.0.address near.0.code near.0.small);
        }))
        (passed_table
        (ap (λ p. p.left / 16384) behind.psw
        ∙ left_at s.psw on.paced.bounded.left on.paced.bounded.right near.0.address near.0.code near.0.small (cpu_of next reached) near.0.own)
        (ap (λ k. get_or k 0 0) near.2) (ap (λ k. get_or k 1 0) near.2) at.1)

    abbrev FoundAnew : Type 0
    FoundAnew = Anew o.guest o.requested timed o.time o.budget control t × ((GuardedAlike cr0 cr1 s control t × Same s h.guard h.kept t guard kept) ⊎ Emptied t kept)

    passed_anew : FoundAnew → result
    passed_anew (found, tables) =
        passed_done
        (record { within = found.within; calm = found.calm (cpu_of t reached) refl refl refl; rising = λ runs. found.rising (told ∙ runs); wrapped = found.wrapped })
        (by_table tables)
      where
        by_table : (GuardedAlike cr0 cr1 s control t × Same s h.guard h.kept t guard kept) ⊎ Emptied t kept → Table o t reached
        by_table (inl (guarded, same)) = passed_table guarded.2 (guarded.0 ∙ zeroth) (guarded.1 ∙ first) same
        by_table (inr (nowhere, empty)) = empty_table o t reached nowhere empty

    by_change : (change : Change) → IfCalm change StaysCalm → ByChange change OneFewer FoundAnew → result
    by_change change.Calm near at = passed_calm near at
    by_change change.Called near at = passed_anew at
    by_change change.Changed near at = passed_anew at

    passed_ok : result
    passed_ok = by_change d.change (IfOk-at_ok _ is came.done).1 (IfOk-at_ok _ is passed.done).1

  pub onward_passed : result
  onward_passed = by_result r refl
    where
      by_result : (q : Result Single Want) → r ≡ q → result
      by_result (Ok d) is = passed_ok d is
      by_result (Err w) is = passed_idle w is

  pub falls_passed : 8 * (o.budget - t.units) + (8 - t.tries) < 8 * (o.budget - s.units) + (8 - s.tries)
  falls_passed = by_result r refl
    where
      by_result : (q : Result Single Want) → r ≡ q → 8 * (o.budget - t.units) + (8 - t.tries) < 8 * (o.budget - s.units) + (8 - s.tries)
      by_result (Ok d) is =
          let behind = (IfOk-at_ok _ is passed.done).0 in
          omega (arith, on.ahead.within, on.few some, some, behind.charged.units, behind.tries)
      by_result (Err w) is =
          let stays = (IfErr-at_err _ is passed.idle).0 in
          omega (arith, on.ahead.within, on.few some, stays.units, stays.tried)

-- nothing changed but the guard and table
pub onward_idle : (o : Course) (s : Stand) {words control storage guard kept : List ℕ} → Onward o s (hold words control storage guard kept) → {control' storage' : List ℕ} → storage' ≡ storage → control' ≡ control
    → Onward o s (hold words control' storage' guard kept)
onward_idle o s {words} {control} {storage} {guard} {kept} on {control'} {storage'} bytes registers =
    subst (λ k. Onward o s (hold words k storage' guard kept)) (sym registers)
    (subst (λ k. Onward o s (hold words control k guard kept)) (sym bytes) on)
