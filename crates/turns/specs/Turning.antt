-- The turns of a streak: where it stands after each.
use Rattle.std.specs.Prelude.{ℕ, ◌+◌, ◌-◌, ◌/◌, ◌^◌, ◌≤◌, ◌<◌, ◌≡◌, Bool, true, false, List, ◌⊎◌, Result, IfOk, IfErr, get_or, replicate}
use Rattle.machine.specs.declared.Cpu.{Cpu}
use Rattle.machine.specs.declared.Guest.{Guest}
use Rattle.machine.specs.Psw.{instruction_address, control}
use Rattle.machine.specs.Interval.{period}
use Rattle.psws.specs.Psws.{state, psw_at, Wrapped}
use Rattle.calm.specs.Calming.{clocks, timers, residues, Calm as Calmed}
use Rattle.lap.specs.declared.Lap.{Lap as Left}
use Rattle.special.specs.declared.Want.{Want}
use Rattle.special.specs.declared.Change.{Change}
use Rattle.special.specs.declared.Change.TheVariants.{Calm, Called, Changed}
use Rattle.special.specs.declared.Done.{Done}
use Rattle.special.specs.Performing.{psw_in}
use Rattle.turns.specs.declared.Next.{Next}
use Rattle.turns.specs.declared.Next.TheVariants.{Lap, Single, Block, Area, Denied, Other}
use Rattle.turns.specs.declared.Stand.{Stand}

-- an address that the next turn is for is one of 31 bits
abbrev pub Low : Next → Type 0
Low Lap = Unit {0}
Low Single = Unit {0}
Low (Block single store a) = a < 2147483648
Low Area = Unit {0}
Low (Denied store a) = a < 2147483648
Low Other = Unit {0}

-- the address that the next turn is for, where it is for one, is this one
abbrev pub Asks : Next → ℕ → Type 0
Asks Lap at = Unit {0}
Asks Single at = Unit {0}
Asks (Block single store a) at = a ≡ at
Asks Area at = Unit {0}
Asks (Denied store a) at = a ≡ at
Asks Other at = Unit {0}

-- the table that keeps no block
abbrev pub none_kept : List ℕ
none_kept = replicate 32 2147483648

-- so many units are charged to host clock and residue
pub record Charged (timed : Bool) (time n : ℕ) (s r : Stand) : Type 0 where
  pub clock : r.clock ≡ clocks s.clock time n
  pub rises : timed ≡ true → r.residue ≡ residues s.residue time n
  pub stays : timed ≡ false → r.residue ≡ s.residue
  pub units : r.units ≡ s.units + n

-- after a lap
pub record Lapped (timed : Bool) (time : ℕ) (s : Stand) (l : Left) (r : Stand) : Type 0 where
  pub psw : r.psw ≡ psw_at s.psw l.address l.code
  pub timer : r.timer ≡ timers s.timer time l.units
  pub charged : Charged timed time l.units s r
  pub fewer : r.most ≤ s.most - l.units
  pub few : 0 < r.most → r.tries ≤ 7
  pub fresh : 0 < l.units → r.tries ≡ 0
  pub tried : l.units ≡ 0 → r.tries ≡ s.tries + 1
  pub small : l.a < 2147483648 → Low r.next
  pub wanted : Asks r.next l.a
  pub area : r.area ≡ s.area

-- after a turn in which no unit was done
pub record Stays (s r : Stand) : Type 0 where
  pub psw : r.psw ≡ s.psw
  pub timer : r.timer ≡ s.timer
  pub clock : r.clock ≡ s.clock
  pub residue : r.residue ≡ s.residue
  pub units : r.units ≡ s.units
  pub fewer : r.most ≤ s.most
  pub few : 0 < r.most → r.tries ≤ 7
  pub tried : r.tries ≡ s.tries + 1

-- after a unit that is done and that a lap does not do
pub record Behind (timed : Bool) (time : ℕ) (s : Stand) (d : Done) (t : Stand) : Type 0 where
  pub left : d.left < 2 ^ 32
  pub right : d.right < 2 ^ 32
  pub psw : t.psw ≡ psw_in d s.psw
  pub timer : t.timer ≡ timers d.timer time 1
  pub charged : Charged timed time 1 s t
  pub tries : t.tries ≡ 0

-- the horizon is found anew
pub record Anew (g : Guest) (requested timed : Bool) (time budget : ℕ) (words : List ℕ) (t : Stand) : Type 0 where
  pub within : t.units + t.most ≤ budget
  pub rising : timed ≡ true → residues t.residue time t.most < period
  pub wrapped : 0 < t.most → Wrapped t.psw (instruction_address (state t.psw))
  pub calm : (c : Cpu) → c.psw ≡ t.psw → c.timer ≡ t.timer → control c 0 ≡ get_or words 0 0 → Calmed g t.clock time requested c t.most

-- guard, table and the prefix page's place are as they were
abbrev pub Same : Stand → List ℕ → List ℕ → Stand → List ℕ → List ℕ → Type 0
Same s guard kept t guard' kept' = (t.area ≡ s.area) × (guard' ≡ guard) × (kept' ≡ kept)

-- accesses are guarded as they were
abbrev pub GuardedAlike : ℕ → ℕ → Stand → List ℕ → Stand → Type 0
GuardedAlike cr0 cr1 s words t = (get_or words 0 0 ≡ cr0) × (get_or words 1 0 ≡ cr1) × (t.psw.left / 16384 ≡ s.psw.left / 16384)

-- no block is kept, nor the prefix page's place
abbrev pub Emptied : Stand → List ℕ → Type 0
Emptied t kept' = (2147483648 ≤ t.area) × (kept' ≡ none_kept)

-- address, condition code and storage alone changed
abbrev pub is_calm : Change → Bool
is_calm Calm = true
is_calm Called = false
is_calm Changed = false

-- one of two by what a unit changed: address, condition code and storage alone, or more
abbrev pub ByChange : Change → Type 0 → Type 0 → Type 0
ByChange Calm P Q = P
ByChange Called P Q = Q
ByChange Changed P Q = Q

-- after a unit that a lap does not do, done or not
pub record Passed (g : Guest) (requested timed : Bool) (time budget cr0 cr1 : ℕ) (s : Stand) (r : Result Done Want) (words guard kept : List ℕ) (t : Stand) (guard' kept' : List ℕ) : Type 0 where
  pub idle : IfErr r (λ _. Stays s t × Same s guard kept t guard' kept')
  pub done : IfOk r (λ d. Behind timed time s d t
      × ByChange d.change ((t.most ≡ s.most - 1) × Same s guard kept t guard' kept')
      (Anew g requested timed time budget words t × ((GuardedAlike cr0 cr1 s words t × Same s guard kept t guard' kept') ⊎ Emptied t kept')))
  pub small : Low t.next
