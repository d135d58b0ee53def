-- THE INTERVAL TIMER: the proof of `IntervalTimer`. The word is read and stored through the host pages with which the run starts.
-- Assumes nothing.
use Rattle.std.specs.Prelude.{Err, Ok}
use Prim.Native.Nat.{ℕ, zero, suc, ◌+◌, ◌-◌, ◌*◌, ◌/◌, ◌%◌, ◌^◌, ◌≤◌, ◌<◌}
use native.Mathlib.Omega.{arith}
use mathlib.Core.Path.{◌≡◌, refl, sym, ap, ◌∙◌, subst}
use mathlib.Core.Bool.{Bool, true, false, cond, ◌&&◌, ◌||◌, false≢true}
use mathlib.Core.List.{List, [], ◌∷◌, map}
use mathlib.Core.Logic.{◌⊎◌, inl, inr, ⊎_elim}
use lib.Dec.{eqb, ltb}
use lib.ListN.{length, set, length-set}
use lib.Seq.{get_or-set_same, get_or-set_other}
use borrow.Author.Tests.{ltb-true, leb-true, eq-eqb, ne_eqb, eqb-true, eqb-false}
use Rattle.machine.specs.declared.Cpu.{Cpu}
use Rattle.machine.specs.declared.End.{End}
use Rattle.machine.specs.declared.End.TheVariants.{Intercepted, HostFault, BudgetUsed}
use Rattle.machine.specs.declared.Failure.{Failure}
use Rattle.machine.specs.declared.Guest.{Guest}
use Rattle.machine.specs.declared.Numbers.{Numbers}
use Rattle.machine.specs.declared.Reason.{Reason}
use Rattle.machine.specs.Words.{byte_at, word_at, word_bytes}
use Rattle.machine.specs.Record.{long_length, version_for, system370_mode, guest_of, request_of, residue_of, with_interval}
use Rattle.machine.specs.Sizes.{frame_bytes, page_bytes}
use Rattle.machine.specs.Interval.{word_place, active, period, fall, risen, falls, residue_after, word_after, turns_negative, pending, with_t, without_t, request_after}
use Rattle.machine.specs.Refusals.{most_time, frames_of, run_verdict, no_refusal}
use Rattle.machine.specs.Entry.{extent_bytes, entry_good}
use Rattle.machine.specs.Time.{charged}
use Rattle.machine.specs.Failures.{addressing, host_fault, exception_of}
use Rattle.machine.specs.Walk.{walk, Walk, at_frame}
use Rattle.machine.specs.Host.{Host, host, host_virtual, host_entry, in_storage, host_page, backing, Cell, absent, present, in_frame, cell_of, view, Located, places, store_byte, stored, byte_in, bytes_behind}
use Rattle.machine.specs.Addresses.{prefixed, byte_of, Access, reached, denied, settle, real_access, Accesses, all, stopped, and_then, accesses, up_from}
use Rattle.machine.specs.Outcomes.{Effects, completed}
use Rattle.machine.specs.Interruptions.{with_bytes}
use Rattle.machine.specs.Run.{Machine, host_of, unit_from, behind_of, after_unit, after_interception, answered, with_tick, with_word, word_accesses, word_in, residue_from, risen_to, fallen_to, Step, goes, ends, step, Ended as Run, counted, onward, run}
use Rattle.machine.specs.Operations.{Result, result_of, machine_of}
use Rattle.machine.specs.Theorems.{Each, none, more, HasPage, interval_exit}
use Rattle.machine.specs.Isolation.{Agree}
use Rattle.machine.specs.IntervalTimer.{timer_word, turned, BesideWord, LeavesWord, word_through, FallsAfterTheStores, Timed, TimedAs, IntervalTimer}
use Rattle.machine.proofs.Tests.{on_either_arm}
use Rattle.machine.proofs.Laws.{length-with_cpu, length-with_results}
use Rattle.machine.proofs.Words.{word_of_word_bytes}
use Rattle.machine.proofs.Verdicts.{accepted_version, accepted_time, accepted-residue}
use Rattle.machine.proofs.Entry.{entry_version}
use Rattle.machine.proofs.Ticks.{Update, still, rises, fell, InRange, residue-small, request_of-with_interval, residue_of-with_interval, residue_of-with_results, request_of-with_results}
use Rattle.machine.proofs.Runs.{stored-length, step_cases, left_by_lem, same_end, same_units, run_of_cases}
use Rattle.machine.proofs.Backing.{same_frame}
use Rattle.machine.proofs.Timer.{exit_residue, exit_request, exit_cleared}
use Rattle.machine.proofs.Kept.{step_in_range}
use Rattle.machine.proofs.Backed.{word_is_backed}
use Rattle.machine.proofs.Isolation.{start_twins}
use Rattle.machine.proofs.Twins.{Twins, same_run, pages, pages₁}
use Rattle.machine.specs.Answers.{run_answer}

-- the byte of a cell is the one behind its page
byte_of_cell : (h : Host) (a : ℕ) (w : Walk) → byte_of (cell_of h a w) ≡ byte_in w h.storage a
unfolding byte_of cell_of byte_in
byte_of_cell h a (Err f) = refl
byte_of_cell h a (Ok page) = refl

-- an access that reaches this place, or none
data Lands (a : ℕ) : Access → Type 0 where
  lands : {l : Located} → l.absolute ≡ a → Lands a (reached l)
  misses : {f : Failure} → Lands a (denied f)

data LandsAll (l : List ℕ) : Accesses → Type 0 where
  lands_all : {ls : List Located} → places ls ≡ l → LandsAll l (all ls)
  misses_one : {f : Failure} → LandsAll l (stopped f)

real_lands : (g : Guest) (v : ℕ → Cell) (store : Bool) (real : ℕ) → Lands (prefixed g real) (real_access g v store real)
unfolding real_access settle
real_lands g v store real = by_cell (v (prefixed g real))
  where
    by_cell : (cell : Cell) → Lands (prefixed g real) (settle g store (λ key. false) (prefixed g real) cell)
    by_cell (absent f) = misses
    by_cell (present byte key protected) = on_either_arm (Lands (prefixed g real)) (store && protected) misses (lands refl)

-- bytes that were reached stand at the prefixed addresses
reals_land : (g : Guest) (v : ℕ → Cell) (store : Bool) (l : List ℕ) → LandsAll (map (prefixed g) l) (accesses (real_access g v store) l)
unfolding accesses and_then
reals_land g v store [] = lands_all refl
reals_land g v store (a ∷ l) = both (real_lands g v store a) (reals_land g v store l)
  where
    both : {b : ℕ} {k : List ℕ} {x : Access} {y : Accesses} → Lands b x → LandsAll k y → LandsAll (b ∷ k) (and_then x y)
    both misses h = misses_one
    both (lands e) misses_one = misses_one
    both (lands e) (lands_all es) = lands_all (λ i. e i ∷ es i)

word-places : (n : Numbers) (m : Machine) (at : List Located) → word_accesses n m ≡ all at
    → places at ≡ map (prefixed (guest_of m.description)) (up_from word_place 4)
unfolding word_accesses
word-places n m at e = by_accesses (subst (LandsAll _) e (reals_land _ _ true (up_from word_place 4)))
  where
    by_accesses : LandsAll (map (prefixed (guest_of m.description)) (up_from word_place 4)) (all at)
        → places at ≡ map (prefixed (guest_of m.description)) (up_from word_place 4)
    by_accesses (lands_all es) = es

-- what stands at places, and what is stored there, goes by the places alone

bytes_of-places : (behind : ℕ → Walk) (s : List ℕ) (ls : List Located)
    → bytes_behind behind s ls ≡ map (λ a. byte_in (behind a) s a) (places ls)
bytes_of-places behind s [] = refl
bytes_of-places behind s (l ∷ ls) =
    ap (λ (bytes : List ℕ). byte_in (behind l.absolute) s l.absolute ∷ bytes) (bytes_of-places behind s ls)

-- bytes to be stored at places
stores_at : List ℕ → List ℕ → List Located
stores_at [] bytes = []
stores_at (a ∷ others) [] = []
stores_at (a ∷ others) (b ∷ bytes) = record { absolute = a; byte = b } ∷ stores_at others bytes

stores_of_places : (ls : List Located) (bytes : List ℕ) → with_bytes ls bytes ≡ stores_at (places ls) bytes
unfolding with_bytes stores_at
stores_of_places [] bytes = refl
stores_of_places (l ∷ ls) [] = refl
stores_of_places (l ∷ ls) (b ∷ bytes) =
    ap (λ (rest : List Located). record { absolute = l.absolute; byte = b } ∷ rest) (stores_of_places ls bytes)

-- the word through host pages, by the addresses of its bytes
abbrev word_at_places : (ℕ → Walk) → ℕ → ℕ → ℕ → ℕ → List ℕ → ℕ
word_at_places behind a b c d s =
    word_at (byte_in (behind a) s a ∷ byte_in (behind b) s b ∷ byte_in (behind c) s c ∷ byte_in (behind d) s d ∷ []) 0

-- four bytes that are stored at four host addresses are read back
four_stored : (s : List ℕ) (q₀ q₁ q₂ q₃ : ℕ) → q₀ < length s → q₁ < length s → q₂ < length s → q₃ < length s
    → (q₀ ≡ q₁ → ⊥) → (q₀ ≡ q₂ → ⊥) → (q₀ ≡ q₃ → ⊥) → (q₁ ≡ q₂ → ⊥) → (q₁ ≡ q₃ → ⊥) → (q₂ ≡ q₃ → ⊥)
    → (b₀ b₁ b₂ b₃ : ℕ)
    → (byte_at (set (set (set (set s q₀ b₀) q₁ b₁) q₂ b₂) q₃ b₃) q₀ ≡ b₀)
    × (byte_at (set (set (set (set s q₀ b₀) q₁ b₁) q₂ b₂) q₃ b₃) q₁ ≡ b₁)
    × (byte_at (set (set (set (set s q₀ b₀) q₁ b₁) q₂ b₂) q₃ b₃) q₂ ≡ b₂)
    × (byte_at (set (set (set (set s q₀ b₀) q₁ b₁) q₂ b₂) q₃ b₃) q₃ ≡ b₃)
four_stored s q₀ q₁ q₂ q₃ i₀ i₁ i₂ i₃ n₀₁ n₀₂ n₀₃ n₁₂ n₁₃ n₂₃ b₀ b₁ b₂ b₃ = (
  get_or-set_other s₂ q₃ q₀ b₃ 0 n₀₃ ∙ get_or-set_other s₁ q₂ q₀ b₂ 0 n₀₂ ∙ get_or-set_other s₀ q₁ q₀ b₁ 0 n₀₁ ∙ get_or-set_same s q₀ b₀ 0 i₀,
  get_or-set_other s₂ q₃ q₁ b₃ 0 n₁₃ ∙ get_or-set_other s₁ q₂ q₁ b₂ 0 n₁₂ ∙ get_or-set_same s₀ q₁ b₁ 0 (omega (arith, length-set s q₀ b₀)),
  get_or-set_other s₂ q₃ q₂ b₃ 0 n₂₃ ∙ get_or-set_same s₁ q₂ b₂ 0 (omega (arith, length-set s q₀ b₀, length-set s₀ q₁ b₁)),
  get_or-set_same s₂ q₃ b₃ 0 (omega (arith, length-set s q₀ b₀, length-set s₀ q₁ b₁, length-set s₁ q₂ b₂)),
)
  where
    s₀ : List ℕ
    s₀ = set s q₀ b₀

    s₁ : List ℕ
    s₁ = set s₀ q₁ b₁

    s₂ : List ℕ
    s₂ = set s₁ q₂ b₂

-- a real address in block 0 keeps its offset
offset_kept : (g : Guest) (i : ℕ) → i < page_bytes → prefixed g i % frame_bytes ≡ i
unfolding prefixed
offset_kept g i low = rw (eq-eqb (i / page_bytes) 0 (omega arith)) (omega arith)

-- the word stored through host pages whose frames lie in the storage, and read back
module _ (behind : ℕ → Walk) (g : Guest) (s' : List ℕ) (bounded : (a f : ℕ) (p : Bool) → behind a ≡ at_frame f p → f < frames_of s') where
  in_storage_lem : (a : ℕ) (p : HasPage behind a) → in_frame p.frame a < length s'
  in_storage_lem a p = omega (arith, bounded a p.frame p.protected p.page)

  four_behind : (w : ℕ) → HasPage behind (prefixed g 80) → HasPage behind (prefixed g 81)
      → HasPage behind (prefixed g 82) → HasPage behind (prefixed g 83)
      → word_at_places behind (prefixed g 80) (prefixed g 81) (prefixed g 82) (prefixed g 83)
      (stored behind (stores_at (prefixed g 80 ∷ prefixed g 81 ∷ prefixed g 82 ∷ prefixed g 83 ∷ []) (word_bytes w)) s') ≡ w % 2 ^ 32
  unfolding stored store_byte byte_in stores_at
  four_behind w p₀ p₁ p₂ p₃ =
      rw (p₀.page, p₁.page, p₂.page, p₃.page)
      ((λ i. word_at (four.0 i ∷ four.1 i ∷ four.2 i ∷ four.3 i ∷ []) 0) ∙ word_of_word_bytes w)
    where
      q₀ : ℕ
      q₀ = in_frame p₀.frame (prefixed g 80)

      q₁ : ℕ
      q₁ = in_frame p₁.frame (prefixed g 81)

      q₂ : ℕ
      q₂ = in_frame p₂.frame (prefixed g 82)

      q₃ : ℕ
      q₃ = in_frame p₃.frame (prefixed g 83)

      offsets : (q₀ % 4096 ≡ 80) × (q₁ % 4096 ≡ 81) × (q₂ % 4096 ≡ 82) × (q₃ % 4096 ≡ 83)
      offsets = (
        omega (arith, offset_kept g 80 (omega arith)),
        omega (arith, offset_kept g 81 (omega arith)),
        omega (arith, offset_kept g 82 (omega arith)),
        omega (arith, offset_kept g 83 (omega arith)),
      )

      two : (a b i j : ℕ) → a % 4096 ≡ i → b % 4096 ≡ j → (i ≡ j → ⊥) → a ≡ b → ⊥
      two a b i j p q other e = other (sym p ∙ ap (λ (x : ℕ). x % 4096) e ∙ q)

      left : List ℕ
      left = set (set (set (set s' q₀ (w / 65536 / 256 % 256)) q₁ (w / 65536 % 256)) q₂ (w / 256 % 256)) q₃ (w % 256)

      four : (byte_at left q₀ ≡ w / 65536 / 256 % 256) × (byte_at left q₁ ≡ w / 65536 % 256) × (byte_at left q₂ ≡ w / 256 % 256)
          × (byte_at left q₃ ≡ w % 256)
      four =
          four_stored s' q₀ q₁ q₂ q₃ (in_storage_lem _ p₀) (in_storage_lem _ p₁) (in_storage_lem _ p₂) (in_storage_lem _ p₃)
          (two q₀ q₁ 80 81 offsets.0 offsets.1 (λ e. omega arith)) (two q₀ q₂ 80 82 offsets.0 offsets.2 (λ e. omega arith))
          (two q₀ q₃ 80 83 offsets.0 offsets.3 (λ e. omega arith)) (two q₁ q₂ 81 82 offsets.1 offsets.2 (λ e. omega arith))
          (two q₁ q₃ 81 83 offsets.1 offsets.3 (λ e. omega arith)) (two q₂ q₃ 82 83 offsets.2 offsets.3 (λ e. omega arith))
          (w / 65536 / 256 % 256) (w / 65536 % 256) (w / 256 % 256) (w % 256)

  -- at the places that were reached
  reached-stored : (at : List Located) → places at ≡ map (prefixed g) (up_from word_place 4) → Each (HasPage behind) (places at) → (w : ℕ)
      → word_at_places behind (prefixed g 80) (prefixed g 81) (prefixed g 82) (prefixed g 83) (stored behind (with_bytes at (word_bytes w)) s')
      ≡ w % 2 ^ 32
  unfolding up_from
  reached-stored at found each w = rw (stores_of_places at (word_bytes w), found) (by_pages (rw found at each))
    where
      by_pages : Each (HasPage behind) (prefixed g 80 ∷ prefixed g 81 ∷ prefixed g 82 ∷ prefixed g 83 ∷ [])
          → word_at_places behind (prefixed g 80) (prefixed g 81) (prefixed g 82) (prefixed g 83)
          (stored behind (stores_at (prefixed g 80 ∷ prefixed g 81 ∷ prefixed g 82 ∷ prefixed g 83 ∷ []) (word_bytes w)) s') ≡ w % 2 ^ 32
      by_pages (more p₀ (more p₁ (more p₂ (more p₃ none)))) = four_behind w p₀ p₁ p₂ p₃

-- a host page lies in the storage
page-in_storage : (g : Guest) (h : Host) (a f : ℕ) (p : Bool) → backing g h a ≡ at_frame f p → f < frames_of h.storage
unfolding backing host_page in_storage
page-in_storage g h a f p = by_extent (ltb a (extent_bytes g))
  where
    by_frame : (frame : ℕ) (q : Bool) (b : Bool) → ltb frame (frames_of h.storage) ≡ b
        → cond b (at_frame frame q) (Err (host_fault (host_virtual g a) addressing)) ≡ at_frame f p → f < frames_of h.storage
    by_frame frame q true low e = let same : frame ≡ f = same_frame e in rw (← same) (ltb-true frame (frames_of h.storage) low)
    by_frame frame q false low e = let z : ◌≡◌ {A = ℕ} 0 1 = cc in absurd (omega arith)

    by_walk : (w : Walk) → in_storage h.storage (host_virtual g a) w ≡ at_frame f p → f < frames_of h.storage
    by_walk (Err x) e = let z : ◌≡◌ {A = ℕ} 0 1 = cc in absurd (omega arith)
    by_walk (Ok page) e = by_frame page.frame page.protected (ltb page.frame (frames_of h.storage)) refl e

    by_extent : (b : Bool) → cond b (host_page h (host_virtual g a)) (Err (exception_of addressing)) ≡ at_frame f p → f < frames_of h.storage
    by_extent true e =
        by_walk (walk (host_entry h.storage (host_virtual g a)) (host_fault (host_virtual g a)) h.designation (host_virtual g a)) e
    by_extent false e = let z : ◌≡◌ {A = ℕ} 0 1 = cc in absurd (omega arith)

or_false : (b : Bool) → b ≡ (b || false)
or_false true = refl
or_false false = refl

-- T after a fall
pending-after : (q w : ℕ) → pending (request_after q w) ≡ (pending q || turns_negative w)
unfolding request_after
pending-after q w = by_turn (turns_negative w)
  where
    by_pending : (b : Bool) → pending q ≡ b → pending (cond b q (q + 128)) ≡ (b || true)
    by_pending true e = e
    by_pending false e = eq-eqb ((q + 128) / 2 ^ 7 % 2) 1 (omega (arith, eqb-false (q / 2 ^ 7 % 2) 1 e))

    by_turn : (b : Bool) → pending (cond b (with_t q) q) ≡ (pending q || b)
    by_turn true = by_pending (pending q) refl
    by_turn false = or_false (pending q)

pending-cleared : (q : ℕ) → pending (without_t q) ≡ false
pending-cleared q = ne_eqb (q % 128 / 2 ^ 7 % 2) 1 (λ e. omega arith)

regrouped : (a b c : Bool) → ((a || (b || false)) || c) ≡ (a || (b || c))
regrouped true b c = refl
regrouped false true c = refl
regrouped false false c = refl

-- the residue after a unit, by whether the word falls

residue-risen : (residue time : ℕ) → falls residue time ≡ false → residue_after residue time ≡ residue + 3 * time
unfolding residue_after
residue-risen residue time e = rw e

residue_fallen : (residue time : ℕ) → falls residue time ≡ true → residue_after residue time + period ≡ residue + 3 * time
unfolding residue_after falls
residue_fallen residue time e = rw e (omega (arith, leb-true period (risen residue time) e))

-- a fall, and falls after it, as sums

word_small : (w : ℕ) → word_after w % 2 ^ 32 ≡ word_after w
unfolding word_after
word_small w = omega arith

once_fallen : (w : ℕ) → word_after w % 2 ^ 32 ≡ (w + 1 * (2 ^ 32 - fall)) % 2 ^ 32
unfolding word_after
once_fallen w = omega arith

more_falls : (w fallen : ℕ)
    → ((w + 1 * (2 ^ 32 - fall)) % 2 ^ 32 + fallen * (2 ^ 32 - fall)) % 2 ^ 32 ≡ (w + suc fallen * (2 ^ 32 - fall)) % 2 ^ 32
more_falls w fallen = omega arith

module _ (n : Numbers) (r s k : List ℕ) (agree : Agree n r s k s k) (accepted : run_verdict n r s k ≡ no_refusal)
    (good : entry_good (guest_of r) ≡ true) (on : active (guest_of r) ≡ true) (short : n.time ≤ most_time) where
  abbrev g : Guest
  g = guest_of r

  -- the host pages with which the run starts
  abbrev behind : ℕ → Walk
  behind = pages n r s k s k agree accepted good

  -- the word in a storage, through them
  abbrev word_of : List ℕ → ℕ
  word_of = word_at_places behind (prefixed g 80) (prefixed g 81) (prefixed g 82) (prefixed g 83)

  -- a machine of this run
  record Going (m : Machine) : Type 0 where
    twins : Twins n r s k s k m m
    range : InRange m

  behind_going : (m : Machine) → Going m → behind_of n m ≡ behind
  behind_going m p = pages₁ n r s k s k agree accepted good m m p.twins

  -- the timer's word of such a machine
  word-seen : (h : Host) → backing g h ≡ behind → timer_word g h ≡ word_of h.storage
  unfolding timer_word view up_from
  word-seen h same = λ i. word_at (byte (prefixed g 80) i ∷ byte (prefixed g 81) i ∷ byte (prefixed g 82) i ∷ byte (prefixed g 83) i ∷ []) 0
    where
      byte : (a : ℕ) → byte_of (cell_of h a (backing g h a)) ≡ byte_in (behind a) h.storage a
      byte a = byte_of_cell h a (backing g h a) ∙ ap (λ (b : ℕ → Walk). byte_in (b a) h.storage a) same

  places_going : (m : Machine) → Going m → (at : List Located) → word_accesses n m ≡ all at
      → places at ≡ map (prefixed g) (up_from word_place 4)
  places_going m p at e = word-places n m at e ∙ ap (λ (x : Guest). map (prefixed x) (up_from word_place 4)) p.twins.guest

  -- the word as it is updated
  word-found : (m : Machine) → Going m → (at : List Located) → word_accesses n m ≡ all at → (after : Machine)
      → word_in n m at after ≡ word_of after.storage
  unfolding word_in up_from
  word-found m p at e after =
      rw (behind_going m p)
      (ap (λ (bytes : List ℕ). word_at bytes 0)
      (bytes_of-places behind after.storage at ∙ ap (map (λ a. byte_in (behind a) after.storage a)) (places_going m p at e)))

  -- stores beside the word leave it
  byte_kept : (real : ℕ) → word_place ≤ real → real < word_place + 4 → (ls : List Located) → Each (BesideWord g behind) (places ls)
      → (s' : List ℕ)
      → byte_in (behind (prefixed g real)) (stored behind ls s') (prefixed g real) ≡ byte_in (behind (prefixed g real)) s' (prefixed g real)
  unfolding stored store_byte byte_in
  byte_kept real low high [] each s' = refl
  byte_kept real low high (l ∷ ls) (more p each) s' =
      byte_kept real low high ls each _ ∙ by_pages (behind (prefixed g real)) refl (behind l.absolute) refl
    where
      by_pages : (w : Walk) → behind (prefixed g real) ≡ w → (x : Walk) → behind l.absolute ≡ x
          → byte_in w (store_byte x l s') (prefixed g real) ≡ byte_in w s' (prefixed g real)
      by_pages (Err f) e x h = refl
      by_pages (Ok page) e (Err y) h = refl
      by_pages (Ok page) e (Ok other) h =
          get_or-set_other s' (in_frame other.frame l.absolute) (in_frame page.frame (prefixed g real)) l.byte 0
          (λ same. p real low high other.frame page.frame other.protected page.protected h e (sym same))

  word_kept : (ls : List Located) → Each (BesideWord g behind) (places ls) → (s' : List ℕ) → word_of (stored behind ls s') ≡ word_of s'
  word_kept ls each s' =
      λ i. word_at
      (byte_kept 80 (omega arith) (omega arith) ls each s' i ∷ byte_kept 81 (omega arith) (omega arith) ls each s' i
      ∷ byte_kept 82 (omega arith) (omega arith) ls each s' i ∷ byte_kept 83 (omega arith) (omega arith) ls each s' i ∷ []) 0

  -- the word that is stored is read back
  word-stored : (m : Machine) → Going m → (at : List Located) → word_accesses n m ≡ all at → (w : ℕ) (s' : List ℕ) → length s ≡ length s'
      → word_of (stored (behind_of n m) (with_bytes at (word_bytes w)) s') ≡ w % 2 ^ 32
  word-stored m p at e w s' long =
      rw (behind_going m p)
      (reached-stored behind g s' bounded at
      (places_going m p at e)
      (rw (behind_going m p) at (word_is_backed n m at e)) w)
    where
      bounded : (a f : ℕ) (q : Bool) → behind a ≡ at_frame f q → f < frames_of s'
      bounded a f q page = omega (arith, page-in_storage g (host n.designation s k) a f q page)

  -- each step leads to a machine of the run
  going_on : (m : Machine) → Going m → Going (left_by_lem (step n m))
  unfolding run onward counted
  going_on m p = record {
    twins = by_step (step n m) (same_run n r s k s k agree accepted good 1 m m p.twins).machine;
    range = step_in_range n short m p.range;
  }
    where
      by_step : (x : Step) → Twins n r s k s k (onward (run 0 n) x).machine (onward (run 0 n) x).machine
          → Twins n r s k s k (left_by_lem x) (left_by_lem x)
      by_step (goes next) t = t
      by_step (ends e next) t = t

  -- what so many falls in so many units make of residue, word and T
  record After (fallen units : ℕ) (m next : Machine) : Type 0 where
    residue : residue_of next.description + period * fallen ≡ residue_of m.description + 3 * (units * n.time)
    word : word_of next.storage ≡ (word_of m.storage + fallen * (2 ^ 32 - fall)) % 2 ^ 32
    request : pending (request_of next.description) ≡ (pending (request_of m.description) || turned fallen (word_of m.storage))

  module _ (m : Machine) (p : Going m) (small : word_of m.storage < 2 ^ 32) (left : LeavesWord n m) (c : Cpu) (e : Effects)
      (is : unit_from n m ≡ completed c e) where
    abbrev after : Machine
    after = after_unit n m c e

    unit-word : word_of after.storage ≡ word_of m.storage
    unfolding after_unit
    unit-word = rw (behind_going m p) (word_kept e.stores (rw (behind_going m p, p.twins.guest) at (left c e is)) m.storage)

    unit-long : length s ≡ length after.storage
    unfolding after_unit
    unit-long = p.twins.storage.outside₁.kept ∙ sym (stored-length (behind_of n m) e.stores m.storage)

    record_long : length after.description ≡ long_length
    unfolding after_unit
    record_long = length-with_cpu (charged c n.time) m.description ∙ p.range.long

    residue-read : (request : ℕ)
        → residue_of (with_interval request (residue_from n m) after.description) ≡ residue_after (residue_of m.description) n.time
    unfolding residue_from
    residue-read request =
        let residue = residue_of m.description in
        let low : residue_after residue n.time < period = residue-small residue n.time p.range.range short in
        residue_of-with_interval request (residue_after residue n.time) after.description
        (omega (arith, record_long)) ∙ omega arith

    request-read : (request residue : ℕ) → request_of (with_interval request residue after.description) ≡ request
    request-read request residue = request_of-with_interval request residue after.description (omega (arith, record_long))

    -- a unit: the residue rose, or the word fell once
    unit-after : {next : Machine} → Update n m after next → After 0 1 m next ⊎ After 1 1 m next
    unfolding risen_to fallen_to with_tick with_word turned
    unit-after (still off) = absurd (false≢true (sym off ∙ ap active p.twins.guest ∙ on))
    unit-after (rises active low) = inl (record {
      residue = rw (residue-read (request_of m.description)) (omega (arith, residue-risen (residue_of m.description) n.time low));
      word = unit-word ∙ omega arith;
      request = ap pending (request-read (request_of m.description) (residue_from n m)) ∙ or_false _;
    })
    unit-after (fell active full at reach) =
        let found : word_in n m at after ≡ word_of m.storage = word-found m p at reach after ∙ unit-word in
        inr (record {
          residue =
              rw (residue-read (request_after (request_of m.description) (word_in n m at after)))
              (omega (arith, residue_fallen (residue_of m.description) n.time full));
          word =
              word-stored m p at reach (word_after (word_in n m at after)) after.storage unit-long
              ∙ ap (λ (w : ℕ). word_after w % 2 ^ 32) found ∙ fallen_once;
          request =
              ap pending (request-read (request_after (request_of m.description) (word_in n m at after)) (residue_from n m))
              ∙ pending-after (request_of m.description) (word_in n m at after)
              ∙ ap (λ (w : ℕ). pending (request_of m.description) || turns_negative w) found
              ∙ ap (λ (b : Bool). pending (request_of m.description) || b) (or_false _);
        })
      where
        fallen_once : word_after (word_of m.storage) % 2 ^ 32 ≡ (word_of m.storage + 1 * (2 ^ 32 - fall)) % 2 ^ 32
        fallen_once = once_fallen (word_of m.storage)

  -- the same where a run ended, whose last exit may clear T
  record Done (end : End) (fallen units : ℕ) (m next : Machine) : Type 0 where
    residue : residue_of next.description + period * fallen ≡ residue_of m.description + 3 * (units * n.time)
    word : word_of next.storage ≡ (word_of m.storage + fallen * (2 ^ 32 - fall)) % 2 ^ 32
    request : (end ≡ interval_exit → ⊥)
        → pending (request_of next.description) ≡ (pending (request_of m.description) || turned fallen (word_of m.storage))
    cleared : end ≡ interval_exit → pending (request_of next.description) ≡ false

  -- an interception
  exit_done : (m : Machine) → Going m → word_of m.storage < 2 ^ 32 → (reason : Reason) (c : Cpu)
      → Done (Intercepted reason) 0 0 m (answered reason (after_interception m c))
  unfolding turned answered after_interception
  exit_done m p small reason c = record {
    residue = omega (arith, exit_residue m reason c);
    word = omega arith;
    request = λ other. ap pending (exit_request m reason c other) ∙ or_false _;
    cleared = λ e. ap pending (exit_cleared m reason c e) ∙ pending-cleared (request_of m.description);
  }

  -- a machine of the run with which it ended so
  abbrev Out : Machine → Run → Type 0
  Out m e = (fallen : ℕ) × Going e.machine × Done e.end fallen e.units m e.machine

  -- nothing happened
  same_done : (end : End) → (end ≡ interval_exit → ⊥) → (m : Machine) → word_of m.storage < 2 ^ 32 → Done end 0 0 m m
  unfolding turned
  same_done end other m small = record {
    residue = omega arith;
    word = omega arith;
    request = λ _. or_false _;
    cleared = λ e. absurd (other e);
  }

  one_more : (m next : Machine) (e : Run) → word_of m.storage < 2 ^ 32 → After 0 1 m next ⊎ After 1 1 m next → Out next e
      → Out m (counted e)
  unfolding counted turned word_after
  one_more m next e small (inl a) (fallen, going, d) = (
    fallen,
    going,
    record {
      residue = omega (arith, a.residue, d.residue);
      word = d.word ∙ ap (λ (w : ℕ). (w + fallen * (2 ^ 32 - fall)) % 2 ^ 32) same;
      request = λ other. d.request other ∙ (λ i. kept i || turned fallen (same i));
      cleared = d.cleared;
    },
  )
    where
      same : word_of next.storage ≡ word_of m.storage
      same = a.word ∙ omega arith

      kept : pending (request_of next.description) ≡ pending (request_of m.description)
      kept = a.request ∙ sym (or_false (pending (request_of m.description)))
  one_more m next e small (inr a) (fallen, going, d) = (
    suc fallen,
    going,
    record {
      residue = omega (arith, a.residue, d.residue);
      word = d.word ∙ ap (λ (w : ℕ). (w + fallen * (2 ^ 32 - fall)) % 2 ^ 32) a.word ∙ more_falls (word_of m.storage) fallen;
      request =
          λ other. d.request other ∙ (λ i. a.request i || turned fallen (once i))
          ∙ regrouped (pending (request_of m.description)) (turns_negative (word_of m.storage))
          (turned fallen (word_after (word_of m.storage)));
      cleared = d.cleared;
    },
  )
    where
      once : word_of next.storage ≡ word_after (word_of m.storage)
      once = a.word ∙ omega arith

  -- none of the first so many units stores into the word
  abbrev Left : Machine → ℕ → Type 0
  Left m units = (i : ℕ) → i < units → LeavesWord n (run i n m).machine

  run_timed : (b : ℕ) (m : Machine) → Going m → word_of m.storage < 2 ^ 32 → Left m (run b n m).units → Out m (run b n m)
  unfolding run onward counted
  run_timed zero m p small left = (0, p, same_done BudgetUsed (λ e. let z : ◌≡◌ {A = ℕ} 0 1 = cc in omega arith) m small)
  run_timed (suc b) m p small left = by_step (λ next q low l. run_timed b next q low l)
    where
      Timely : Step → Type 0
      Timely x = step n m ≡ x → Left m (onward (run b n) x).units → Out m (onward (run b n) x)

      going : {next : Step} → step n m ≡ next → Going (left_by_lem next)
      going same = rw same at (going_on m p)

      by_step : ((next : Machine) → Going next → word_of next.storage < 2 ^ 32 → Left next (run b n next).units
          → Out next (run b n next))
          → Out m (onward (run b n) (step n m))
      by_step later =
          step_cases n m Timely
          (λ c e is next u same left.
          let once = unit-after m p small (left 0 (omega arith)) c e is u in
          one_more m next (run b n next) small once
          (later next (going same) (⊎_elim (λ a. rw a.word (omega arith)) (λ a. rw a.word (omega arith)) once)
          λ i h. rw same at (left (suc i) (omega arith))))
          (λ reason c is same left. (0, going same, exit_done m p small reason c))
          (λ f is same left. (0, p, same_done (HostFault f) (λ e. let z : ◌≡◌ {A = ℕ} 0 1 = cc in omega arith) m small))
          (λ f is same left. (0, p, same_done (HostFault f) (λ e. let z : ◌≡◌ {A = ℕ} 0 1 = cc in omega arith) m small))
          refl left

-- an active timer has the longer record
active-long : (n : Numbers) (r storage keys : List ℕ) → run_verdict n r storage keys ≡ no_refusal → entry_good (guest_of r) ≡ true
    → active (guest_of r) ≡ true
    → length r ≡ long_length
unfolding active guest_of
active-long n r storage keys accepted good on = by_length (eqb (length r) long_length) refl version
  where
    first : (b c : Bool) → (b && c) ≡ true → b ≡ true
    first true c e = refl
    first false c e = e

    version : version_for (length r) ≡ 2
    version = sym (accepted_version n r storage keys accepted) ∙ entry_version (guest_of r) good (first (system370_mode (byte_at r 4)) _ on)

    by_length : (b : Bool) → eqb (length r) long_length ≡ b → ◌≡◌ {A = ℕ} (cond b 2 1) 2 → length r ≡ long_length
    by_length true e two = eqb-true (length r) long_length e
    by_length false e two = absurd (omega arith)

module _ (n : Numbers) (r storage keys : List ℕ) (end : End) (units : ℕ) (t : Timed n r storage keys units) where
  self_agree : Agree n r storage keys storage keys
  self_agree = record {
    alike = record { lengths = (refl, refl); entries = λ at i h low high. refl; frames = λ frame i h low. refl; keys = λ frame h. refl };
    apart = t.apart;
  }

  short_time : n.time ≤ most_time
  short_time = accepted_time n r storage keys t.accepted

  -- a machine of this run, and its word
  abbrev Goes : Machine → Type 0
  Goes = Going n r storage keys self_agree t.accepted t.good t.on short_time

  abbrev the_word : List ℕ → ℕ
  the_word = word_of n r storage keys self_agree t.accepted t.good t.on short_time

  start_going : Goes (machine_of n r storage keys)
  unfolding machine_of
  start_going =
      let long : length r ≡ long_length = active-long n r storage keys t.accepted t.good t.on in
      record {
        twins = start_twins n r storage keys storage keys self_agree;
        range = record {
          long = length-with_results _ r ∙ long;
          range = rw (residue_of-with_results BudgetUsed r) (accepted-residue n r storage keys t.accepted long);
        };
      }

  -- the word that the guest finds
  word_of_start : timer_word (guest_of r) (host n.designation storage keys) ≡ the_word storage
  word_of_start = word-seen n r storage keys self_agree t.accepted t.good t.on short_time (host n.designation storage keys) refl

  start_small : the_word (machine_of n r storage keys).storage < 2 ^ 32
  unfolding machine_of
  start_small = rw (← word_of_start) t.small

  word_of_going : (m : Machine) → Goes m → timer_word (guest_of r) (host n.designation m.storage m.keys) ≡ the_word m.storage
  unfolding behind_of host_of
  word_of_going m p =
      word-seen n r storage keys self_agree t.accepted t.good t.on short_time (host_of n m)
      (ap (λ (x : Guest). backing x (host_of n m)) (sym p.twins.guest)
      ∙ behind_going n r storage keys self_agree t.accepted t.good t.on short_time m p)

  timed_as : (e : Run) → e.end ≡ end → e.units ≡ units
      → Out n r storage keys self_agree t.accepted t.good t.on short_time (machine_of n r storage keys) e
      → (fallen : ℕ) × TimedAs n r storage keys units end (result_of n e) fallen
  unfolding result_of machine_of
  timed_as e same_end same_units (fallen, going, d) = (
    fallen,
    record {
      residue =
          rw (residue_of-with_results e.end e.machine.description, ← same_units)
          (d.residue ∙ ap (λ (x : ℕ). x + 3 * (e.units * n.time)) (residue_of-with_results BudgetUsed r));
      range = rw (residue_of-with_results e.end e.machine.description) going.range.range;
      word = word_of_going e.machine going ∙ d.word ∙ ap (λ (w : ℕ). (w + fallen * (2 ^ 32 - fall)) % 2 ^ 32) (sym word_of_start);
      request =
          λ other. ap pending (request_of-with_results e.end e.machine.description) ∙ d.request (λ exit. other (sym same_end ∙ exit))
          ∙ (λ i. pending (request_of-with_results BudgetUsed r i) || turned fallen (sym word_of_start i));
      cleared = λ exit. ap pending (request_of-with_results e.end e.machine.description) ∙ d.cleared (same_end ∙ exit);
    },
  )

pub interval_timer : IntervalTimer
unfolding result_of
interval_timer n r storage keys end units ended t =
    run_of_cases n r storage keys
    (λ (result : Result). result.answer ≡ run_answer end units → (fallen : ℕ) × TimedAs n r storage keys units end result fallen)
    (λ number e a. let z : ◌≡◌ {A = ℕ} 0 1 = cc in absurd (omega arith))
    (λ e g a. absurd (false≢true (sym g ∙ t.good)))
    (λ e g a.
    let as_many : (run n.budget n (machine_of n r storage keys)).units ≡ units = same_units a in
    timed_as n r storage keys end units t (run n.budget n (machine_of n r storage keys)) (same_end a) as_many
    (run_timed n r storage keys (self_agree n r storage keys end units t) t.accepted t.good t.on
    (short_time n r storage keys end units t) n.budget
    (machine_of n r storage keys) (start_going n r storage keys end units t) (start_small n r storage keys end units t)
    (λ i h. t.left i (omega arith))))
    ended

pub falls-after_the_stores : FallsAfterTheStores
unfolding after_unit risen_to fallen_to with_tick with_word word_in word_through up_from behind_of host_of
falls-after_the_stores n m next c e is goes_on on full =
    rw goes_on at
    (step_cases n m Fallen (λ c' e' is' k u. let same : e' ≡ e = cc in by_update c' e' same u) (λ r c is. tt) (λ f is. tt) (λ f is. tt))
  where
    g : Guest
    g = guest_of m.description

    the_stored : List ℕ
    the_stored = stored (behind_of n m) e.stores m.storage

    Fallen : Step → Type 0
    Fallen (goes k) = word_through g (behind_of n m) k.storage ≡ word_after (word_through g (behind_of n m) the_stored)
    Fallen (ends end k) = Unit {0}

    by_update : (c' : Cpu) (e' : Effects) → e' ≡ e → {k : Machine} → Update n m (after_unit n m c' e') k → Fallen (goes k)
    by_update c' e' same (still off) = absurd (false≢true (sym off ∙ on))
    by_update c' e' same (rises active low) = absurd (false≢true (sym low ∙ full))
    by_update c' e' same (fell active over at reach) =
        reached-stored (behind_of n m) g left bounded at (word-places n m at reach) (word_is_backed n m at reach) (word_after w)
        ∙ word_small w ∙ ap word_after found
      where
        left : List ℕ
        left = stored (behind_of n m) e'.stores m.storage

        w : ℕ
        w = word_at (bytes_behind (behind_of n m) left at) 0

        bounded : (a f : ℕ) (p : Bool) → behind_of n m a ≡ at_frame f p → f < frames_of left
        bounded a f p page =
            omega (arith, page-in_storage g (host_of n m) a f p page, stored-length (behind_of n m) e'.stores m.storage)

        found : w ≡ word_through g (behind_of n m) the_stored
        found =
            ap (λ (bytes : List ℕ). word_at bytes 0)
            (bytes_of-places (behind_of n m) left at ∙ ap (map (λ a. byte_in (behind_of n m a) left a)) (word-places n m at reach))
            ∙ ap (λ (x : Effects). word_through g (behind_of n m) (stored (behind_of n m) x.stores m.storage)) same
