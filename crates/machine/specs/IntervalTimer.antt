-- THE INTERVAL TIMER, request 1/12: in a unit, and over a run. The proofs are `falls-after_the_stores` and `interval_timer` in proofs/.
use Rattle.std.specs.Prelude.{ℕ, zero, suc, ◌+◌, ◌-◌, ◌*◌, ◌/◌, ◌%◌, ◌^◌, ◌≤◌, ◌<◌, ◌≡◌, Bool, true, false, ◌||◌, List, map, get_or}
use Rattle.machine.specs.declared.Cpu.{Cpu}
use Rattle.machine.specs.declared.End.{End}
use Rattle.machine.specs.declared.End.TheVariants.{Intercepted}
use Rattle.machine.specs.declared.Guest.{Guest}
use Rattle.machine.specs.declared.Numbers.{Numbers}
use Rattle.machine.specs.declared.Reason.TheVariants.{Program}
use Rattle.machine.specs.Words.{word_at}
use Rattle.machine.specs.Record.{guest_of, request_of, residue_of}
use Rattle.machine.specs.Sizes.{frame_bytes}
use Rattle.machine.specs.Interval.{word_place, active, period, fall, falls, word_after, turns_negative, pending}
use Rattle.machine.specs.Refusals.{run_verdict, no_refusal}
use Rattle.machine.specs.Entry.{entry_good}
use Rattle.machine.specs.Failures.{operation}
use Rattle.machine.specs.Host.{Host, host, in_frame, view, places, stored, byte_in}
use Rattle.machine.specs.Addresses.{prefixed, byte_of, up_from}
use Rattle.machine.specs.Outcomes.{Effects, completed}
use Rattle.machine.specs.Run.{Machine, unit_from, behind_of, goes, step, run}
use Rattle.machine.specs.Operations.{Result, machine_of, run_of}
use Rattle.machine.specs.Theorems.{Each, interval_exit}
use Rattle.machine.specs.Isolation.{RunEntry, RunFrame}
use Rattle.machine.specs.Answers.{run_answer}
use Rattle.machine.specs.Walk.{Walk, at_frame}

-- the timer's word, as the guest finds it
unfoldable pub timer_word : Guest → Host → ℕ
timer_word g h = word_at (map (λ real. byte_of (view g h (prefixed g real))) (up_from word_place 4)) 0

-- the same through host pages, in a storage
unfoldable pub word_through : Guest → (ℕ → Walk) → List ℕ → ℕ
word_through g behind storage = word_at (map (λ real. byte_in (behind (prefixed g real)) storage (prefixed g real)) (up_from word_place 4)) 0

-- where the word falls, it falls from what the unit's own stores leave there
abbrev pub FallsAfterTheStores : Type 0
FallsAfterTheStores = (n : Numbers) (m next : Machine) (c : Cpu) (e : Effects) → unit_from n m ≡ completed c e → step n m ≡ goes next
    → active (guest_of m.description) ≡ true → falls (residue_of m.description) n.time ≡ true
    → word_through (guest_of m.description) (behind_of n m) next.storage
    ≡ word_after (word_through (guest_of m.description) (behind_of n m) (stored (behind_of n m) e.stores m.storage))

-- one of so many falls from a word takes it from nonnegative to negative
unfoldable pub turned : ℕ → ℕ → Bool
turned zero w = false
turned (suc more) w = turns_negative w || turned more (word_after w)

-- the host bytes behind two guest absolute addresses are two
abbrev pub TwoBytes : (ℕ → Walk) → ℕ → ℕ → Type 0
TwoBytes behind a b = (f f' : ℕ) (p p' : Bool) → behind a ≡ at_frame f p → behind b ≡ at_frame f' p' → in_frame f a ≡ in_frame f' b → ⊥

-- a place beside the word
abbrev pub BesideWord : Guest → (ℕ → Walk) → ℕ → Type 0
BesideWord g behind a = (real : ℕ) → word_place ≤ real → real < word_place + 4 → TwoBytes behind a (prefixed g real)

-- the unit from here, where it completes, stores beside the word alone
abbrev pub LeavesWord : Numbers → Machine → Type 0
LeavesWord n m = (c : Cpu) (e : Effects) → unit_from n m ≡ completed c e
    → Each (BesideWord (guest_of m.description) (behind_of n m)) (places e.stores)

module _ (n : Numbers) (r storage keys : List ℕ) (units : ℕ) where
  -- a run of an active timer whose units leave the word to the timer. As in demand 3, no entry that describes the extent lies in a guest
  -- frame.
  pub record Timed : Type 0 where
    pub accepted : run_verdict n r storage keys ≡ no_refusal
    pub good : entry_good (guest_of r) ≡ true
    pub on : active (guest_of r) ≡ true
    pub apart : (at frame : ℕ) → RunEntry n r storage keys at → RunFrame n r storage keys frame → at / frame_bytes ≡ frame → ⊥
    pub small : timer_word (guest_of r) (host n.designation storage keys) < 2 ^ 32
    pub left : (i : ℕ) → i < units → LeavesWord n (run i n (machine_of n r storage keys)).machine

  -- after so many falls: three times the time of each unit went into the residue and the falls; each fall took 256 off the word; T is one
  -- where it was, or where a fall took the word from nonnegative to negative, until the exit that it makes
  pub record TimedAs (end : End) (result : Result) (fallen : ℕ) : Type 0 where
    pub residue : residue_of result.description + period * fallen ≡ residue_of r + 3 * (units * n.time)
    pub range : residue_of result.description < period
    pub word : timer_word (guest_of r) (host n.designation result.storage result.keys)
        ≡ (timer_word (guest_of r) (host n.designation storage keys) + fallen * (2 ^ 32 - fall)) % 2 ^ 32
    pub request : (end ≡ interval_exit → ⊥) → pending (request_of result.description)
        ≡ (pending (request_of r) || turned fallen (timer_word (guest_of r) (host n.designation storage keys)))
    pub cleared : end ≡ interval_exit → pending (request_of result.description) ≡ false

-- however the run ended
abbrev pub IntervalTimer : Type 0
IntervalTimer = (n : Numbers) (r storage keys : List ℕ) (end : End) (units : ℕ) → (run_of n r storage keys).answer ≡ run_answer end units
    → Timed n r storage keys units → (fallen : ℕ) × TimedAs n r storage keys units end (run_of n r storage keys) fallen

-- What `Timed` asks can be met: a run with time 1 of one unit, in which the word falls from zero and sets T, and an exit, which adds
-- nothing. The key of the word's frame gets the mark of the text's fetch, and none of the update. The proof is in crate witnesses.
pub record FallsFromZero (n : Numbers) (r storage keys : List ℕ) : Type 0 where
  pub timed : Timed n r storage keys 1
  pub ended : (run_of n r storage keys).answer ≡ run_answer (Intercepted (Program operation 1 0)) 1
  pub word_before : timer_word (guest_of r) (host n.designation storage keys) ≡ 0
  pub word_after_it : timer_word (guest_of r) (host n.designation (run_of n r storage keys).storage (run_of n r storage keys).keys)
      ≡ 0xffffff00
  pub residue_before : residue_of r ≡ 40959999
  pub residue_after_it : residue_of (run_of n r storage keys).description ≡ 2
  pub request_before : request_of r ≡ 0
  pub request_after_it : request_of (run_of n r storage keys).description ≡ 0x80
  pub key_before : get_or keys 0 0 ≡ 0
  pub key_after_it : get_or (run_of n r storage keys).keys 0 0 ≡ 4

abbrev pub TimedRunsExist : Type 0
TimedRunsExist = (n : Numbers) × (r storage keys : List ℕ) × FallsFromZero n r storage keys
