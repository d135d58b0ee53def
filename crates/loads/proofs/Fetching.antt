-- Each instruction that fetches, by what was reached of its operand.
-- Assumes nothing.
use Rattle.std.specs.Prelude.{Err, Ok}
use Prim.Native.Nat.{ℕ, ◌-◌, ◌≤◌, ◌<◌}
use mathlib.Core.Path.{◌≡◌, refl, ap, sym, subst, ◌∙◌}
use mathlib.Core.Bool.{false}
use mathlib.Core.List.{List, ◌++◌}
use lib.ListN.{take, drop}
use Rattle.machine.specs.declared.Cpu.{Cpu}
use Rattle.machine.specs.declared.Guest.{Guest}
use Rattle.machine.specs.declared.Psw.{Psw}
use Rattle.machine.specs.declared.Registers.{Registers}
use Rattle.machine.specs.declared.Text.{Text}
use Rattle.machine.specs.Words.{bits, word_at, double_at, words_at}
use Rattle.machine.specs.Record.{psw_of}
use Rattle.machine.specs.Psw.{wrap, with_psw, with_timer, with_general, advanced}
use Rattle.machine.specs.Host.{Host}
use Rattle.machine.specs.Outcomes.{Progress}
use Rattle.machine.specs.Execute.{r1, next, fetching, range_count, with_controls}
use Rattle.operands.specs.Operands.{operand_of}
use Rattle.interruptions.specs.declared.Done.{Done}
use Rattle.interruptions.specs.declared.Event.TheVariants as event
use Rattle.interruptions.specs.declared.Frames.{Frames}
use Rattle.interruptions.specs.After.{left_by, with_registers, Standing, Left}
use Rattle.interruptions.proofs.Leaving.{past_it}
use Rattle.pieces.specs.declared.Pieces.{Pieces}
use Rattle.execute.specs.Reaching.{Reaches}
use Rattle.execute.proofs.Reaching.{fetched_shut, fetched_open}

-- a wrapped address of the instruction's text
abbrev Addresses : Cpu → Text → ℕ → (Progress → ℕ) → Type 0
Addresses c text a place =
    ((k : Cpu) → k.psw ≡ c.psw → wrap k a ≡ a)
    × ((x : Progress) → x.cpu.psw ≡ c.psw → x.cpu.general ≡ c.general → x.text ≡ text → a ≡ place x)

-- the PSW past the instruction
abbrev Moves : Cpu → Text → Psw → Type 0
Moves c text psw = (k : Cpu) → k.psw ≡ c.psw → psw ≡ (advanced k text.ilc).psw

module _ (h : Host) (x : Progress) {g : Guest} {clock : ℕ} {c : Cpu} {text : Text} {t : Frames} (standing : Standing h x g clock c text t) where
  -- past the instruction, with what it loaded
  past_it_with : (k : Cpu) (d : Done) (psw : Psw) (loads : Cpu → Text → Cpu) → left_by c d ≡ with_psw k psw → Moves c text psw → k.psw ≡ c.psw
      → k ≡ loads c text → left_by c d ≡ next x (loads x.cpu x.text)
  past_it_with k d psw loads left moves same loaded =
      left ∙ past_it h x standing k psw (moves k same) ∙ ap (next x) loaded
      ∙ (λ i. next x (loads (sym standing.of_cpu i) (sym standing.of_text i)))

  module _ (d : Done) (psw : Psw) (bytes : List ℕ) where
    pub general_loaded : (value : ℕ) → left_by c d ≡ with_psw (with_general c (bits 16 8 11 text.first) value) psw → Moves c text psw
        → value ≡ word_at bytes 0 → left_by c d ≡ next x (with_general x.cpu (r1 x) (word_at bytes 0))
    unfolding with_general
    general_loaded value left moves same =
        past_it_with _ d psw (λ k u. with_general k (bits 16 8 11 u.first) (word_at bytes 0)) left moves refl
        (ap (with_general c (bits 16 8 11 text.first)) same)

    pub timer_loaded : (timer : ℕ) → left_by c d ≡ with_psw (with_timer c timer) psw → Moves c text psw → timer ≡ double_at bytes 0
        → left_by c d ≡ next x (with_timer x.cpu (double_at bytes 0))
    unfolding with_timer
    timer_loaded timer left moves same = past_it_with _ d psw (λ k u. with_timer k (double_at bytes 0)) left moves refl (ap (with_timer c) same)

    pub controls_loaded : (control : Registers) (n : ℕ) → left_by c d ≡ with_psw (with_registers c control) psw → Moves c text psw
        → with_registers c control ≡ with_controls c (bits 16 8 11 text.first) (words_at bytes 0 n) → n ≡ range_count x
        → left_by c d ≡ next x (with_controls x.cpu (r1 x) (words_at bytes 0 (range_count x)))
    controls_loaded control n left moves same as_many =
        past_it_with _ d psw (λ k u. with_controls k (bits 16 8 11 u.first) (words_at bytes 0 n)) left moves refl same
        ∙ ap (λ m. next x (with_controls x.cpu (r1 x) (words_at bytes 0 m))) as_many

    -- a PSW that is loaded is of the guest's architecture
    pub psw_loaded : left_by c d ≡ with_psw c psw → psw ≡ psw_of c.psw.system370 bytes 0
        → left_by c d ≡ with_psw x.cpu (psw_of x.cpu.psw.system370 bytes 0)
    psw_loaded left same =
        left ∙ ap (with_psw c) same ∙ ap (λ k. with_psw k (psw_of k.psw.system370 bytes 0)) (sym standing.of_cpu)

  at : {a : ℕ} {place : Progress → ℕ} → Addresses c text a place → a ≡ place x
  at addresses = addresses.1 x (ap (λ k. k.psw) standing.of_cpu) (ap (λ k. k.general) standing.of_cpu) standing.of_text

  module _ {a n m : ℕ} {place : Progress → ℕ} (addresses : Addresses c text a place) (some : 0 < n) (few : n ≤ 4096) (as_many : n ≡ m)
      (storage keys : List ℕ) (after : List ℕ → Cpu) (d : Done) where
    pub fetch_shut : Reaches h g x c t false n (Err d) storage keys (operand_of g h c false a n) → Left h g c (fetching x (place x) m after) d storage keys
    fetch_shut reaches =
        subst (λ b. Left h g c (fetching x b m after) d storage keys) (at addresses)
        (subst (λ m. Left h g c (fetching x a m after) d storage keys) as_many
        (fetched_shut h x standing a n (addresses.0 c refl) some few storage keys after d reaches))

    pub fetch_open : (o : Pieces) → Reaches h g x c t false n (Ok o) storage keys (operand_of g h c false a n) → d.event ≡ event.Completed
        → left_by c d ≡ after (take o.count (drop o.first storage) ++ take (n - o.count) (drop o.second storage))
        → Left h g c (fetching x (place x) m after) d storage keys
    fetch_open o reaches ended left =
        subst (λ b. Left h g c (fetching x b m after) d storage keys) (at addresses)
        (subst (λ m. Left h g c (fetching x a m after) d storage keys) as_many
        (fetched_open h x standing a n (addresses.0 c refl) some few storage keys after o reaches d ended left))
