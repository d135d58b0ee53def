-- An instruction with an operand, by what was reached of it.
-- Assumes nothing.
use Rattle.std.specs.Prelude.{Err, Ok}
use Prim.Native.Nat.{ℕ, ◌-◌, ◌≤◌, ◌<◌}
use native.Mathlib.Omega.{arith}
use mathlib.Core.Path.{◌≡◌, refl, ap, sym, subst, ◌∙◌}
use mathlib.Core.Bool.{Bool, true, false, cond}
use mathlib.Core.List.{List, [], ◌++◌}
use lib.ListN.{length, take, drop}
use lib.Seq.{sets}
use Rattle.machine.specs.declared.Cpu.{Cpu}
use Rattle.machine.specs.declared.Failure.{Failure}
use Rattle.machine.specs.declared.Guest.{Guest}
use Rattle.machine.specs.declared.Text.{Text}
use Rattle.machine.specs.Refusals.{frames_of}
use Rattle.machine.specs.Psw.{wrap}
use Rattle.machine.specs.Host.{Host, host, view, referenced, changed}
use Rattle.machine.specs.Outcomes.{Progress}
use Rattle.machine.specs.Interruptions.{exception}
use Rattle.machine.specs.Execute.{finish, fetching, storing}
use Rattle.laws.proofs.PageBytes.{wrap_by_mode}
use Rattle.marks.specs.Marks.{mark_operand}
use Rattle.operands.specs.Operands.{operand_of, Operand}
use Rattle.operands.proofs.Operands.{operand_open}
use Rattle.operands.proofs.Reached.{operand_code, operand_keys}
use Rattle.interruptions.specs.declared.Done.{Done}
use Rattle.interruptions.specs.declared.Event.TheVariants as event
use Rattle.interruptions.specs.declared.Frames.{Frames}
use Rattle.interruptions.specs.After.{left_by, mark_text, Standing, Left}
use Rattle.interruptions.proofs.Leaving.{left_completed}
use Rattle.pieces.specs.declared.Pieces.{Pieces}
use Rattle.execute.specs.Reaching.{InReach, Reached, Reaches}
use Rattle.execute.proofs.Operations.{fetching_shut, fetching_open, storing_shut, storing_open, finish_completes}

-- a wrapped address has 31 bits
pub small_of_wrap : (c : Cpu) (a : ℕ) → wrap c a ≡ a → a < 2147483648
small_of_wrap c a wrapped = wrap_by_mode (λ w. w a ≡ a → a < 2147483648) c (λ e. omega arith) (λ e. omega arith) wrapped

pub not_both : {R : Type 0} {b : Bool} → b ≡ true → b ≡ false → R
not_both shut found = let z : ◌≡◌ {A = ℕ} 0 1 = ap (λ b. cond b 0 1) (sym shut ∙ found) in absurd (omega arith)

-- an operand that is found is in reach
pub in_reach : (g : Guest) (d : ℕ) (s k : List ℕ) (c : Cpu) (store : Bool) (a n : ℕ) → wrap c a ≡ a → 0 < n → n ≤ 4096 → frames_of s ≤ length k
    → InReach s k n (operand_of g (host d s k) c store a n)
in_reach g d s k c store a n wrapped some few each = by_operand (operand_of g (host d s k) c store a n) refl
  where
    by_operand : (o : Operand) → operand_of g (host d s k) c store a n ≡ o → InReach s k n o
    by_operand (Err f) e = operand_code g (host d s k) c store a n e
    by_operand (Ok at) e =
        let (ls, reached, opened) = operand_open g (host d s k) c store a n wrapped some few e in
        let (first, second) = operand_keys g d s k c store a n each e in
        (opened.few, opened.first, opened.second, first, second)

-- an operand that is shut ends the unit with its exception
pub reaches_shut : (h : Host) (g : Guest) (x : Progress) (c : Cpu) (t : Frames) (store : Bool) (n : ℕ) (r : Reached) {storage keys : List ℕ} {o : Operand} (f : Failure) (k : Cpu) (d : Done)
    → o ≡ Err f → r ≡ Err d → k ≡ c → Left h g c (exception x k f) d storage keys → Reaches h g x c t store n r storage keys o
reaches_shut h g x c t store n r {storage} {keys} {o} f k d found shut same left =
    subst (λ r. Reaches h g x c t store n r storage keys o) (sym shut) (f, found, subst (λ k. Left h g c (exception x k f) d storage keys) same left)

-- the unit in progress that stands so, but for what is fetched
abbrev pub progress_of : Host → Guest → ℕ → Cpu → Text → List ℕ → Progress
progress_of h g clock c text fetched = record { guest = g; clock = clock; view = view g h; cpu = c; text = text; fetched = fetched }

pub at_standing : (P : Progress → Type 0) (h : Host) (x : Progress) {g : Guest} {clock : ℕ} {c : Cpu} {text : Text} {t : Frames} → Standing h x g clock c text t
    → P (progress_of h g clock c text x.fetched) → P x
at_standing P h x standing p =
    subst P (λ i. record {
      guest = sym standing.of_guest i;
      clock = sym standing.of_clock i;
      view = sym standing.of_view i;
      cpu = sym standing.of_cpu i;
      text = sym standing.of_text i;
      fetched = x.fetched;
    }) p

module _ (h : Host) (x : Progress) {g : Guest} {clock : ℕ} {c : Cpu} {text : Text} {t : Frames} (standing : Standing h x g clock c text t) where
  -- an instruction that ends with no operand
  pub left_finished : (to : Cpu) (d : Done) {keys : List ℕ} → d.event ≡ event.Completed → left_by c d ≡ to → keys ≡ mark_text t h.keys
      → Left h g c (finish x to [] []) d h.storage keys
  left_finished to d {keys} ended left marks =
      at_standing (λ x. Left h g c (finish x to [] []) d h.storage keys) h x standing
      (left_completed h g c _ d (finish_completes h (progress_of h g clock c text x.fetched) to) ended left refl
      (marks ∙ sym (standing.marks h.keys)))

  abbrev y : Progress
  y = progress_of h g clock c text x.fetched

  module _ (a n : ℕ) (wrapped : wrap c a ≡ a) (some : 0 < n) (few : n ≤ 4096) (storage keys : List ℕ) where
    pub fetched_shut : (after : List ℕ → Cpu) (d : Done) → Reaches h g x c t false n (Err d) storage keys (operand_of g h c false a n)
        → Left h g c (fetching x a n after) d storage keys
    fetched_shut after d =
        at_standing (λ x. Reaches h g x c t false n (Err d) storage keys (operand_of g h c false a n) → Left h g c (fetching x a n after) d storage keys)
        h x standing
        (λ (f, e, left). subst (λ o. Left h g c o d storage keys) (sym (fetching_shut h y refl a n wrapped some few f after e)) left)

    pub fetched_open : (after : List ℕ → Cpu) (at : Pieces) → Reaches h g x c t false n (Ok at) storage keys (operand_of g h c false a n)
        → (d : Done) → d.event ≡ event.Completed
        → left_by c d ≡ after (take at.count (drop at.first storage) ++ take (n - at.count) (drop at.second storage))
        → Left h g c (fetching x a n after) d storage keys
    fetched_open after at =
        at_standing (λ x. Reaches h g x c t false n (Ok at) storage keys (operand_of g h c false a n) → (d : Done) → d.event ≡ event.Completed
        → left_by c d ≡ after (take at.count (drop at.first storage) ++ take (n - at.count) (drop at.second storage)) → Left h g c (fetching x a n after) d storage keys)
        h x standing
        (λ (e, bytes, marks) d ended left.
        left_completed h g c _ d (fetching_open h y refl a n wrapped some few at.first at.count at.second after e) ended
        (left ∙ ap (λ s. after (take at.count (drop at.first s) ++ take (n - at.count) (drop at.second s))) bytes)
        bytes
        (marks ∙ ap (mark_operand referenced n at.first at.count at.second) (sym (standing.marks h.keys))))

    module _ (bytes : List ℕ) (to : Cpu) (long : length bytes ≡ n) (d : Done) where
      pub stored_shut : Reaches h g x c t true n (Err d) storage keys (operand_of g h c true a n) → Left h g c (storing x a bytes to) d storage keys
      stored_shut =
          at_standing (λ x. Reaches h g x c t true n (Err d) storage keys (operand_of g h c true a n) → Left h g c (storing x a bytes to) d storage keys)
          h x standing
          (λ (f, e, left). subst (λ o. Left h g c o d storage keys) (sym (storing_shut h y refl a n wrapped some few f bytes to long e)) left)

      pub stored_open : (at : Pieces) → Reaches h g x c t true n (Ok at) storage keys (operand_of g h c true a n)
          → {final : List ℕ} → d.event ≡ event.Completed → left_by c d ≡ to
          → final ≡ sets (sets storage at.first (take at.count bytes)) at.second (drop at.count bytes)
          → Left h g c (storing x a bytes to) d final keys
      stored_open at reaches {final} =
          at_standing (λ x. Reaches h g x c t true n (Ok at) storage keys (operand_of g h c true a n) → d.event ≡ event.Completed → left_by c d ≡ to
          → final ≡ sets (sets storage at.first (take at.count bytes)) at.second (drop at.count bytes) → Left h g c (storing x a bytes to) d final keys)
          h x standing
          (λ (e, same, marks) ended left stores.
          left_completed h g c _ d (storing_open h y refl a n wrapped some few at.first at.count at.second bytes to long e) ended left
          (stores ∙ ap (λ s. sets (sets s at.first (take at.count bytes)) at.second (drop at.count bytes)) same)
          (marks ∙ ap (λ k. mark_operand changed n at.first at.count at.second (mark_operand referenced n at.first at.count at.second k)) (sym (standing.marks h.keys))))
          reaches
