-- An instruction that stores, by what was reached of its operand.
-- Assumes nothing.
use Rattle.std.specs.Prelude.{Err, Ok}
use Prim.Native.Nat.{ℕ, ◌≤◌}
use mathlib.Core.Path.{◌≡◌, refl, subst, ◌∙◌}
use mathlib.Core.Bool.{true}
use mathlib.Core.List.{List}
use lib.ListN.{length, take, drop}
use lib.Seq.{sets}
use Rattle.machine.specs.declared.Cpu.{Cpu}
use Rattle.machine.specs.declared.Guest.{Guest}
use Rattle.machine.specs.declared.Psw.{Psw}
use Rattle.machine.specs.declared.Text.{Text}
use Rattle.machine.specs.Psw.{wrap, with_psw, advanced, with_condition_code}
use Rattle.machine.specs.Host.{Host}
use Rattle.machine.specs.Outcomes.{Outcome, Progress}
use Rattle.machine.specs.Execute.{next, storing}
use Rattle.operands.specs.Operands.{operand_of}
use Rattle.interruptions.specs.declared.Done.{Done}
use Rattle.interruptions.specs.declared.Event.TheVariants as event
use Rattle.interruptions.specs.declared.Frames.{Frames}
use Rattle.interruptions.specs.After.{left_by, Standing, Left}
use Rattle.interruptions.proofs.Leaving.{past_it}
use Rattle.pieces.specs.declared.Pieces.{Pieces}
use Rattle.execute.specs.Reaching.{Reaches, Does}
use Rattle.execute.proofs.Reaching.{progress_of, at_standing, stored_shut, stored_open}

-- the code does what an outcome says where it does so for the units in progress that are made of what it holds
pub does : (o : Progress → Outcome) (h : Host) {g : Guest} {clock : ℕ} {c : Cpu} {text : Text} {t : Frames} {d : Done} {storage keys : List ℕ}
    → ((fetched : List ℕ) → Standing h (progress_of h g clock c text fetched) g clock c text t → Left h g c (o (progress_of h g clock c text fetched)) d storage keys)
    → Does o h g clock c text t d storage keys
does o h {g} {clock} {c} {text} {t} {d} {storage} {keys} left x standing =
    at_standing (λ x. Left h g c (o x) d storage keys) h x standing
    (left x.fetched (record { of_guest = refl; of_clock = refl; of_view = refl; of_cpu = refl; of_text = refl; marks = standing.marks }))

-- a PSW put over another condition code is the PSW alone
pub over_code : (c : Cpu) (code : ℕ) (psw : Psw) → with_psw c psw ≡ with_psw (with_condition_code c code) psw
unfolding with_psw with_condition_code
over_code c code psw = refl

-- n bytes stored at an address; the instruction's own address and bytes are equal to these
module _ (h : Host) (x : Progress) {g : Guest} {clock : ℕ} {c : Cpu} {text : Text} {t : Frames} (standing : Standing h x g clock c text t)
    (a n : ℕ) (fits : (wrap c a ≡ a) × (1 ≤ n) × (n ≤ 4096)) (storage keys : List ℕ) (bytes : List ℕ) (long : length bytes ≡ n)
    {place : ℕ} {stored : List ℕ} (at : a ≡ place) (same : bytes ≡ stored) (k : Cpu) (d : Done) where
  pub storing_none : Reaches h g x c t true n (Err d) storage keys (operand_of g h c true a n) → Left h g c (storing x place stored (next x k)) d storage keys
  storing_none reaches =
      subst (λ o. Left h g c o d storage keys) (λ i. storing x (at i) (same i) (next x k))
      (stored_shut h x standing a n fits.0 fits.1 fits.2 storage keys bytes (next x k) long d reaches)

  pub storing_all : (o : Pieces) → Reaches h g x c t true n (Ok o) storage keys (operand_of g h c true a n)
      → {final : List ℕ} (psw : Psw) → d.event ≡ event.Completed → left_by c d ≡ with_psw c psw
      → with_psw c psw ≡ with_psw k psw → psw ≡ (advanced k text.ilc).psw
      → final ≡ sets (sets storage o.first (take o.count bytes)) o.second (drop o.count bytes)
      → Left h g c (storing x place stored (next x k)) d final keys
  storing_all o reaches {final} psw ended left over moved stores =
      subst (λ o. Left h g c o d final keys) (λ i. storing x (at i) (same i) (next x k))
      (stored_open h x standing a n fits.0 fits.1 fits.2 storage keys bytes (next x k) long d o reaches ended
      (left ∙ over ∙ past_it h x standing k psw moved) stores)
