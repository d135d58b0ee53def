-- The state in hand between the units of a run, and a streak behind it.
-- Assumes nothing.
use Prim.Native.Nat.{ℕ, ◌+◌, ◌-◌, ◌<◌}
use mathlib.Core.Path.{◌≡◌, ap, sym, subst, ◌∙◌}
use mathlib.Core.Bool.{Bool, ◌&&◌}
use mathlib.Core.List.{List}
use Rattle.machine.specs.declared.Cpu.{Cpu}
use Rattle.machine.specs.declared.Guest.{Guest}
use Rattle.machine.specs.declared.Numbers.{Numbers}
use Rattle.machine.specs.Record.{system370_mode, Bounded}
use Rattle.machine.specs.Interval.{active, period, pending}
use Rattle.charging.specs.Ending.{of_mode}
use Rattle.charging.proofs.States.{of_mode_lem}
use Rattle.remaining.specs.Remaining.{machine_at, OfGuest, Remains}
use Rattle.remaining.proofs.Remaining.{units_more}
use Rattle.streaks.specs.declared.Streak.{Streak}
use Rattle.streaks.specs.Streaking.{after_streak, Paced}

pub record Stands (designation : ℕ) (g : Guest) (clock time budget : ℕ) (start : Cpu) (request residue : ℕ) (storage₀ keys₀ : List ℕ)
    (c : Cpu) (asked rest now units : ℕ) (storage keys : List ℕ) : Type 0 where
  pub bounded : Bounded c
  pub kind : c.psw.system370 ≡ system370_mode g.mode
  pub small : rest < period
  pub remains : (n : Numbers) (d : List ℕ) → n.designation ≡ designation → n.time ≡ time → OfGuest g d
      → Remains n budget (machine_at g d start request residue clock storage₀ keys₀) units (machine_at g d c asked rest now storage keys)

pub streak_on : {designation : ℕ} {g : Guest} {clock time budget : ℕ} {start : Cpu} {request residue : ℕ} {storage₀ keys₀ : List ℕ}
    {c : Cpu} {asked rest now units : ℕ} {storage keys : List ℕ} → Stands designation g clock time budget start request residue storage₀ keys₀ c asked rest now units storage keys
    → (requested : Bool) → requested ≡ (active g && pending asked) → (r : Streak) (storage' : List ℕ) → Paced designation g now time (budget - units) c requested rest storage keys r storage'
    → (after : Cpu) → after ≡ of_mode c.psw.system370 (after_streak r)
    → Stands designation g clock time budget start request residue storage₀ keys₀ after asked r.residue r.clock (units + r.units) storage' keys
streak_on {g = g} {clock = clock} {budget = budget} {start = start} {request = request} {residue = residue} {storage₀ = storage₀} {keys₀ = keys₀} {c = c} {asked = asked} {rest = rest} {now = now}
    {units = units} {storage = storage} {keys = keys} stands requested told r storage' paced after is = record {
      bounded = subst Bounded (sym same) paced.bounded;
      kind = ap (λ k. k.psw.system370) is ∙ stands.kind;
      small = paced.small;
      remains = λ n d designated timed of.
          subst (λ k. Remains n budget (machine_at g d start request residue clock storage₀ keys₀) (units + r.units) (machine_at g d k asked r.residue r.clock storage' keys)) (sym same)
          (units_more n budget (machine_at g d start request residue clock storage₀ keys₀) (machine_at g d c asked rest now storage keys)
          (machine_at g d (after_streak r) asked r.residue r.clock storage' keys) units r.units (stands.remains n d designated timed of)
          (paced.remains n d asked designated timed of told));
    }
  where
    same : after ≡ after_streak r
    same = is ∙ of_mode_lem c.psw.system370 (after_streak r) paced.architecture
