-- How a run from a state in hand ends.
-- Assumes nothing.
use Prim.Native.Nat.{ℕ}
use mathlib.Core.Path.{◌≡◌, refl, sym, subst}
use mathlib.Core.List.{List}
use Rattle.machine.specs.declared.Cpu.{Cpu}
use Rattle.machine.specs.declared.End.{End}
use Rattle.machine.specs.declared.Guest.{Guest}
use Rattle.machine.specs.Run.{Ended as Run}
use Rattle.remaining.specs.Remaining.{machine_at}
use Rattle.run.specs.Running.{Ends}

-- the end of a run
pub ended_so : {e : Run} {g : Guest} {d : List ℕ} {why : End} {units : ℕ} {c : Cpu} {request residue clock : ℕ} {s k : List ℕ}
    → e ≡ record { end = why; units = units; machine = machine_at g d c request residue clock s k } → {end : End} → end ≡ why
    → Ends e g d (record { end = end; cpu = c; units = units; request = request; residue = residue }) s k
ended_so {g = g} {d = d} {units = units} {c = c} {request = request} {residue = residue} {s = s} {k = k} ended {end} same =
    subst (λ e. Ends e g d (record { end = end; cpu = c; units = units; request = request; residue = residue }) s k) (sym ended)
    (record { end = sym same; units = refl; description = refl; bytes = refl; marks = refl })
