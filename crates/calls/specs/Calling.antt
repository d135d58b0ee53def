-- Interruptions on the kept place of the prefix page, by numbers.
use Rattle.std.specs.Prelude.{ℕ, ◌%◌, ◌≡◌, false, ◌&&◌, List, eqb, length}
use Rattle.machine.specs.declared.Cpu.{Cpu}
use Rattle.machine.specs.declared.Guest.{Guest}
use Rattle.machine.specs.declared.Psw.{Psw}
use Rattle.machine.specs.declared.Text.{Text}
use Rattle.machine.specs.Words.{bit}
use Rattle.machine.specs.Failures.{operation}
use Rattle.machine.specs.Host.{Host}
use Rattle.machine.specs.Outcomes.{Outcome, Progress}
use Rattle.interruptions.specs.declared.Frames.{Frames}
use Rattle.interruptions.specs.After.{mark_text, Standing, Left}
use Rattle.guard.specs.Guarding.{Alike}
use Rattle.steps.specs.Texting.{done_as}
use Rattle.area.specs.Keeping.{Placed, Area}

-- a unit in progress whose text is fetched and marked, with the prefix page kept
pub record Stands (area : ℕ) (psw : Psw) (storage guard : List ℕ) (h : Host) (g : Guest) (x : Progress) (clock : ℕ) (c : Cpu) (text : Text) (t : Frames) : Type 0 where
  pub standing : Standing h x g clock c text t
  pub marked : h.keys ≡ mark_text t h.keys
  pub bytes : h.storage ≡ storage
  pub of_psw : c.psw ≡ psw
  pub sixteen : length c.general.words ≡ 16
  pub kept : Area guard g h area
  pub placed : Placed area

-- the outcome leaves this PSW and this storage, whatever guest and host are
abbrev pub Interrupts : ℕ → Psw → (Guest → Text → Type 0) → (Progress → Outcome) → List ℕ → Psw → List ℕ → Type 0
Interrupts area psw when outcome storage psw' storage' =
    (guard : List ℕ) (h : Host) (g : Guest) (x : Progress) (clock : ℕ) (c : Cpu) (text : Text) (t : Frames)
    → Stands area psw storage guard h g x clock c text t → when g text
    → Left h g c (outcome x) (done_as psw' c.timer c.control) storage' h.keys × Alike guard storage storage'

-- SVC with this number
abbrev pub Calling : ℕ → Guest → Text → Type 0
Calling number g text = (text.ilc ≡ 1) × (text.first % 256 ≡ number)

-- the guest's controls ask for no interception of an exception with this code, met by a text with this ILC
abbrev pub Excepting : ℕ → ℕ → Guest → Text → Type 0
Excepting ilc code g text =
    (text.ilc ≡ ilc) × ((eqb code operation && bit 8 0 g.interceptions) ≡ false) × (bit 8 1 g.interceptions ≡ false)
