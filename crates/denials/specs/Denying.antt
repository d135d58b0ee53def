-- A unit that ends with the exception of a denied access to its text or operand.
use Rattle.std.specs.Prelude.{ℕ, ◌≡◌, Bool, List, Err}
use Rattle.machine.specs.declared.Class.{Class}
use Rattle.machine.specs.declared.Failure.{Failure}
use Rattle.machine.specs.declared.Guest.{Guest}
use Rattle.machine.specs.declared.Opcode.{Opcode}
use Rattle.machine.specs.declared.Psw.{Psw}
use Rattle.machine.specs.declared.Registers.{Registers}
use Rattle.machine.specs.declared.Text.{Text}
use Rattle.machine.specs.Host.{Host, host, view}
use Rattle.machine.specs.Outcomes.{Progress}
use Rattle.machine.specs.Interruptions.{exception}
use Rattle.machine.specs.Execute.{execute}
use Rattle.machine.specs.Units.{decoded}
use Rattle.address.specs.Touching.{seen, touch_of}
use Rattle.special.specs.declared.Done.{Done}
use Rattle.special.specs.Singling.{start, SinglesIn}

-- where the access to this address is denied, the instruction of this class ends with its exception, whatever the host is
abbrev pub Reaching : Class → Psw → Registers → Text → Bool → ℕ → Type 0
Reaching class psw general text store a =
    (h : Host) (x : Progress) (f : Failure) → x.view ≡ view x.guest h → x.cpu.psw ≡ psw → x.cpu.general ≡ general → x.text ≡ text
    → touch_of x.guest h x.cpu store a ≡ Err f → execute class x ≡ exception x x.cpu f

-- so do its tests and itself, for this guest
abbrev pub Stopping : Opcode → Guest → Psw → Registers → Text → Bool → ℕ → Type 0
Stopping o guest psw general text store a =
    (h : Host) (x : Progress) (f : Failure) → x.guest ≡ guest → x.view ≡ view x.guest h → x.cpu.psw ≡ psw → x.cpu.general ≡ general → x.text ≡ text
    → touch_of x.guest h x.cpu store a ≡ Err f → decoded x o ≡ exception x x.cpu f

-- where the access to this address is denied, a unit that is done is the definition's, whatever host and control registers are
abbrev pub Denying : Guest → Psw → ℕ → List ℕ → List ℕ → ℕ → Bool → ℕ → Failure → List ℕ → Done → List ℕ → Type 0
Denying guest psw timer words kept area store a f storage d storage' =
    (clock designation : ℕ) (keys control : List ℕ) → touch_of guest (host designation storage keys) (seen psw (record { words = control })) store a ≡ Err f
    → SinglesIn designation keys guest clock (start psw timer words control) kept area storage d control storage'
