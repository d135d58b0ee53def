-- One unit on kept blocks that a lap does not do.
use Rattle.std.specs.Prelude.{ℕ, ◌≡◌, List}
use Rattle.machine.specs.declared.Cpu.{Cpu}
use Rattle.machine.specs.declared.Guest.{Guest}
use Rattle.machine.specs.declared.Psw.{Psw}
use Rattle.machine.specs.Psw.{instruction_address}
use Rattle.machine.specs.Host.{host, view}
use Rattle.machine.specs.Units.{started, instruction}
use Rattle.address.specs.Touching.{seen}
use Rattle.interruptions.specs.After.{Left}
use Rattle.guard.specs.Guarding.{Alike}
use Rattle.psws.specs.Psws.{state, Wrapped}
use Rattle.blocks.specs.Keeping.{Holds, Marks, Free}
use Rattle.steps.specs.Texting.{done_as}
use Rattle.area.specs.Keeping.{Area}
use Rattle.special.specs.declared.Done.{Done}
use Rattle.special.specs.Performing.{psw_in}

-- what a unit begins with beside guest, clock and storage: PSW, CPU timer, general registers and control registers
pub record Start : Type 0 where
  pub psw : Psw
  pub timer : ℕ
  pub words : List ℕ
  pub control : List ℕ

abbrev pub start : Psw → ℕ → List ℕ → List ℕ → Start
start psw timer words control = record { psw = psw; timer = timer; words = words; control = control }

-- a unit that is done, of this guest at this clock in this host: it is the definition's, with general registers and keys as they are
abbrev pub SinglesIn : ℕ → List ℕ → Guest → ℕ → Start → List ℕ → ℕ → List ℕ → Done → List ℕ → List ℕ → Type 0
SinglesIn designation keys g clock s kept area storage d control' storage' =
    (guard : List ℕ) → Wrapped s.psw (instruction_address (state s.psw)) → Marks keys kept → Free guard kept
    → Holds guard g (host designation storage keys) (seen s.psw (record { words = s.control })) kept → Area guard g (host designation storage keys) area
    → ((c : Cpu) → c.psw ≡ s.psw → c.timer ≡ s.timer → c.control.words ≡ s.control → c.general.words ≡ s.words
    → Left (host designation storage keys) g c (instruction (started g clock (view g (host designation storage keys)) c 1))
    (done_as (psw_in d s.psw) d.timer (record { words = control' })) storage' keys)
    × Alike guard storage storage'

-- whatever the host is
abbrev pub Singles : Guest → ℕ → Start → List ℕ → ℕ → List ℕ → Done → List ℕ → List ℕ → Type 0
Singles g clock s kept area storage d control' storage' =
    (designation : ℕ) (keys : List ℕ) → SinglesIn designation keys g clock s kept area storage d control' storage'
