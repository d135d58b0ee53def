-- A PSW at another address and with another condition code: all that a unit in a lap changes of it.
use Rattle.std.specs.Prelude.{ℕ, ◌≡◌, []}
use Rattle.machine.specs.declared.Cpu.{Cpu}
use Rattle.machine.specs.declared.Psw.{Psw}
use Rattle.machine.specs.Psw.{wrap, with_address, with_condition_code}

-- some state with this PSW
abbrev pub state : Psw → Cpu
state p = record { psw = p; timer = 0; control = record { words = [] }; general = record { words = [] } }

-- the PSW at this address, cut to the addressing mode, and with this condition code
unfoldable pub psw_at : Psw → ℕ → ℕ → Psw
psw_at p a code = (with_condition_code (with_address (state p) a) code).psw

-- an address that the addressing mode does not cut
abbrev pub Wrapped : Psw → ℕ → Type 0
Wrapped p a = wrap (state p) a ≡ a
