-- What an interruption stores from a place on.
use Rattle.std.specs.Prelude.{ℕ, ◌+◌, ◌≤◌, List}
use Rattle.std.proofs.lemmas.List.Edits.{sets}
use Rattle.machine.specs.declared.Cpu.{Cpu}
use Rattle.machine.specs.Record.{psw_bytes}
use Rattle.machine.specs.Psw.{old_psw}
use Rattle.machine.specs.Interruptions.{fields_beside}
use Rattle.interruptions.specs.declared.Interruption.{Interruption}
use Rattle.interruptions.specs.After.{ilc_of, code_of, fields_of}

-- the areas stand in the prefix page: the old PSW, the new PSW and the code fields, in this order
abbrev pub InOrder : Interruption → Type 0
InOrder i = (i.old + 8 ≤ i.new) × (i.new + 8 ≤ i.code) × (i.code + 8 ≤ 4096)

-- storage with the areas of an interruption of a state, whose PSW becomes the old one
abbrev pub areas_stored : List ℕ → ℕ → Cpu → Interruption → List ℕ
areas_stored storage area c i =
    sets (sets storage (area + i.old) (psw_bytes (old_psw c (ilc_of i) (code_of i)))) (area + i.code) (fields_beside c (fields_of i))
