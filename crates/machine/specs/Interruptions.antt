-- Document 01, "Instructions", from "Operation exception with control bit 0": program exceptions and guest interruptions.
-- Request 1/12: the form of the old PSW decides where code and ILC are stored.
use Rattle.std.specs.Prelude.{ℕ, ◌*◌, Bool, cond, ◌&&◌, ◌||◌, List, [], ◌∷◌, ◌++◌, map, eqb, length}
use Rattle.machine.specs.declared.Cpu.{Cpu}
use Rattle.machine.specs.declared.Failure.{Failure}
use Rattle.machine.specs.declared.Reason.TheVariants.{Program, Operation}
use Rattle.machine.specs.Words.{bit, half_bytes, word_bytes}
use Rattle.machine.specs.Record.{psw_of, psw_bytes}
use Rattle.machine.specs.Psw.{basic_control, with_psw, advanced, old_psw}
use Rattle.machine.specs.Failures.{operation, is_translation}
use Rattle.machine.specs.Host.{Located, places}
use Rattle.machine.specs.Addresses.{real_access, accesses, up_from, when_reached}
use Rattle.machine.specs.Outcomes.{Outcome, completed, intercepted, faulted, Progress}

-- bytes to be stored, at the places that were reached for them
unfoldable pub with_bytes : List Located → List ℕ → List Located
with_bytes [] bytes = []
with_bytes (l ∷ ls) [] = []
with_bytes (l ∷ ls) (b ∷ bytes) = record { absolute = l.absolute; byte = b } ∷ with_bytes ls bytes

abbrev pub bytes_of : List Located → List ℕ
bytes_of = map (λ l. l.byte)

-- The areas of an interruption class: real addresses of the old PSW, of the code fields and of the new PSW.
pub record Areas : Type 0 where
  pub old : ℕ
  pub code : ℕ
  pub new : ℕ

abbrev pub program_areas : Areas
program_areas = record { old = 40; code = 140; new = 104 }

abbrev pub supervisor_call_areas : Areas
supervisor_call_areas = record { old = 32; code = 136; new = 96 }

-- the code fields: a zero byte, the ILC as bits 5-6 of the next, the code
abbrev pub code_fields : ℕ → ℕ → List ℕ
code_fields ilc code = 0 ∷ ilc * 2 ∷ half_bytes code

-- no code fields are stored beside an old PSW that is BC: it has code and ILC itself
unfoldable pub fields_beside : Cpu → List ℕ → List ℕ
fields_beside c fields = cond (basic_control c) [] fields

-- An interruption, with `c` the state whose PSW becomes the old one, and with the code fields that are stored beside that. The old PSW's
-- bytes are accessed first, then the code fields,
-- then the new PSW is fetched; no store happens until every access is known good. The prefix page lies below the extent, so an
-- access that fails is a host fault.
unfoldable pub interrupt : Progress → Cpu → Areas → ℕ → List ℕ → Outcome
interrupt x c areas code fields =
    when_reached
    (accesses (real_access x.guest x.view Bool.true) (up_from areas.old 8 ++ up_from areas.code (length fields)))
    faulted
    λ stores.
    when_reached (accesses (real_access x.guest x.view Bool.false) (up_from areas.new 8)) faulted
    λ fetched.
    completed (with_psw c (psw_of c.psw.system370 (bytes_of fetched) 0))
    (record { fetched = x.fetched ++ places fetched; stores = with_bytes stores (psw_bytes (old_psw c x.text.ilc code) ++ fields) })

-- segment and page exceptions leave the address at the instruction; others advance it, except ILC 0
unfoldable pub after_exception : Progress → Cpu → Failure → Cpu
after_exception x c f = cond (is_translation f.code || eqb x.text.ilc 0) c (advanced c x.text.ilc)

-- the same address as in code 8, for 10 and 11 hex only
unfoldable pub program_fields : Progress → Failure → List ℕ
program_fields x f = code_fields x.text.ilc f.code ++ cond (is_translation f.code) (word_bytes f.address) []

-- A program exception or a host fault, met with the state `c`: operation exception with control bit 0, code 44; every one
-- not answered so with bit 1, code 8; otherwise the guest is interrupted.
unfoldable pub exception : Progress → Cpu → Failure → Outcome
exception x c f =
    cond f.host (faulted f)
    (cond (eqb f.code operation && bit 8 0 x.guest.interceptions) (intercepted (Operation x.text) (after_exception x c f))
    (cond (bit 8 1 x.guest.interceptions) (intercepted (Program f.code x.text.ilc f.address) (after_exception x c f))
    (interrupt x (after_exception x c f) program_areas f.code (fields_beside (after_exception x c f) (program_fields x f)))))
