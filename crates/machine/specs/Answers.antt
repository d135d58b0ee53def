-- Document 01's numbers and values for each case of the answers, and bytes 52-65 of the record for each end of a run.
use Rattle.std.specs.Prelude.{ℕ, List, ◌∷◌, ◌++◌, Ok}
use Rattle.machine.specs.declared.Refusal.TheVariants.{WrongLength, WrongVersion, WrongStorage, WrongKeys, WrongBudget, WrongTime, ReservedUsed, WrongAccess, Malformed, OutOfReach, AlreadyValid, NotValid, FrameOutside, Entangled, ShortWorkspace, WrongRange}
use Rattle.machine.specs.declared.End.{End}
use Rattle.machine.specs.declared.End.TheVariants.{Intercepted, HostFault, BudgetUsed}
use Rattle.machine.specs.declared.Reason.{Reason}
use Rattle.machine.specs.declared.Reason.TheVariants.{Instruction, Program, ExternalRequest, External, IoRequest, Wait, Validity, Stop, Operation}
use Rattle.machine.specs.declared.Refusal.{Refusal}
use Rattle.machine.specs.declared.Stage.{Stage}
use Rattle.machine.specs.declared.Stage.TheVariants.{None, GuestSegment, GuestPage, HostSegment, HostPage}
use Rattle.machine.specs.declared.Text.{Text}
use Rattle.machine.specs.Words.{half_bytes, word_bytes}
use Rattle.machine.specs.Refusals.{RunAnswer}

-- the number of a refusal
unfoldable pub refusal_number : Refusal → ℕ
refusal_number WrongLength = 1
refusal_number WrongVersion = 2
refusal_number WrongStorage = 3
refusal_number WrongKeys = 4
refusal_number WrongBudget = 5
refusal_number WrongTime = 6
refusal_number ReservedUsed = 7
refusal_number WrongAccess = 8
refusal_number Malformed = 9
refusal_number OutOfReach = 10
refusal_number AlreadyValid = 11
refusal_number NotValid = 12
refusal_number FrameOutside = 13
refusal_number Entangled = 14
refusal_number ShortWorkspace = 15
refusal_number WrongRange = 16

-- the answer of a run that is not refused
abbrev pub run_answer : End → ℕ → RunAnswer
run_answer end units = Ok (record { end = end; units = units })

-- the interception code
unfoldable pub reason_code : Reason → ℕ
reason_code (Instruction t) = 4
reason_code (Program code ilc address) = 8
reason_code ExternalRequest = 16
reason_code (External code) = 20
reason_code IoRequest = 24
reason_code Wait = 28
reason_code Validity = 32
reason_code Stop = 40
reason_code (Operation t) = 44

-- the number of an end: interception code, program code of a host fault, 0 for a budget end
unfoldable pub end_number : End → ℕ
end_number (Intercepted r) = reason_code r
end_number (HostFault f) = f.code
end_number BudgetUsed = 0

-- the host virtual address of a host fault, else 0
unfoldable pub end_address : End → ℕ
end_address (Intercepted r) = 0
end_address (HostFault f) = f.address
end_address BudgetUsed = 0

-- the number of a stage (request 2/12)
unfoldable pub stage_number : Stage → ℕ
stage_number None = 0
stage_number GuestSegment = 1
stage_number GuestPage = 2
stage_number HostSegment = 3
stage_number HostPage = 4

abbrev pub no_text : Text
no_text = record { ilc = 0; first = 0; second = 0; third = 0 }

-- bytes 52-65: interception code, ILC, interruption code, address, instruction text padded with zeros
unfoldable pub results : ℕ → ℕ → ℕ → Text → List ℕ
results code interruption address t =
    code ∷ t.ilc ∷ half_bytes interruption ++ word_bytes address ++ half_bytes t.first ++ half_bytes t.second ++ half_bytes t.third

-- the results of an interception, its code given; byte 53 and bytes 60-65 take from the text
unfoldable pub results_with : ℕ → Reason → List ℕ
results_with code (Instruction t) = results code 0 0 t
results_with code (Program interruption ilc address) = results code interruption address (record { ilc = ilc; first = 0; second = 0; third = 0 })
results_with code ExternalRequest = results code 0 0 no_text
results_with code (External interruption) = results code interruption 0 no_text
results_with code IoRequest = results code 0 0 no_text
results_with code Wait = results code 0 0 no_text
results_with code Validity = results code 0 0 no_text
results_with code Stop = results code 0 0 no_text
results_with code (Operation t) = results code 0 0 t

unfoldable pub reason_results : Reason → List ℕ
reason_results r = results_with (reason_code r) r

-- a host fault and a budget end leave all fourteen zero
unfoldable pub end_results : End → List ℕ
end_results (Intercepted r) = reason_results r
end_results (HostFault f) = results 0 0 0 no_text
end_results BudgetUsed = results 0 0 0 no_text
