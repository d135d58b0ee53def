-- An instruction whose text is fetched, by what its tests come to.
use Rattle.std.specs.Prelude.{ℕ, List, [], ◌∷◌, map}
use types.Run.{OneOf}
use Rattle.machine.specs.declared.Class.{Class}
use Rattle.machine.specs.declared.Class.TheVariants.{St, L, Lpsw, Stctl, Lctl, Stck, Spt, Stpt}
use Rattle.machine.specs.declared.Opcode.{Opcode}
use Rattle.machine.specs.Failures.{exception_of}
use Rattle.machine.specs.Opcodes.{code_of}
use Rattle.machine.specs.Outcomes.{Outcome, Progress}
use Rattle.machine.specs.Interruptions.{exception}
use Rattle.machine.specs.Execute.{intercept_instruction, execute}
use Rattle.dispatch.specs.declared.Tests.{Tests}
use Rattle.dispatch.specs.declared.Tests.TheVariants.{Excepted, Intercepted, Clear}

-- the classes of the instructions with an operand in storage
abbrev pub with_operand : List Class
with_operand = St ∷ L ∷ Lpsw ∷ Stctl ∷ Lctl ∷ Stck ∷ Spt ∷ Stpt ∷ []

abbrev pub WithOperand : Class → Type 0
WithOperand class = OneOf (map code_of with_operand) (code_of class)

abbrev pub after_tests : Progress → Opcode → Tests → Outcome
after_tests x o (Excepted code) = exception x x.cpu (exception_of code)
after_tests x o Intercepted = intercept_instruction x
after_tests x o Clear = execute o.class x

-- the code of the exception, and zero where there is none
abbrev pub exception_code : Tests → ℕ
exception_code (Excepted code) = code
exception_code Intercepted = 0
exception_code Clear = 0
