-- The line that a case prints, in ASCII. Document 01, "Case file and worked examples".
use Rattle.std.specs.Prelude.{ℕ, zero, suc, ◌+◌, ◌/◌, ◌%◌, ◌^◌, cond, List, [], ◌∷◌, ◌++◌, eqb, ltb, Err, Ok}
use Rattle.machine.specs.declared.End.{End}
use Rattle.machine.specs.declared.End.TheVariants.{Intercepted, HostFault, BudgetUsed}
use Rattle.machine.specs.Answers.{refusal_number, end_number}
use Rattle.packing.specs.Packing.{intercepted_kind, host_fault_kind, budget_kind}
use Rattle.machine.specs.Refusals.{RunAnswer}

abbrev pub newline : ℕ
newline = 10

abbrev pub space : ℕ
space = 32

abbrev pub letter_b : ℕ
letter_b = 66

abbrev pub letter_h : ℕ
letter_h = 72

abbrev pub letter_i : ℕ
letter_i = 73

abbrev pub letter_r : ℕ
letter_r = 82

-- a digit below 10
abbrev pub digit : ℕ → ℕ
digit d = 48 + d

-- a number of at most so many decimal digits, with no zeros in front
unfoldable pub decimal_in : ℕ → ℕ → List ℕ
decimal_in zero n = []
decimal_in (suc places) n = cond (ltb n 10) (digit n ∷ []) (decimal_in places (n / 10) ++ digit (n % 10) ∷ [])

-- a number below 10 ^ 20, as every number of 64 bits is
abbrev pub decimal : ℕ → List ℕ
decimal n = decimal_in 20 n

-- room for every line
abbrev pub line_bytes : ℕ
line_bytes = 64

-- R prints the number only
abbrev pub refusal_line : ℕ → List ℕ
refusal_line number = letter_r ∷ space ∷ decimal number ++ newline ∷ []

-- kind letter, number, units
abbrev pub end_line : ℕ → ℕ → ℕ → List ℕ
end_line letter number units = letter ∷ space ∷ decimal number ++ space ∷ decimal units ++ newline ∷ []

-- the line of an answer

unfoldable pub end_letter : End → ℕ
end_letter (Intercepted r) = letter_i
end_letter (HostFault f) = letter_h
end_letter BudgetUsed = letter_b

unfoldable pub line_of : RunAnswer → List ℕ
line_of (Err refusal) = refusal_line (refusal_number refusal)
line_of (Ok stopped) = end_line (end_letter stopped.end) (end_number stopped.end) stopped.units

-- the line of a packed answer of run, by its kind, its number and its units

unfoldable pub kind_line : ℕ → ℕ → ℕ → List ℕ
kind_line kind number units =
    cond (eqb kind intercepted_kind) (end_line letter_i number units)
    (cond (eqb kind host_fault_kind) (end_line letter_h number units) (cond (eqb kind budget_kind) (end_line letter_b number units) (refusal_line number)))

unfoldable pub packed_line : ℕ → List ℕ
packed_line x = kind_line (x / 2 ^ 56) (x / 2 ^ 48 % 256) (x % 2 ^ 32)
