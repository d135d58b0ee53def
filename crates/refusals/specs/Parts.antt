-- Parts that machine's verdicts are made of: refusals 1 and 2, and 7; and how parts are put together.
use Rattle.std.specs.Prelude.{ℕ, List, Err, Ok}
use Rattle.machine.specs.declared.Refusal.TheVariants.{WrongLength, WrongVersion, ReservedUsed}
use Rattle.machine.specs.Refusals.{refuse, wrong_length, wrong_version, used, wrong_interval, reserved_used, Verdict, no_refusal}

-- the first of two verdicts that refuses
unfoldable pub first_refusal : Verdict → Verdict → Verdict
first_refusal (Ok _) later = later
first_refusal (Err number) later = Err number

unfoldable pub head_verdict : List ℕ → Verdict
head_verdict r = refuse WrongLength (wrong_length r) (refuse WrongVersion (wrong_version r) no_refusal)

-- of refusal 7: the bytes that every record has
unfoldable pub bytes_verdict : List ℕ → Verdict
bytes_verdict r = refuse ReservedUsed (used r 66 6) no_refusal

unfoldable pub reserved_verdict : List ℕ → Verdict
reserved_verdict r = refuse ReservedUsed (reserved_used r) no_refusal

-- of refusal 7: the interval timer's fields
unfoldable pub interval_verdict : List ℕ → Verdict
interval_verdict r = refuse ReservedUsed (wrong_interval r) no_refusal
