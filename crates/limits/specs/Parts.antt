-- Parts that machine's verdicts are made of: refusals 3 and 4, 5 and 6, and 8.
use Rattle.std.specs.Prelude.{ℕ, List}
use Rattle.machine.specs.declared.Refusal.TheVariants.{WrongStorage, WrongKeys, WrongBudget, WrongTime, WrongAccess}
use Rattle.machine.specs.declared.Numbers.{Numbers}
use Rattle.machine.specs.Refusals.{refuse, wrong_storage, wrong_keys, wrong_budget, wrong_time, wrong_access, Verdict, no_refusal}

unfoldable pub storage_verdict : List ℕ → List ℕ → Verdict
storage_verdict storage keys = refuse WrongStorage (wrong_storage storage) (refuse WrongKeys (wrong_keys storage keys) no_refusal)

unfoldable pub numbers_verdict : Numbers → Verdict
numbers_verdict n = refuse WrongBudget (wrong_budget n) (refuse WrongTime (wrong_time n) no_refusal)

unfoldable pub access_verdict : ℕ → Verdict
access_verdict kind = refuse WrongAccess (wrong_access kind) no_refusal
