-- `case::run_case` meets its contract.
use mathlib.Core.Path.{sym, ◌∙◌}
use Rattle.packing.specs.Packing.{packed_answer}
use Rattle.cases.proofs.CaseFiles.{malformed-answer}
use Rattle.case.proofs.run_case.Goals as goal

pub returns-in-None : goal.returns-in-None
unfolding packed_answer
returns-in-None c = rw (malformed-answer _ (sym c.parse.ensures ∙ c.in-None.is)) c.pack_refusal.ensures
