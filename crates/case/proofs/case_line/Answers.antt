-- `case::case_line` meets its contract.
use mathlib.Core.Path.{ap, ◌∙◌}
use Rattle.lines.specs.Line.{packed_line}
use Rattle.cases.proofs.Answers.{line_of_case}
use Rattle.case.proofs.case_line.Goals as goal

pub returns : goal.returns
returns c = c.packed_line.ensures ∙ ap packed_line c.run_case.ensures ∙ line_of_case _ _
