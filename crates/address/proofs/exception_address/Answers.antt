-- `address::exception_address` meets its contract.
use mathlib.Core.Path.{sym, ◌∙◌}
use Rattle.machine.proofs.Tests.{tests}
use Rattle.address.proofs.exception_address.Goals as goal
use Rattle.address.proofs.exception_address.Goals.{then-code-eq-SEGMENT, else-code-eq-SEGMENT}

pub returns-then-code-eq-PAGE : goal.returns-then-code-eq-PAGE
returns-then-code-eq-PAGE c =
    elim c.if-code-eq-SEGMENT.branch [
      | then-code-eq-SEGMENT w ↦ search tests
      | else-code-eq-SEGMENT w ↦ search (tests, sym w.value-is ∙ c.if-code-eq-PAGE.true)
    ]

pub returns-else-code-eq-PAGE : goal.returns-else-code-eq-PAGE
returns-else-code-eq-PAGE c = search tests
