-- `decode::row_of` meets its contract.
use mathlib.Core.Path.{◌≡◌, ap, sym, ◌∙◌}
use borrow.Author.Rules.{rules}
use borrow.Author.Tests.{tests}
use Rattle.std.proofs.lemmas.Iterator.{YieldsList-from_slice}
use Rattle.std.proofs.lemmas.Iterator.Search.{find_from_yields_List}
use Rattle.std.specs.List as list
use Rattle.std.specs.Prelude.{IfSome}
use Rattle.machine.specs.Opcodes.{find}
use Rattle.decode.specs.Rows.{length_of_number, fits, found}
use Rattle.decode.proofs.Searching.{first_that_fits, length_that_fits}
use Rattle.decode.proofs.row_of.Goals as goal
use Rattle.decode.proofs.row_of.Goals.{After-copied}

-- what is found is the first row that fits
first : (c : After-copied) → c.copied.result ≡ list.find (fits c.args.system370 c.args.number) c.rows.result.now
first c =
    c.copied.ensures
    ∙ find_from_yields_List (fits c.args.system370 c.args.number) _ _ c.find.result c.find.ensures.ran (YieldsList-from_slice c.rows.result.now cc)
    (λ x b q k. search (rules, tests))

pub returns-clause-row : goal.returns-clause-row
returns-clause-row c =
    let system370 = c.args.system370 in
    let number = c.args.number in
    ap (found number) (first c) ∙ first_that_fits system370 number c.rows.result.now ∙ ap (find system370 number) c.rows.ensures.rows

pub returns-clause-length : goal.returns-clause-length
returns-clause-length c = rw (first c) (length_that_fits c.args.system370 c.args.number c.rows.result.now c.rows.ensures.lengths)
