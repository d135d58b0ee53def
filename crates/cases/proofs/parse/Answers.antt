-- `cases::parse` meets its contract.
use native.Mathlib.Omega.{arith}
use Rattle.machine.proofs.Tests.{tests}
use Rattle.cases.specs.CaseFile.{well_formed, case_of}
use Rattle.cases.proofs.CaseFiles.{size_least, size_most, short_malformed}
use Rattle.cases.proofs.parse.Goals as goal

pub returns-then-file-lt-LEAST : goal.returns-then-file-lt-LEAST
unfolding case_of
returns-then-file-lt-LEAST c = rw (short_malformed c.args.file.now (omega (arith, c.if-file-lt-LEAST.true, size_least c.args.file.now)))

pub overflow_add-at : goal.overflow_add-at
overflow_add-at c = omega (arith, c.record_size-at.ensures, size_most c.args.file.now)

pub returns-in_err-count : goal.returns-in_err-count
unfolding case_of
returns-in_err-count c =
    rw (
      c.from_residual.ensures,
      short_malformed c.args.file.now (omega (arith, c.in_err-count.ensures.lookup.3, c.record_size-at.ensures)),
    )

pub returns-then-count-le-MOST_FRAMES : goal.returns-then-count-le-MOST_FRAMES
unfolding case_of well_formed
returns-then-count-le-MOST_FRAMES c =
    rw (← c.record_size-at.ensures, ← c.word_at.ensures, ← c.in_ok-count.ensures.lookup.3.1 0, ← c.numbers_of.ensures) (search tests)

pub returns-else-total-file : goal.returns-else-total-file
unfolding case_of well_formed
returns-else-total-file c = rw (← c.record_size-at.ensures, ← c.word_at.ensures) (search tests)
