-- `cases::numbers_of` meets its contract.
use Rattle.cases.specs.CaseFile.{numbers_of}
use Rattle.cases.proofs.numbers_of.Goals as goal

pub returns : goal.returns
unfolding numbers_of
returns c = λ i. record {
  designation = c.word_at.ensures i;
  clock = c.double_at.ensures i;
  time = c.word_at-2.ensures i;
  budget = c.half_at.ensures.0 i;
}
