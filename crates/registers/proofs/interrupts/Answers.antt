-- `registers::interrupts` meets its contract.
use mathlib.Core.Path.{refl}
use Rattle.registers.proofs.interrupts.Goals as goal

pub returns-then-overflow : goal.returns-then-overflow
returns-then-overflow c = λ k same. rw c.if-overflow.true (c.overflow_enabled.ensures k same)

pub returns : goal.returns
returns c = λ k same. rw c.if-overflow.false refl
