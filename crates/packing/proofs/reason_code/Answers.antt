-- `packing::reason_code` meets its contract.
use mathlib.Core.Path.{refl}
use Rattle.machine.specs.Answers.{reason_code}
use Rattle.packing.proofs.reason_code.Goals as goal

pub returns-in-Instruction : goal.returns-in-Instruction
unfolding reason_code
returns-in-Instruction c = rw c.in-Instruction.is refl

pub returns-in-Program : goal.returns-in-Program
unfolding reason_code
returns-in-Program c = rw c.in-Program.is refl

pub returns-in-ExternalRequest : goal.returns-in-ExternalRequest
unfolding reason_code
returns-in-ExternalRequest c = rw c.in-ExternalRequest.is refl

pub returns-in-External : goal.returns-in-External
unfolding reason_code
returns-in-External c = rw c.in-External.is refl

pub returns-in-IoRequest : goal.returns-in-IoRequest
unfolding reason_code
returns-in-IoRequest c = rw c.in-IoRequest.is refl

pub returns-in-Wait : goal.returns-in-Wait
unfolding reason_code
returns-in-Wait c = rw c.in-Wait.is refl

pub returns-in-Validity : goal.returns-in-Validity
unfolding reason_code
returns-in-Validity c = rw c.in-Validity.is refl

pub returns-in-Stop : goal.returns-in-Stop
unfolding reason_code
returns-in-Stop c = rw c.in-Stop.is refl

pub returns-in-Operation : goal.returns-in-Operation
unfolding reason_code
returns-in-Operation c = rw c.in-Operation.is refl
