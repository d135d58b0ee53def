-- `packing::pack_end` meets its contract.
use native.Mathlib.Omega.{arith}
use Rattle.packing.specs.Kinds.{kind_number}
use Rattle.packing.specs.Packing.{packed_end}
use Rattle.packing.proofs.pack_end.Goals as goal

pub returns-in-Intercepted : goal.returns-in-Intercepted
unfolding packed_end kind_number
returns-in-Intercepted c = rw (c.in-Intercepted.is, c.pack_staged.ensures.0, c.reason_code.ensures) (omega arith)

pub returns-in-HostFault : goal.returns-in-HostFault
unfolding packed_end kind_number
returns-in-HostFault c = rw (c.in-HostFault.is, c.pack_staged-in-HostFault.ensures.0) (omega arith)

pub returns-in-BudgetUsed : goal.returns-in-BudgetUsed
unfolding packed_end kind_number
returns-in-BudgetUsed c = rw (c.in-BudgetUsed.is, c.pack_staged-in-BudgetUsed.ensures.0) (omega arith)
