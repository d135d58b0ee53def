-- The numbers of the kinds.
use Rattle.std.specs.Prelude.{ℕ}
use Rattle.packing.specs.declared.Kind.{Kind}
use Rattle.packing.specs.declared.Kind.TheVariants as kind
use Rattle.packing.specs.Packing.{refused_kind, intercepted_kind, host_fault_kind, budget_kind, exception_kind, good_kind, none_kind}

unfoldable pub kind_number : Kind → ℕ
kind_number kind.Refused = refused_kind
kind_number kind.Intercepted = intercepted_kind
kind_number kind.HostFault = host_fault_kind
kind_number kind.BudgetUsed = budget_kind
kind_number kind.Exception = exception_kind
kind_number kind.Good = good_kind
kind_number kind.None = none_kind
