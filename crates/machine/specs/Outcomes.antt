-- What one unit comes to. Document 01, "Before each unit": a unit is complete when an instruction ends or a guest interruption is
-- presented; an exit, an interception or a host fault, is no unit.
use Rattle.std.specs.Prelude.{ℕ, List}
use Rattle.machine.specs.declared.Cpu.{Cpu}
use Rattle.machine.specs.declared.Failure.{Failure}
use Rattle.machine.specs.declared.Guest.{Guest}
use Rattle.machine.specs.declared.Reason.{Reason}
use Rattle.machine.specs.declared.Text.{Text}
use Rattle.machine.specs.Host.{Cell, Located}

-- what a completed unit does to guest storage: the guest absolute addresses that it fetched from, and its stores.
-- Table reads are not among them.
pub record Effects : Type 0 where
  pub fetched : List ℕ
  pub stores : List Located

-- Only a completed unit has effects. A host fault undoes the whole unit: it carries no state.
pub data Outcome : Type 0 where
  completed : Cpu → Effects → Outcome
  intercepted : Reason → Cpu → Outcome
  faulted : Failure → Outcome

-- a unit in progress: what it starts from, and the instruction's text as far as it is fetched
pub record Progress : Type 0 where
  pub guest : Guest
  pub clock : ℕ
  pub view : ℕ → Cell
  pub cpu : Cpu
  pub text : Text
  pub fetched : List ℕ
