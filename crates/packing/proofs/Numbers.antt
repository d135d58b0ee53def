-- The place of a kind, a stage and a refusal among its like is its number; that of a refusal is one less.
use Prim.Native.Nat.{◌+◌, ◌<◌}
use mathlib.Core.Path.{◌≡◌, refl}
use native.Mathlib.Omega.{arith}
use denote.Enum.Declared.{tag_of}
use Rattle.machine.specs.declared.Refusal.{Refusal}
use Rattle.machine.specs.declared.Refusal.TheVariants as refusal
use Rattle.machine.specs.declared.Stage.{Stage}
use Rattle.machine.specs.declared.Stage.TheVariants as stage
use Rattle.machine.specs.contracts.Refusal as refusals
use Rattle.machine.specs.contracts.Stage as stages
use Rattle.machine.specs.Answers.{refusal_number, stage_number}
use Rattle.packing.specs.declared.Kind.{Kind}
use Rattle.packing.specs.declared.Kind.TheVariants as kind
use Rattle.packing.specs.contracts.Kind as kinds
use Rattle.packing.specs.Kinds.{kind_number}

pub kind_tag : (k : Kind) → tag_of kinds.the_type k ≡ kind_number k
unfolding kind_number
kind_tag kind.Refused = refl
kind_tag kind.Intercepted = refl
kind_tag kind.HostFault = refl
kind_tag kind.BudgetUsed = refl
kind_tag kind.Exception = refl
kind_tag kind.Good = refl
kind_tag kind.None = refl

pub stage_tag : (s : Stage) → tag_of stages.the_type s ≡ stage_number s
unfolding stage_number
stage_tag stage.None = refl
stage_tag stage.GuestSegment = refl
stage_tag stage.GuestPage = refl
stage_tag stage.HostSegment = refl
stage_tag stage.HostPage = refl

pub stage-small : (s : Stage) → stage_number s < 5
unfolding stage_number
stage-small stage.None = omega arith
stage-small stage.GuestSegment = omega arith
stage-small stage.GuestPage = omega arith
stage-small stage.HostSegment = omega arith
stage-small stage.HostPage = omega arith

pub refusal_tag : (r : Refusal) → tag_of refusals.the_type r + 1 ≡ refusal_number r
unfolding refusal_number
refusal_tag refusal.WrongLength = refl
refusal_tag refusal.WrongVersion = refl
refusal_tag refusal.WrongStorage = refl
refusal_tag refusal.WrongKeys = refl
refusal_tag refusal.WrongBudget = refl
refusal_tag refusal.WrongTime = refl
refusal_tag refusal.ReservedUsed = refl
refusal_tag refusal.WrongAccess = refl
refusal_tag refusal.Malformed = refl
refusal_tag refusal.OutOfReach = refl
refusal_tag refusal.AlreadyValid = refl
refusal_tag refusal.NotValid = refl
refusal_tag refusal.FrameOutside = refl
refusal_tag refusal.Entangled = refl
refusal_tag refusal.ShortWorkspace = refl
refusal_tag refusal.WrongRange = refl

pub refusal-small : (r : Refusal) → refusal_number r < 256
unfolding refusal_number
refusal-small refusal.WrongLength = omega arith
refusal-small refusal.WrongVersion = omega arith
refusal-small refusal.WrongStorage = omega arith
refusal-small refusal.WrongKeys = omega arith
refusal-small refusal.WrongBudget = omega arith
refusal-small refusal.WrongTime = omega arith
refusal-small refusal.ReservedUsed = omega arith
refusal-small refusal.WrongAccess = omega arith
refusal-small refusal.Malformed = omega arith
refusal-small refusal.OutOfReach = omega arith
refusal-small refusal.AlreadyValid = omega arith
refusal-small refusal.NotValid = omega arith
refusal-small refusal.FrameOutside = omega arith
refusal-small refusal.Entangled = omega arith
refusal-small refusal.ShortWorkspace = omega arith
refusal-small refusal.WrongRange = omega arith
