-- Whether a unit completes, while no interruption can.
use Rattle.std.specs.Prelude.{ℕ, ◌*◌, ◌≡◌, Bool, true, false, not, ◌&&◌}
use Rattle.machine.specs.declared.Class.{Class}
use Rattle.machine.specs.declared.Class.TheVariants.{Lr, Ar, Sr, Bcr, Svc, La, Bc, St, L, Lpsw, Stctl, Lctl, Stck, Spt, Stpt, Mandatory, Unassigned}
use Rattle.machine.specs.declared.Cpu.{Cpu}
use Rattle.machine.specs.declared.Failure.{Failure}
use Rattle.machine.specs.declared.Guest.{Guest}
use Rattle.machine.specs.declared.Text.{Text}
use Rattle.machine.specs.Psw.{overflow_enabled, general}
use Rattle.machine.specs.Interval.{word_place}
use Rattle.machine.specs.Host.{Host, view}
use Rattle.machine.specs.Addresses.{Accesses, all, stopped, real_access, access, accesses, span, up_from}
use Rattle.machine.specs.Outcomes.{Outcome, completed, intercepted, faulted, Progress}
use Rattle.machine.specs.Execute.{r1, r2, operand_address, indexed_address, sum_overflows, difference_overflows, range_count}

-- the outcome completes a unit
unfoldable pub is_complete : Outcome → Bool
is_complete (completed c e) = true
is_complete (intercepted r c) = false
is_complete (faulted f) = false

unfoldable pub all_reached : Accesses → Bool
all_reached (all ls) = true
all_reached (stopped f) = false

-- an operand of `n` bytes is reached
abbrev pub reaches : Progress → Bool → ℕ → ℕ → Bool
reaches x store a n = all_reached (accesses (access x.guest x.view x.cpu store) (span x.cpu a n))

-- an instruction that passes its tests completes: no overflow interrupts, and its operand is reached
unfoldable pub performs : Class → Progress → Bool
performs Lr x = true
performs Ar x = not (sum_overflows (general x.cpu (r1 x)) (general x.cpu (r2 x)) && overflow_enabled x.cpu)
performs Sr x = not (difference_overflows (general x.cpu (r1 x)) (general x.cpu (r2 x)) && overflow_enabled x.cpu)
performs Bcr x = true
performs Svc x = false
performs La x = true
performs Bc x = true
performs St x = reaches x true (indexed_address x) 4
performs L x = reaches x false (indexed_address x) 4
performs Lpsw x = reaches x false (operand_address x) 8
performs Stctl x = reaches x true (operand_address x) (4 * range_count x)
performs Lctl x = reaches x false (operand_address x) (4 * range_count x)
performs Stck x = reaches x true (operand_address x) 8
performs Spt x = reaches x false (operand_address x) 8
performs Stpt x = reaches x true (operand_address x) 8
performs Mandatory x = false
performs Unassigned x = false

-- a unit in progress, as the code holds it
pub record InHand (h : Host) (x : Progress) (g : Guest) (c : Cpu) (text : Text) : Type 0 where
  pub of_guest : x.guest ≡ g
  pub of_view : x.view ≡ view g h
  pub of_cpu : x.cpu ≡ c
  pub of_text : x.text ≡ text

-- the interval timer's word cannot be stored into
abbrev pub WordShut : Guest → Host → Failure → Type 0
WordShut g h f = accesses (real_access g (view g h) true) (up_from word_place 4) ≡ stopped f
