-- An instruction that is assigned, and neither privileged, intercepted nor misaligned, is executed.
-- Assumes nothing.
use Prim.Native.Nat.{ℕ, ◌/◌, ◌%◌}
use native.Mathlib.Omega.{arith}
use mathlib.Core.Path.{◌≡◌, refl, ap, sym, subst, ◌∙◌}
use mathlib.Core.Bool.{Bool, false, ◌&&◌}
use mathlib.Core.List.{List}
use borrow.Author.Tests.{eq-eqb}
use lib.Dec.{eqb}
use Rattle.machine.specs.declared.Class.{Class}
use Rattle.machine.specs.declared.Class.TheVariants.{Unassigned}
use Rattle.machine.specs.declared.Cpu.{Cpu}
use Rattle.machine.specs.declared.Guest.{Guest}
use Rattle.machine.specs.declared.Opcode.{Opcode}
use Rattle.machine.specs.Psw.{problem_state}
use Rattle.machine.specs.Host.{Host, view}
use Rattle.machine.specs.Opcodes.{number_of, same_class, both, row, opcodes, find, opcode_of}
use Rattle.machine.specs.Outcomes.{Progress}
use Rattle.machine.specs.Execute.{operand_address, execute}
use Rattle.machine.specs.Units.{intercepts, misaligned, decoded, started, instruction}
use Rattle.interruptions.specs.declared.Done.{Done}
use Rattle.interruptions.specs.After.{Standing, Left}
use Rattle.text.specs.Fetching.{FetchedAs, whole}
use Rattle.text.proofs.Order.{decoded_executed, fetch_whole}
use Rattle.blocks.specs.Keeping.{Block}
use Rattle.steps.specs.Texting.{short_text, text_frame}

-- an opcode of a class that is not privileged and asks for no alignment
pub record Plain (o : Opcode) (kind : Class) : Type 0 where
  class : o.class ≡ kind
  privileged : o.privileged ≡ false
  alignment : o.alignment ≡ 1

-- what the table says of a first byte that is not B2
pub listed : (system370 : Bool) (first n : ℕ) (kind : Class) → first / 256 ≡ n → eqb n 0xb2 ≡ false → find system370 n opcodes ≡ row both n false 1 kind
    → Plain (opcode_of system370 first) kind
unfolding number_of opcode_of
listed system370 first n kind here one_byte found =
    let same : find system370 (number_of first) opcodes ≡ row both n false 1 kind = rw (here, one_byte) found in
    record { class = ap (λ r. r.class) same; privileged = ap (λ r. r.privileged) same; alignment = ap (λ r. r.alignment) same }

never_misaligned : (a : ℕ) → misaligned 1 a ≡ false
unfolding misaligned
never_misaligned a = rw (eq-eqb (a % 1) 0 (omega arith))

-- a unit whose text is fetched from a block is its instruction, put into effect
pub executed_here : (h : Host) (g : Guest) (clock : ℕ) (c : Cpu) (b : Block) (first second : ℕ) (kind : Class) (d : Done) {storage keys : List ℕ}
    → FetchedAs h g clock c (instruction (started g clock (view g h) c 1)) (opcode_of c.psw.system370 first) (whole (short_text first second) (text_frame b))
    → Plain (opcode_of c.psw.system370 first) kind → same_class kind Unassigned ≡ false → ((x : Progress) → intercepts kind x ≡ false)
    → ((x : Progress) → Standing h x g clock c (short_text first second) (text_frame b) → Left h g c (execute kind x) d storage keys)
    → Left h g c (instruction (started g clock (view g h) c 1)) d storage keys
executed_here h g clock c b first second kind d {storage} {keys} fetched plain assigned clear does =
    fetch_whole h g clock c (opcode_of c.psw.system370 first) (whole (short_text first second) (text_frame b)) d fetched refl
    (λ x standing.
    let o = opcode_of c.psw.system370 first in
    let executed : decoded x o ≡ execute o.class x =
    decoded_executed x o (ap (λ k. same_class k Unassigned) plain.class ∙ assigned) (ap (λ b. b && problem_state x.cpu) plain.privileged)
    (ap (λ k. intercepts k x) plain.class ∙ clear x) (ap (λ n. misaligned n (operand_address x)) plain.alignment ∙ never_misaligned (operand_address x)) in
    subst (λ e. Left h g c e d storage keys) (ap (λ k. execute k x) (sym plain.class) ∙ sym executed) (does x standing))
