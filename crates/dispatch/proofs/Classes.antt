-- A class behind the arms of a `match` for others, and that a class is told by its code.
-- Assumes nothing.
use mathlib.Core.Path.{◌≡◌, refl, ap, sym, ◌∙◌}
use mathlib.Core.Bool.{false}
use mathlib.Core.List.{List, [], ◌∷◌, map}
use lib.ListN.{get_or}
use borrow.Author.Rules.{rules}
use borrow.Author.Tests.{ne_eqb}
use types.Run.{miss}
use Rattle.machine.specs.declared.Class.{Class}
use Rattle.machine.specs.declared.Class.TheVariants.{Lr, Ar, Sr, Bcr, Svc, La, Bc, St, L, Lpsw, Stctl, Lctl, Stck, Spt, Stpt, Mandatory, Unassigned}
use Rattle.machine.specs.Opcodes.{code_of, same_class}
use Rattle.dispatch.specs.Testing.{with_operand, WithOperand}

-- the classes in their order
abbrev pub classes : List Class
classes = Lr ∷ Ar ∷ Sr ∷ Bcr ∷ Svc ∷ La ∷ Bc ∷ St ∷ L ∷ Lpsw ∷ Stctl ∷ Lctl ∷ Stck ∷ Spt ∷ Stpt ∷ Mandatory ∷ Unassigned ∷ []

-- a class stands at its code
placed : (k : Class) → get_or classes (code_of k) Unassigned ≡ k
placed Lr = refl
placed Ar = refl
placed Sr = refl
placed Bcr = refl
placed Svc = refl
placed La = refl
placed Bc = refl
placed St = refl
placed L = refl
placed Lpsw = refl
placed Stctl = refl
placed Lctl = refl
placed Stck = refl
placed Spt = refl
placed Stpt = refl
placed Mandatory = refl
placed Unassigned = refl

-- no two classes share a code
pub same_class_lem : (j k : Class) → code_of j ≡ code_of k → j ≡ k
same_class_lem j k e = sym (placed j) ∙ ap (λ n. get_or classes n Unassigned) e ∙ placed k

-- a class that is not of this kind
pub other : {class kind : Class} → (class ≡ kind → ⊥) → same_class class kind ≡ false
other {class} {kind} apart = ne_eqb _ _ (λ same. apart (same_class_lem class kind same))

-- behind a `match` that has arms for the classes without an operand
pub left_with_operand : (class : Class) → (class ≡ Lr → ⊥) → (class ≡ Ar → ⊥) → (class ≡ Sr → ⊥) → (class ≡ Bcr → ⊥) → (class ≡ Svc → ⊥) → (class ≡ La → ⊥)
    → (class ≡ Bc → ⊥) → (class ≡ Mandatory → ⊥) → (class ≡ Unassigned → ⊥) → WithOperand class
left_with_operand St lr ar sr bcr svc la bc mandatory unassigned = search rules
left_with_operand L lr ar sr bcr svc la bc mandatory unassigned = search rules
left_with_operand Lpsw lr ar sr bcr svc la bc mandatory unassigned = search rules
left_with_operand Stctl lr ar sr bcr svc la bc mandatory unassigned = search rules
left_with_operand Lctl lr ar sr bcr svc la bc mandatory unassigned = search rules
left_with_operand Stck lr ar sr bcr svc la bc mandatory unassigned = search rules
left_with_operand Spt lr ar sr bcr svc la bc mandatory unassigned = search rules
left_with_operand Stpt lr ar sr bcr svc la bc mandatory unassigned = search rules
left_with_operand Lr lr ar sr bcr svc la bc mandatory unassigned = absurd (lr refl)
left_with_operand Ar lr ar sr bcr svc la bc mandatory unassigned = absurd (ar refl)
left_with_operand Sr lr ar sr bcr svc la bc mandatory unassigned = absurd (sr refl)
left_with_operand Bcr lr ar sr bcr svc la bc mandatory unassigned = absurd (bcr refl)
left_with_operand Svc lr ar sr bcr svc la bc mandatory unassigned = absurd (svc refl)
left_with_operand La lr ar sr bcr svc la bc mandatory unassigned = absurd (la refl)
left_with_operand Bc lr ar sr bcr svc la bc mandatory unassigned = absurd (bc refl)
left_with_operand Mandatory lr ar sr bcr svc la bc mandatory unassigned = absurd (mandatory refl)
left_with_operand Unassigned lr ar sr bcr svc la bc mandatory unassigned = absurd (unassigned refl)

-- behind a `match` that has arms for all with an operand but STPT
pub left_stpt : (class : Class) → WithOperand class → (class ≡ St → ⊥) → (class ≡ L → ⊥) → (class ≡ Lpsw → ⊥) → (class ≡ Stctl → ⊥) → (class ≡ Lctl → ⊥)
    → (class ≡ Stck → ⊥) → (class ≡ Spt → ⊥) → class ≡ Stpt
left_stpt Lr within st l lpsw stctl lctl stck spt = absurd (miss (map code_of with_operand) (code_of Lr) tt within)
left_stpt Ar within st l lpsw stctl lctl stck spt = absurd (miss (map code_of with_operand) (code_of Ar) tt within)
left_stpt Sr within st l lpsw stctl lctl stck spt = absurd (miss (map code_of with_operand) (code_of Sr) tt within)
left_stpt Bcr within st l lpsw stctl lctl stck spt = absurd (miss (map code_of with_operand) (code_of Bcr) tt within)
left_stpt Svc within st l lpsw stctl lctl stck spt = absurd (miss (map code_of with_operand) (code_of Svc) tt within)
left_stpt La within st l lpsw stctl lctl stck spt = absurd (miss (map code_of with_operand) (code_of La) tt within)
left_stpt Bc within st l lpsw stctl lctl stck spt = absurd (miss (map code_of with_operand) (code_of Bc) tt within)
left_stpt Mandatory within st l lpsw stctl lctl stck spt = absurd (miss (map code_of with_operand) (code_of Mandatory) tt within)
left_stpt Unassigned within st l lpsw stctl lctl stck spt = absurd (miss (map code_of with_operand) (code_of Unassigned) tt within)
left_stpt St within st l lpsw stctl lctl stck spt = absurd (st refl)
left_stpt L within st l lpsw stctl lctl stck spt = absurd (l refl)
left_stpt Lpsw within st l lpsw stctl lctl stck spt = absurd (lpsw refl)
left_stpt Stctl within st l lpsw stctl lctl stck spt = absurd (stctl refl)
left_stpt Lctl within st l lpsw stctl lctl stck spt = absurd (lctl refl)
left_stpt Stck within st l lpsw stctl lctl stck spt = absurd (stck refl)
left_stpt Spt within st l lpsw stctl lctl stck spt = absurd (spt refl)
left_stpt Stpt within st l lpsw stctl lctl stck spt = refl
