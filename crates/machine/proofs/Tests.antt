-- The rules by which a `return` behind tests meets a definition by tests: each test that led there, as its Boolean; what holds of a
-- test's arms; and what is left behind the arms of a `match` on a number.
use Prim.Native.Nat.{ℕ, zero, suc, ◌≤◌}
use native.Mathlib.Omega.{arith}
use mathlib.Core.Path.{◌≡◌, refl}
use mathlib.Core.Bool.{Bool, true, false, cond}
use mathlib.Core.List.{[], ◌∷◌}
use types.Run.{OneOf}
use borrow.Author.Rules.{rules}
use borrow.Author.Tests.{lt-ltb, le-ltb, le-leb, lt-leb, eq-eqb, ne_eqb}

pub ruleset tests = (rules, lt-ltb, le-ltb, le-leb, lt-leb, eq-eqb, ne_eqb)

-- what holds of both arms of a test holds of the test
pub on_either_arm : {A : Type 0} (P : A → Type 0) (b : Bool) {u v : A} → P u → P v → P (cond b u v)
on_either_arm P true p q = p
on_either_arm P false p q = q

-- the same, where the first arm is told that the test is true
pub by_test : {A : Type 0} (P : A → Type 0) (b : Bool) {u v : A} → (b ≡ true → P u) → P v → P (cond b u v)
by_test P true p q = p refl
by_test P false p q = q

-- the same, where each arm is told
pub by_either_test : {A : Type 0} (P : A → Type 0) (b : Bool) {u v : A} → (b ≡ true → P u) → (b ≡ false → P v) → P (cond b u v)
by_either_test P true p q = p refl
by_either_test P false p q = q refl

-- what is known behind a match's arms for the keys below n
abbrev pub NoneBelow : ℕ → ℕ → Type 0
NoneBelow zero x = Unit {0}
NoneBelow (suc n) x = NoneBelow n x × (OneOf (n ∷ []) x → ⊥)

pub past_the_keys : (n x : ℕ) → NoneBelow n x → n ≤ x
past_the_keys zero x h = omega arith
past_the_keys (suc n) x (h, other) = let below : n ≤ x = past_the_keys n x h in omega arith
