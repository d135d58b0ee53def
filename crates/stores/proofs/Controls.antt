-- Control registers as bytes.
-- Assumes nothing.
use Prim.Native.Nat.{ℕ, zero, suc, ◌+◌, ◌-◌, ◌*◌, ◌%◌, ◌≤◌, ◌<◌}
use native.Mathlib.Omega.{arith}
use mathlib.Core.Path.{◌≡◌, refl, ap, sym, ◌∙◌}
use mathlib.Core.List.{List, ◌++◌}
use lib.ListN.{length, take, drop}
use lib.Seq.{sets, length-sets, sets-eq, take-append_seam}
use Rattle.machine.specs.declared.Cpu.{Cpu}
use Rattle.machine.specs.Psw.{control}
use Rattle.machine.specs.Words.{word_bytes, words_bytes}
use Rattle.machine.specs.Execute.{controls_from}
use Rattle.machine.proofs.Words.{sets-append, length-words_bytes}

-- the bytes of n - k control registers, stored behind those of k: one, and then the others
pub one_control_more : (l : List ℕ) (c : Cpu) (i k n w : ℕ) → k < n → w ≡ control c i
    → sets (sets l (4 * k) (word_bytes w)) (4 * (k + 1)) (words_bytes (controls_from c ((i + 1) % 16) (n - (k + 1)))) ≡ sets l (4 * k) (words_bytes (controls_from c i (n - k)))
unfolding words_bytes controls_from
one_control_more l c i k n w some same =
    let one : n - k ≡ suc (n - (k + 1)) = omega arith in
    let on : 4 * (k + 1) ≡ 4 * k + 4 = omega arith in
    rw (one, on, same) (sets-append l (4 * k) (word_bytes (control c i)) (words_bytes (controls_from c ((i + 1) % 16) (n - (k + 1)))))

length-controls_from : (c : Cpu) (i n : ℕ) → length (controls_from c i n) ≡ n
unfolding controls_from
length-controls_from c i zero = refl
length-controls_from c i (suc n) = ap suc (length-controls_from c ((i + 1) % 16) n)

pub length_controls : (c : Cpu) (i n : ℕ) → length (words_bytes (controls_from c i n)) ≡ 4 * n
length_controls c i n = length-words_bytes (controls_from c i n) ∙ ap (λ k. 4 * k) (length-controls_from c i n)

-- what was stored from the start of a list on stands there
pub take-sets : (l vs to : List ℕ) (n : ℕ) → to ≡ sets l 0 vs → length vs ≡ n → n ≤ length to → take n to ≡ vs
take-sets l vs to n stores long fits =
    let rest = drop (0 + length vs) l in
    let inside : length to ≡ length l = ap length stores ∙ length-sets l 0 vs in
    ap (take n) (stores ∙ sets-eq vs l 0 (omega arith)) ∙ ap (λ k. take k (vs ++ rest)) (sym long) ∙ take-append_seam vs rest
