-- Control registers that are loaded one by one.
-- Assumes nothing.
use Prim.Native.Nat.{ℕ, suc, ◌+◌, ◌-◌, ◌*◌, ◌%◌, ◌≤◌, ◌<◌}
use native.Mathlib.Omega.{arith}
use mathlib.Core.Path.{◌≡◌, ap, sym, ◌∙◌}
use mathlib.Core.List.{List}
use lib.ListN.{set}
use Rattle.machine.specs.declared.Cpu.{Cpu}
use Rattle.machine.specs.Words.{word_at, words_at}
use Rattle.machine.specs.Psw.{with_control}
use Rattle.machine.specs.Execute.{with_controls}
use Rattle.interruptions.specs.After.{with_registers}

-- the state once the words from word k to word n are in the registers from i on
abbrev pub rest : Cpu → List ℕ → ℕ → List ℕ → ℕ → ℕ → Cpu
rest c words i s k n = with_controls (with_registers c (record { words = words })) i (words_at s (4 * k) (n - k))

-- the first of them, and then the others
pub one_register : (c : Cpu) (words : List ℕ) (i : ℕ) (s : List ℕ) (k n : ℕ) → k < n
    → rest c (set words i (word_at s (4 * k))) ((i + 1) % 16) s (k + 1) n ≡ rest c words i s k n
unfolding words_at with_controls with_control
one_register c words i s k n some =
    let one : n - k ≡ suc (n - (k + 1)) = omega arith in
    let at : 4 * (k + 1) ≡ 4 * k + 4 = omega arith in
    rw (one, at)

-- with none left, all of them are loaded
pub all_registers : (c : Cpu) (words old : List ℕ) (at i : ℕ) (s : List ℕ) (k n : ℕ) → n ≤ k → c.control.words ≡ old
    → rest c words at s k n ≡ rest c old i s 0 n → with_registers c (record { words = words }) ≡ with_controls c i (words_at s 0 n)
unfolding words_at with_controls
all_registers c words old at i s k n done same loaded =
    let none : n - k ≡ 0 = omega arith in
    let all : n - 0 ≡ n = omega arith in
    (rw (none, all) at loaded) ∙ ap (λ ws. with_controls (with_registers c (record { words = ws })) i (words_at s 0 n)) (sym same)
