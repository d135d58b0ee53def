-- Many units charged at once are as many charged one by one, and a stretch of calm units is calm from each of its units on.
-- Assumes nothing.
use Rattle.std.proofs.Common.{◌≡◌, ℕ, ◌+◌, ◌-◌, ◌*◌, ◌/◌, ◌%◌, ◌^◌, ◌<◌, ◌≤◌, Bool, false, sym, ap, ◌∙◌, mul-le-mul_right, add-mul, one-mul, mul-add, arith, ne_eqb}
use borrow.Author.Tests.{lt-leb}
use Rattle.machine.specs.declared.Cpu.{Cpu}
use Rattle.machine.specs.declared.Guest.{Guest}
use Rattle.machine.specs.Words.{bit}
use Rattle.machine.specs.Time.{clock_after, timer_after}
use Rattle.machine.specs.Interval.{period, falls, residue_after}
use Rattle.psws.specs.Psws.{psw_at}
use Rattle.psws.proofs.Placed.{again_at}
use Rattle.calm.specs.Calming.{clocks, timers, residues, Later, Calm}

-- one more of a number
once_more : (k x : ℕ) → (k + 1) * x ≡ k * x + x
once_more k x = add-mul k 1 x ∙ ap (λ y. k * x + y) (one-mul x)

pub clock_more : (clock time k : ℕ) → clock_after (clocks clock time k) time ≡ clocks clock time (k + 1)
unfolding clock_after clocks
clock_more clock time k = let more = once_more k time in omega arith

pub timer_more : (timer time k : ℕ) → timer_after (timers timer time k) time ≡ timers timer time (k + 1)
unfolding timer_after timers
timer_more timer time k = let more = once_more k (2 ^ 64 - time) in omega arith

pub clock_start : (clock time : ℕ) → clock < 2 ^ 64 → clocks clock time 0 ≡ clock
unfolding clocks
clock_start clock time small = omega arith

pub timer_start : (timer time : ℕ) → timer < 2 ^ 64 → timers timer time 0 ≡ timer
unfolding timers
timer_start timer time small = omega arith

-- units behind units
pub clock_further : (clock time k n : ℕ) → clocks (clocks clock time k) time n ≡ clocks clock time (k + n)
unfolding clocks
clock_further clock time k n = let more = add-mul k n time in omega arith

pub timer_further : (timer time k n : ℕ) → timers (timers timer time k) time n ≡ timers timer time (k + n)
unfolding timers
timer_further timer time k n = let more = add-mul k n (2 ^ 64 - time) in omega arith

-- the residue, while the word does not fall
module _ (residue time : ℕ) where
  pub residue-start : residues residue time 0 ≡ residue
  unfolding residues
  residue-start = omega arith

  pub residue_more : (k : ℕ) → falls (residues residue time k) time ≡ false → residue_after (residues residue time k) time ≡ residues residue time (k + 1)
  unfolding residue_after residues
  residue_more k rises = let more = once_more k (3 * time) in rw rises (omega arith)

  pub residue_further : (k n : ℕ) → residues (residues residue time k) time n ≡ residues residue time (k + n)
  unfolding residues
  residue_further k n = let more = add-mul k n (3 * time) in omega arith

  pub not_falling : (k n : ℕ) → k < n → residues residue time n < period → falls (residues residue time k) time ≡ false
  unfolding falls residues
  not_falling k n less within =
      let more = once_more k (3 * time) in
      let most = mul-le-mul_right {m = k + 1} {n = n} (3 * time) (omega arith) in
      lt-leb period (residue + k * (3 * time) + 3 * time) (omega arith)

-- what is taken off with wrap and added again
wrapped_away : (time j : ℕ) → time < 2 ^ 64 → j * (2 ^ 64 - time) + j * time ≡ j * 2 ^ 64
wrapped_away time j small = sym (mul-add j (2 ^ 64 - time) time) ∙ ap (λ x. j * x) (omega arith)

-- the timer is not negative while the time does not take it below zero
pub not_negative : (timer time j : ℕ) → j * time ≤ timer → timer < 2 ^ 63 → time < 2 ^ 64 → bit 64 0 (timers timer time j) ≡ false
unfolding timers
not_negative timer time j within positive small =
    let apart = wrapped_away time j small in
    let here : (timer + j * (2 ^ 64 - time)) % 2 ^ 64 < 2 ^ 63 = omega arith in
    ne_eqb ((timer + j * (2 ^ 64 - time)) % 2 ^ 64 / 2 ^ 63 % 2) 1 (λ (one : (timer + j * (2 ^ 64 - time)) % 2 ^ 64 / 2 ^ 63 % 2 ≡ 1). omega arith)

-- Calm units.

pub calm_fewer : (g : Guest) (clock time : ℕ) (requested : Bool) (c : Cpu) (n m : ℕ) → m ≤ n → Calm g clock time requested c n → Calm g clock time requested c m
calm_fewer g clock time requested c n m fewer calm = λ j less. calm j (omega arith)

-- a state later than a later one
later_later : (c later last : Cpu) → c.psw.left < 2 ^ 32 → c.psw.right < 2 ^ 32 → Later c later → Later later last → Later c last
later_later c later last left right first second = record {
  address = second.address;
  code = second.code;
  small = second.small;
  psw = second.psw ∙ ap (λ p. psw_at p second.address second.code) first.psw ∙ again_at c.psw left right first.address first.code first.small second.address second.code second.small;
  control = second.control ∙ first.control;
}

pub calm-after : (g : Guest) (clock time : ℕ) (requested : Bool) (c : Cpu) (n k : ℕ) (later : Cpu) → c.psw.left < 2 ^ 32 → c.psw.right < 2 ^ 32 → k ≤ n
    → Calm g clock time requested c n → Later c later → later.timer ≡ timers c.timer time k → Calm g (clocks clock time k) time requested later (n - k)
calm-after g clock time requested c n k later left right within calm first charged =
    λ j (less : j < n - k) v last second timed.
    rw (clock_further clock time k j)
    (calm (k + j) (omega arith) v last (later_later c later last left right first second)
    (timed ∙ ap (λ t. timers t time j) charged ∙ timer_further c.timer time k j))
