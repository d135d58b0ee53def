-- The list before a unit, for every state that has the PSW at another address and with another condition code.
-- Assumes nothing.
use Rattle.std.proofs.Common.{◌≡◌, ℕ, ◌/◌, ◌%◌, ◌^◌, ◌<◌, Bool, true, false, not, ◌&&◌, ◌||◌, eqb, refl, ◌∙◌, arith, eqb-true}
use borrow.Author.Tests.{not-false}
use Rattle.machine.specs.declared.Cpu.{Cpu}
use Rattle.machine.specs.declared.Guest.{Guest}
use Rattle.machine.specs.declared.Psw.{Psw}
use Rattle.machine.specs.Words.{bit, bits}
use Rattle.machine.specs.Psw.{external_enabled, instruction_address, malformed, left_malformed, wrap, control}
use Rattle.machine.specs.Time.{comparator_due, timer_due}
use Rattle.machine.specs.Host.{Cell}
use Rattle.machine.specs.Units.{started, instruction, unit}
use Rattle.psws.specs.Psws.{state, Wrapped}
use Rattle.psws.proofs.Placed.{external_at, io_at, waiting_at, installed_at, formed_at}
use Rattle.calm.specs.Calming.{clocks, Later, Calm}
use Rattle.calm.specs.Passing.{Passes, Silent}

-- a test that comes to nothing, by its first part or by the rest
none_by_first : (a b d : Bool) → a ≡ false → (a && b && d) ≡ false
none_by_first a b d e = rw e

none_by_rest : (a b d : Bool) → (b && d) ≡ false → (a && b && d) ≡ false
none_by_rest true b d e = e
none_by_rest false b d e = refl

pub not_first : (a b : Bool) → a ≡ false → (a && b) ≡ false
not_first a b e = rw e

pub not_second : (a b : Bool) → b ≡ false → (a && b) ≡ false
not_second true b e = e
not_second false b e = refl

-- a test is not both
pub contrary : {A : Type 0} (b : Bool) → b ≡ true → b ≡ false → A
contrary b holds fails = let z : ◌≡◌ {A = ℕ} 0 1 = cc in absurd (omega arith)

-- the last of some tests
last_false : (x y : Bool) → (x || y) ≡ false → y ≡ false
last_false true y e = contrary true refl e
last_false false y e = e

-- an address of 31 bits of which the first seven are zero
short_address : (r : ℕ) → r / 2 ^ 24 % 2 ^ 7 ≡ 0 → r / 2 ^ 0 % 2 ^ 31 % 2 ^ 24 ≡ r / 2 ^ 0 % 2 ^ 31
short_address r e = omega arith

-- the addressing mode does not cut the address of a PSW to which no specification exception belongs
pub formed_wrapped : (p : Psw) → malformed (state p) ≡ false → Wrapped p (instruction_address (state p))
unfolding wrap malformed
formed_wrapped p = go p.system370 (bit 32 0 p.right) refl refl
  where
    go : (s m : Bool) → p.system370 ≡ s → bit 32 0 p.right ≡ m → malformed (state p) ≡ false → Wrapped p (instruction_address (state p))
    go true m s370 mode formed = rw s370 (omega arith)
    go false true xa mode formed = rw (xa, mode) (omega arith)
    go false false xa mode formed =
        let zero : not (eqb (bits 32 1 7 p.right) 0) ≡ false = last_false (left_malformed (state p) || not (bit 32 12 p.left)) _ (rw (xa, mode) at formed) in
        rw (xa, mode) (short_address p.right (eqb-true _ _ (not-false _ zero)))

module _ (g : Guest) (clock time : ℕ) (requested : Bool) (c : Cpu) (left : c.psw.left < 2 ^ 32) (right : c.psw.right < 2 ^ 32) (passes : Passes g c.psw) where
  -- before unit j, where what external interruptions ask comes to nothing
  list_passed : (j : ℕ) (v : ℕ → Cell) (later : Cpu) → Later c later
      → (external_enabled (state c.psw) && bit 32 20 (control c 0) && comparator_due g (clocks clock time j)) ≡ false
      → (external_enabled (state c.psw) && bit 32 21 (control c 0) && bit 64 0 later.timer) ≡ false
      → (external_enabled (state c.psw) && bit 32 24 (control c 0) && requested) ≡ false
      → unit g (clocks clock time j) requested v later ≡ instruction (started g (clocks clock time j) v later 1)
  unfolding unit timer_due
  list_passed j v later l comparator timed interval =
      let at = installed_at c.psw left right l.address l.code l.small later l.psw in
      let formed = formed_at c.psw left right l.address l.code l.small later l.psw passes.formed in
      let external = external_at c.psw left right l.address l.code l.small later l.psw in
      let io = io_at c.psw left right l.address l.code l.small later l.psw in
      let waits = waiting_at c.psw left right l.address l.code l.small later l.psw in
      rw (passes.goes, at ∙ passes.installed, formed, external, l.control, comparator, timed, interval, passes.external, io, passes.io, waits ∙ passes.awake)

  pub calm_disabled : external_enabled (state c.psw) ≡ false → (n : ℕ) → Calm g clock time requested c n
  calm_disabled off n = λ j less v later l charged. list_passed j v later l (none_by_first _ _ _ off) (none_by_first _ _ _ off) (none_by_first _ _ _ off)

  pub calm_silent : (n : ℕ) → ((j : ℕ) → j < n → Silent g clock requested c.timer (control c 0) time j) → Calm g clock time requested c n
  calm_silent n silent =
      λ j less v later l charged.
      let s = silent j less in
      let on = external_enabled (state c.psw) in
      list_passed j v later l
      (none_by_rest on (bit 32 20 (control c 0)) (comparator_due g (clocks clock time j)) s.comparator)
      (none_by_rest on (bit 32 21 (control c 0)) (bit 64 0 later.timer) (rw charged s.timed))
      (none_by_rest on (bit 32 24 (control c 0)) requested s.interval)
