-- The state that a lap stands in, by the place of its instruction.
-- Assumes nothing.
use Rattle.std.proofs.Common.{◌≡◌, ℕ, ◌+◌, ◌-◌, ◌*◌, ◌%◌, ◌^◌, ◌<◌, Bool, true, false, cond, List, sym, ap, ◌∙◌, subst, arith}
use Rattle.machine.specs.declared.Cpu.{Cpu}
use Rattle.machine.specs.declared.Guest.{Guest}
use Rattle.machine.specs.declared.Psw.{Psw}
use Rattle.machine.specs.declared.Registers.{Registers}
use Rattle.machine.specs.Psw.{mode31, instruction_address, condition_code, wrap, advanced}
use Rattle.machine.specs.Host.{Host}
use Rattle.address.specs.Touching.{seen}
use Rattle.psws.specs.Psws.{state, psw_at, Wrapped}
use Rattle.psws.proofs.Placed.{code_at, address_at, wrap_at, advanced_at}
use Rattle.sums.specs.Summing.{code_in}
use Rattle.sums.proofs.Codes.{small-code_in}
use Rattle.blocks.specs.Keeping.{Block, Leads}
use Rattle.blocks.proofs.Holding.{leads-seen}
use Rattle.lap.specs.Stepping.{Spot, address_in, psw_in, cut, Ground}

-- an address, cut to the addressing mode, as the code does it
pub cut_is_wrap : (p : Psw) (long : Bool) → long ≡ mode31 (state p) → (a : ℕ) → cut long a ≡ wrap (state p) a
unfolding wrap
cut_is_wrap p long is a = ap (λ b. cond b (a % 2 ^ 31) (a % 2 ^ 24)) is

-- an address in a block that the mode does not cut is not cut either
pub wrapped_in : (p : Psw) (first d : ℕ) → Wrapped p first → first % 2048 ≡ 0 → d < 2048 → wrap (state p) (first + d) ≡ first + d
unfolding wrap
wrapped_in p first d = by_mode (mode31 (state p))
  where
    by_mode : (b : Bool) → cond b (first % 2 ^ 31) (first % 2 ^ 24) ≡ first → first % 2048 ≡ 0 → d < 2048 → cond b ((first + d) % 2 ^ 31) ((first + d) % 2 ^ 24) ≡ first + d
    by_mode true whole aligned inside = omega arith
    by_mode false whole aligned inside = omega arith

-- what leads a state with this PSW and these control registers, leads every such state
pub leads_of : (g : Guest) (h : Host) (psw : Psw) (control : Registers) (c : Cpu) → c.psw ≡ psw → c.control ≡ control → (store : Bool) (b : Block)
    → Leads g h (seen psw control) store b → Leads g h c store b
leads_of g h psw control c same controls store b leads = leads-seen g h c store b (subst (λ s. Leads g h s store b) (λ i. seen (sym same i) (sym controls i)) leads)

module _ (storage keys kept : List ℕ) (k : Spot) (at sum : ℕ) (ground : Ground storage keys kept k at) (c : Cpu) (same : c.psw ≡ psw_in k at sum) where
  own : wrap (state k.psw) (address_in k at) ≡ address_in k at
  own = wrapped_in k.psw k.text.first (at - k.text.place) ground.wrapped ground.text.aligned (omega (arith, ground.whole, ground.from))

  pub here : instruction_address c ≡ address_in k at
  here = address_at k.psw ground.left ground.right (address_in k at) (code_in sum) (small-code_in sum) c same ∙ own

  pub wraps : (a : ℕ) → wrap c a ≡ wrap (state k.psw) a
  wraps = wrap_at k.psw ground.left ground.right (address_in k at) (code_in sum) (small-code_in sum) c same

  pub wrapped_here : wrap c (address_in k at) ≡ address_in k at
  wrapped_here = wraps (address_in k at) ∙ own

  pub coded_here : condition_code c ≡ code_in sum
  coded_here = code_at k.psw ground.left ground.right (address_in k at) (code_in sum) (small-code_in sum) c same

  -- past an instruction of so many halfwords
  pub past_here : (n : ℕ) → psw_at k.psw (address_in k (at + 2 * n)) (code_in sum) ≡ (advanced c n).psw
  past_here n =
      let further : address_in k (at + 2 * n) ≡ address_in k at + 2 * n = omega (arith, ground.from) in
      sym (advanced_at k.psw ground.left ground.right (address_in k at) (code_in sum) (small-code_in sum) c same n
      ∙ ap (λ a. psw_at k.psw (a + 2 * n) (code_in sum)) own ∙ ap (λ a. psw_at k.psw a (code_in sum)) (sym further))
