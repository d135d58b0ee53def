-- The worked examples of System/370 guests hold: specs/Examples.
-- Assumes nothing.
use Prim.Native.Nat.{ℕ, ◌/◌, ◌%◌, ◌^◌, ◌≤◌}
use native.Mathlib.Omega.{arith}
use mathlib.Core.Path.{◌≡◌, refl}
use mathlib.Core.Bool.{Bool, true, false, cond, not, ◌&&◌, ◌||◌, false≢true}
use mathlib.Core.List.{List, []}
use borrow.Author.Tests.{eqb-true, ne_eqb, le-ltb, not-true}
use Rattle.machine.specs.declared.Class.TheVariants.{Mandatory, Unassigned}
use Rattle.machine.specs.declared.Cpu.{Cpu}
use Rattle.machine.specs.declared.Guest.{Guest}
use Rattle.machine.specs.declared.Reason.TheVariants.{External, Validity}
use Rattle.machine.specs.Words.{bits}
use Rattle.machine.specs.Record.{system370_mode}
use Rattle.machine.specs.Interval.{falls, residue_after, word_after, turns_negative, request_after}
use Rattle.machine.specs.Entry.{mode_installed, extent_fits, prefix_fits, prefix_short, entry_good}
use Rattle.machine.specs.Psw.{psw_bit, basic_control, extended_control, dat_on, io_enabled, external_enabled, not_installed, malformed, control, wrap, with_psw, with_address, old_psw}
use Rattle.machine.specs.Host.{Cell}
use Rattle.machine.specs.Opcodes.{number_of, has, find, opcode_of}
use Rattle.machine.specs.Outcomes.{intercepted}
use Rattle.machine.specs.Interruptions.{fields_beside}
use Rattle.machine.specs.Units.{stop_requested, unit}
use Rattle.machine.specs.Examples.{System370Examples}

-- a conjunction whose last part fails, fails
last_fails : (a b : Bool) → b ≡ false → (a && b) ≡ false
last_fails true b e = e
last_fails false b e = refl

mode_needs_version_2 : (g : Guest) → system370_mode g.mode ≡ true → g.version ≡ 1 → entry_good g ≡ false
unfolding entry_good mode_installed
mode_needs_version_2 g mode version = rw (eqb-true (bits 8 4 5 g.mode) 1 mode, version)

prefix_of_24_bits : (g : Guest) → system370_mode g.mode ≡ true → 4096 ≤ g.prefix → entry_good g ≡ false
unfolding entry_good prefix_short
prefix_of_24_bits g mode high =
    last_fails (mode_installed g && extent_fits g && prefix_fits g) (prefix_short g) (rw (le-ltb g.prefix 4096 high, mode))

mode_enters_lem : (g : Guest) → g.mode ≡ 4 → g.version ≡ 2 → g.origin ≡ 0 → g.extent ≡ 1 → g.prefix ≡ 0 → entry_good g ≡ true
unfolding entry_good mode_installed extent_fits prefix_fits prefix_short
mode_enters_lem g mode version origin extent prefix = rw (mode, version, origin, extent, prefix)

-- the two parts of a form

both : (a b : Bool) → (a && b) ≡ true → (a ≡ true) × (b ≡ true)
both true b e = (refl, e)
both false b e = absurd (false≢true e)

middle_holds : (a b : Bool) → (a || true || b) ≡ true
middle_holds true b = refl
middle_holds false b = refl

basic_has_no_dat_lem : (c : Cpu) → basic_control c ≡ true → dat_on c ≡ false
basic_has_no_dat_lem c basic = last_fails (psw_bit 5 c) _ (rw basic)

any_channel_lem : (c : Cpu) → basic_control c ≡ true → psw_bit 0 c ≡ true → io_enabled c ≡ true
any_channel_lem c basic channel =
    rw (basic, ne_eqb (bits 32 0 6 c.psw.left) 0 (λ none. omega (arith, eqb-true (c.psw.left / 2 ^ 31 % 2) 1 channel)))

basic_is_well_formed_lem : (c : Cpu) → basic_control c ≡ true → (not_installed c ≡ false) × (malformed c ≡ false)
unfolding not_installed malformed
basic_is_well_formed_lem c basic =
    let form = both c.psw.system370 (not (psw_bit 12 c)) basic in
    let bit12 : psw_bit 12 c ≡ false = not-true (psw_bit 12 c) form.1 in
    (rw (form.0, bit12), rw (form.0, bit12))

extended_dat_lem : (g : Guest) (clock : ℕ) (requested : Bool) (v : ℕ → Cell) (c : Cpu) → stop_requested g ≡ false → extended_control c ≡ true
    → psw_bit 5 c ≡ true
    → unit g clock requested v c ≡ intercepted Validity c
unfolding unit not_installed
extended_dat_lem g clock requested v c go extended dat =
    let form = both c.psw.system370 (psw_bit 12 c) extended in
    rw (go, form.0, form.1, dat, middle_holds (psw_bit 1 c) (psw_bit 16 c))

nothing_beside_lem : (c : Cpu) (fields : List ℕ) → basic_control c ≡ true → fields_beside c fields ≡ []
unfolding fields_beside
nothing_beside_lem c fields basic = rw basic

io_instructions_lem : (first : ℕ) → first / 256 ≡ 0x9c
    → ((opcode_of true first).class ≡ Mandatory) × ((opcode_of false first).class ≡ Unassigned)
unfolding opcode_of number_of find has
io_instructions_lem first is = (rw is, rw is)

stays_set_lem : (w : ℕ) → request_after 0x80 w ≡ 0x80
unfolding request_after
stays_set_lem w = by_turn (turns_negative w)
  where
    by_turn : (b : Bool) → ◌≡◌ {A = ℕ} (cond b 0x80 0x80) 0x80
    by_turn true = refl
    by_turn false = refl

request_makes_code_20 : (g : Guest) (clock : ℕ) (v : ℕ → Cell) (c : Cpu) → stop_requested g ≡ false → basic_control c ≡ true
    → external_enabled c ≡ true
    → control c 0 ≡ 0x80 → unit g clock true v c ≡ intercepted (External 0x0080) c
unfolding unit
request_makes_code_20 g clock v c go basic enabled mask =
    let formed = basic_is_well_formed_lem c basic in
    rw (go, formed.0, formed.1, enabled, mask)

pub system370_examples : System370Examples
unfolding old_psw with_address with_psw wrap opcode_of number_of find has falls residue_after word_after turns_negative request_after
system370_examples = record {
  mode_needs_version2 = mode_needs_version_2;
  mode_enters = mode_enters_lem;
  prefix_of24_bits = prefix_of_24_bits;
  basic_has_no_dat = basic_has_no_dat_lem;
  any_channel = any_channel_lem;
  basic_is_well_formed = basic_is_well_formed_lem;
  extended_dat = extended_dat_lem;
  basic_old_psw = λ c is. rw is;
  nothing_beside = nothing_beside_lem;
  basic_branch = λ c is. (rw is, rw is);
  io_instructions = io_instructions_lem;
  xa_instructions = (refl, refl);
  residue_goes_on = (refl, refl);
  word_wraps = refl;
  turns_at255 = refl;
  not_at256 = refl;
  not_when_negative = refl;
  not_when_it_turns_positive = refl;
  stays_set = stays_set_lem;
  request_makes_code20 = request_makes_code_20;
}
