-- Where the halfwords of a text stand, and the marks of their frames.
-- Assumes nothing.
use Rattle.std.specs.Prelude.{Err}
use Prim.Native.Nat.{ℕ, ◌+◌, ◌*◌, ◌/◌, ◌%◌, ◌≤◌, ◌<◌}
use native.Mathlib.Nat.{add-zero}
use native.Mathlib.Omega.{arith}
use mathlib.Core.Path.{◌≡◌, refl, ap, sym, subst, ◌∙◌}
use mathlib.Core.Bool.{Bool, true, false}
use mathlib.Core.List.{List}
use borrow.Author.Tests.{ltb-true, ltb-false}
use lib.Dec.{ltb}
use lib.ListN.{length, get_or}
use lib.Seq.{set-set, set_out, get_or-set_same}
use Rattle.machine.specs.declared.Cpu.{Cpu}
use Rattle.machine.specs.declared.Failure.{Failure}
use Rattle.machine.specs.declared.Guest.{Guest}
use Rattle.machine.specs.Refusals.{frames_of}
use Rattle.machine.specs.Psw.{wrap, instruction_address}
use Rattle.machine.specs.Host.{Host, host, referenced}
use Rattle.laws.proofs.PageBytes.{wrap_by_mode, referenced_twice}
use Rattle.laws.proofs.Pages.{wrap-in_page}
use Rattle.marks.specs.Marks.{mark_frame}
use Rattle.operands.specs.Operands.{operand_of, Operand, in_pieces}
use Rattle.operands.proofs.Operands.{operand_open}
use Rattle.operands.proofs.Reached.{operand_code, operand_keys, operand_offset, operand_further, operand_in_page}
use Rattle.interruptions.specs.declared.Frames.{Frames}
use Rattle.interruptions.specs.declared.Frames.TheVariants as frames
use Rattle.interruptions.specs.After.{WithKeys, mark_text}
use Rattle.text.specs.Fetching.{Halfword, OnePage, EndsIn, no_frames, one_frame, and_frame}

pub wrap_below : (c : Cpu) (a : ℕ) → wrap c a < 2147483648
wrap_below c a = wrap_by_mode (λ w. w a < 2147483648) c (omega arith) (omega arith)

pub wrap_even : (c : Cpu) (a : ℕ) → a % 2 ≡ 0 → wrap c a % 2 ≡ 0
wrap_even c a even = wrap_by_mode (λ w. w a % 2 ≡ 0) c (omega arith) (omega arith)

-- the first halfword of an instruction at an even address
pub initial : {h : Host} {g : Guest} {c : Cpu} {a : ℕ} {o : Operand} → a ≡ wrap c (instruction_address c) → instruction_address c % 2 ≡ 0
    → o ≡ operand_of g h c false a 2 → Halfword h g c 0 a o
initial {c = c} {a = a} e even sought = record {
  address = e ∙ ap (wrap c) (sym (add-zero (instruction_address c)));
  even = rw e (wrap_even c (instruction_address c) even);
  sought = sought;
}

module _ {h : Host} {g : Guest} {c : Cpu} {n a : ℕ} where
  pub wrapped : {o : Operand} → Halfword h g c n a o → wrap c a ≡ a
  wrapped found = wrap_by_mode (λ w. a ≡ w (instruction_address c + 2 * n) → w a ≡ a) c (omega arith) (omega arith) found.address

  pub below : {o : Operand} → Halfword h g c n a o → a < 2147483648
  below found = wrap_by_mode (λ w. a ≡ w (instruction_address c + 2 * n) → a < 2147483648) c (omega arith) (omega arith) found.address

  pub even_address : {o : Operand} → Halfword h g c n a o → instruction_address c % 2 ≡ 0
  even_address found =
      wrap_by_mode (λ w. a ≡ w (instruction_address c + 2 * n) → instruction_address c % 2 ≡ 0) c (omega (arith, found.even)) (omega (arith, found.even))
      found.address

  -- why it cannot be read
  pub shut : {o : Operand} {f : Failure} → Halfword h g c n a o → o ≡ Err f → Halfword h g c n a (Err f)
  shut found e = subst (Halfword h g c n a) e found

  pub small_code : {f : Failure} → Halfword h g c n a (Err f) → f.code < 65536
  small_code found = operand_code g h c false a 2 (sym found.sought)

  -- a halfword does not cross a page's end
  pub opened : {o : Operand} {p m q : ℕ} → Halfword h g c n a o → o ≡ in_pieces p m q → Halfword h g c n a (in_pieces p 2 0)
  opened {p = p} {m = m} {q = q} found e =
      let (two, none) = operand_in_page g h c false a 2 (omega (arith, found.even)) (sym found.sought ∙ e) in
      record {
        address = found.address;
        even = found.even;
        sought = ap (λ m. in_pieces p m 0) (sym two) ∙ ap (in_pieces p m) (sym none) ∙ sym e ∙ found.sought;
      }

  -- the halfword after it

  pub next : {o o' : Operand} {b : ℕ} → Halfword h g c n a o → b ≡ wrap c (a + 2) → o' ≡ operand_of g h c false b 2 → Halfword h g c (n + 1) b o'
  next {b = b} found e sought = record {
    address =
        e
        ∙ wrap_by_mode (λ w. a ≡ w (instruction_address c + 2 * n) → w (a + 2) ≡ w (instruction_address c + 2 * (n + 1))) c (omega arith) (omega arith)
        found.address;
    even = rw e (wrap_even c (a + 2) (omega (arith, found.even)));
    sought = sought;
  }

  pub next-page : {o : Operand} {b : ℕ} → Halfword h g c n a o → b ≡ wrap c (a + 2) → 4094 ≤ a % 4096 → b % 4096 ≡ 0
  next-page {b = b} found e ends = wrap_by_mode (λ w. b ≡ w (a + 2) → b % 4096 ≡ 0) c (omega (arith, found.even)) (omega (arith, found.even)) e

  module _ {p : ℕ} (found : Halfword h g c n a (in_pieces p 2 0)) where
    pub fits : p + 2 ≤ length h.storage
    fits =
        let (ls, reached, opened) = operand_open g h c false a 2 (wrapped found) (omega arith) (omega arith) (sym found.sought) in
        opened.first

    pub same_offset : p % 4096 ≡ a % 4096
    same_offset = operand_offset g h c false a 2 (sym found.sought)

    -- the next halfword stands beside it in the page
    pub further : a % 4096 < 4094 → Halfword h g c (n + 1) (a + 2) (in_pieces (p + 2) 2 0)
    further inside =
        next found (sym (wrap-in_page c a (a + 2) (wrapped found) (omega arith)))
        (sym (operand_further g h c a 2 2 (omega arith) (omega (arith, found.even)) (sym found.sought)))

-- the keys and the marks of frames

pub keyed : {g : Guest} {d : ℕ} {s k : List ℕ} {c : Cpu} {n a p : ℕ} → frames_of s ≤ length k → Halfword (host d s k) g c n a (in_pieces p 2 0)
    → p / 4096 < length k
keyed {g} {d} {s} {k} {c} {n} {a} each found = (operand_keys g d s k c false a 2 each (sym found.sought)).0

pub one_page : (t : Frames) (a place : ℕ) → EndsIn t a place → 4094 ≤ a % 4096 → OnePage t
one_page frames.None a place ends late = elim ends [ ]
one_page (frames.One first) a place ends late = tt
one_page (frames.Two first second) a place (last, early) late = absurd (omega arith)

pub and_keyed : (k : List ℕ) (t : Frames) (p : ℕ) → WithKeys k t → OnePage t → p / 4096 < length k → WithKeys k (and_frame t p)
and_keyed k frames.None p keys one key = elim one [ ]
and_keyed k (frames.One first) p keys one key = (keys, key)
and_keyed k (frames.Two first second) p keys one key = elim one [ ]

pub ends_in_second : (t : Frames) (p a : ℕ) → a % 4096 ≡ 0 → EndsIn (and_frame t p) a p
ends_in_second frames.None p a start = refl
ends_in_second (frames.One first) p a start = (refl, omega arith)
ends_in_second (frames.Two first second) p a start = (refl, omega arith)

frame_twice : (f : ℕ) (keys : List ℕ) → mark_frame referenced f (mark_frame referenced f keys) ≡ mark_frame referenced f keys
frame_twice f keys = by_length (ltb f (length keys)) refl
  where
    by_length : (b : Bool) → ltb f (length keys) ≡ b → mark_frame referenced f (mark_frame referenced f keys) ≡ mark_frame referenced f keys
    by_length true e = rw (set-set, get_or-set_same keys f (referenced (get_or keys f 0)) 0 (ltb-true _ _ e), referenced_twice)
    by_length false e = let past : length keys ≤ f = ltb-false _ _ e in simp set_out

-- the last frame is marked already
pub marked_once : (t : Frames) (a place : ℕ) → EndsIn t a place → (p : ℕ) → place / 4096 ≡ p / 4096 → (keys : List ℕ)
    → mark_frame referenced (p / 4096) (mark_text t keys) ≡ mark_text t keys
unfolding mark_text
marked_once frames.None a place ends p same keys = elim ends [ ]
marked_once (frames.One first) a place ends p same keys = rw (← same, ← ends) (frame_twice first keys)
marked_once (frames.Two first second) a place (last, early) p same keys = rw (← same, ← last) (frame_twice second (mark_frame referenced first keys))

pub marked_first : (p : ℕ) (keys : List ℕ) → mark_frame referenced (p / 4096) (mark_text no_frames keys) ≡ mark_text (one_frame p) keys
unfolding mark_text
marked_first p keys = refl

-- a second frame is marked after the first
pub marked_next : (t : Frames) (place : ℕ) → OnePage t → (keys : List ℕ)
    → mark_frame referenced (place / 4096) (mark_text t keys) ≡ mark_text (and_frame t place) keys
unfolding mark_text
marked_next frames.None place one keys = elim one [ ]
marked_next (frames.One first) place one keys = refl
marked_next (frames.Two first second) place one keys = elim one [ ]
