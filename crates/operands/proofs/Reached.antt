-- What an access to an operand comes to: a failure of a small code, or a place with a key, at the address's offset in a frame.
-- Assumes nothing.
use Rattle.std.specs.Prelude.{Err, Ok}
use Prim.Native.Nat.{ℕ, ◌+◌, ◌/◌, ◌%◌, ◌≤◌, ◌<◌}
use native.Mathlib.Omega.{arith}
use mathlib.Core.Path.{◌≡◌, refl, ap, subst}
use mathlib.Core.Bool.{Bool, true, false, cond}
use mathlib.Core.List.{List}
use borrow.Author.Tests.{leb-false, le-leb}
use lib.Dec.{leb}
use lib.ListN.{length}
use Rattle.machine.specs.declared.Cpu.{Cpu}
use Rattle.machine.specs.declared.Failure.{Failure}
use Rattle.machine.specs.declared.Guest.{Guest}
use Rattle.machine.specs.Refusals.{frames_of}
use Rattle.machine.specs.Psw.{wrap}
use Rattle.machine.specs.Host.{Host, Located, host, in_frame, backing, view}
use Rattle.machine.specs.Addresses.{Access, reached, denied, access}
use Rattle.laws.proofs.Pages.{backing-in_page, backing-in_storage, reached_is_backed, access-in_page}
use Rattle.laws.proofs.Codes.{Coded, CodedWalk, CodedAccess, coded_backing, coded_view, coded_access}
use Rattle.address.specs.Touching.{placed, touched_by, touch_of, Place}
use Rattle.operands.specs.Operands.{in_one_page, in_two_pages, to_page_end, operand_of, Operand, in_pieces}
use Rattle.machine.specs.Walk.{Walk, at_frame}

-- a place, or a failure whose code is a byte
abbrev CodedPlace : Place → Type 0
CodedPlace (Ok p) = Unit {0}
CodedPlace (Err f) = Coded f

module _ (g : Guest) (h : Host) (c : Cpu) (store : Bool) where
  coded_touch : (a : ℕ) → CodedPlace (touch_of g h c store a)
  unfolding touched_by placed
  coded_touch a = of_access (access g (view g h) c store a) (coded_access g (view g h) (coded_view g h) c store a)
    where
      of_page : (a : ℕ) (w : Walk) → CodedWalk w → CodedPlace (placed a w)
      of_page a (Err f) small = small
      of_page a (Ok page) small = tt

      of_access : (x : Access) → CodedAccess x → CodedPlace (touched_by g h x)
      of_access (denied f) small = small
      of_access (reached l) small = of_page l.absolute (backing g h l.absolute) (coded_backing g h l.absolute)

  -- what follows where a byte is found: it is at its offset in the host page behind it
  at_place : {R : Type 0} (a : ℕ) {p : ℕ}
      → ((l : Located) (frame : ℕ) (protected : Bool) → access g (view g h) c store a ≡ reached l → backing g h l.absolute ≡ at_frame frame protected
      → in_frame frame l.absolute ≡ p → l.absolute % 4096 ≡ a % 4096 → R)
      → touch_of g h c store a ≡ Ok p → R
  unfolding touched_by placed
  at_place {R} a {p} onward = by_access (access g (view g h) c store a) refl
    where
      by_access : (x : Access) → access g (view g h) c store a ≡ x → touched_by g h x ≡ Ok p → R
      by_access (denied f) found e = let z : ◌≡◌ {A = ℕ} 0 1 = cc in absurd (omega arith)
      by_access (reached l) found e =
          let (frame, protected, backed, byte, offset) = reached_is_backed g h c store a found in
          let there : in_frame frame l.absolute ≡ p = cc in
          onward l frame protected found backed there offset

  place : (a : ℕ) {p : ℕ} → touch_of g h c store a ≡ Ok p → (p % 4096 ≡ a % 4096) × (p / 4096 < frames_of h.storage)
  place a = at_place a λ l frame protected found backed there offset. (omega arith, omega (arith, backing-in_storage g h l.absolute backed))

  place_further : (a k : ℕ) {p : ℕ} → a % 4096 + k < 4096 → touch_of g h c store a ≡ Ok p → touch_of g h c store (a + k) ≡ Ok (p + k)
  unfolding touched_by placed
  place_further a k {p} inside = at_place a λ l frame protected found backed there offset.
      let next : in_frame frame (l.absolute + k) ≡ p + k = omega arith in
      rw (access-in_page g h c store a k found backed inside, backing-in_page g h l.absolute (l.absolute + k) backed (omega arith)) (ap Ok next)

  module _ (a n : ℕ) where
    abbrev next : ℕ
    next = wrap c (a + to_page_end a)

    -- the operand that is found: its places, and how many bytes stand at the first
    record Parts (p m q : ℕ) : Type 0 where
      first : touch_of g h c store a ≡ Ok p
      second : m < n → touch_of g h c store next ≡ Ok q
      within : n ≤ to_page_end a → (m ≡ n) × (q ≡ 0)

    abbrev Outcome : Operand → Type 0
    Outcome (Err f) = Coded f
    Outcome (Ok at) = Parts at.first at.count at.second

    in_one : (x : Place) → touch_of g h c store a ≡ x → Outcome (in_one_page n x)
    unfolding in_one_page
    in_one (Err f) e = subst CodedPlace e (coded_touch a)
    in_one (Ok p) e = record { first = e; second = λ less. absurd (omega arith); within = λ _. (refl, refl) }

    in_two : (x y : Place) → to_page_end a < n → touch_of g h c store a ≡ x → touch_of g h c store next ≡ y → Outcome (in_two_pages (to_page_end a) x y)
    unfolding in_two_pages
    in_two (Err f) y more e d = subst CodedPlace e (coded_touch a)
    in_two (Ok p) (Err f) more e d = subst CodedPlace d (coded_touch next)
    in_two (Ok p) (Ok q) more e d = record { first = e; second = λ _. d; within = λ fits. absurd (omega arith) }

    outcome : Outcome (operand_of g h c store a n)
    unfolding operand_of
    outcome = by_test (leb n (to_page_end a)) refl
      where
        by_test : (b : Bool) → leb n (to_page_end a) ≡ b
            → Outcome (cond b (in_one_page n (touch_of g h c store a)) (in_two_pages (to_page_end a) (touch_of g h c store a) (touch_of g h c store next)))
        by_test true fits = in_one _ refl
        by_test false crosses = in_two _ _ (leb-false n (to_page_end a) crosses) refl refl

    -- a failure of an access has a program code, of 16 bits
    pub operand_code : {f : Failure} → operand_of g h c store a n ≡ Err f → f.code < 65536
    operand_code {f} e = let small : Coded f = subst Outcome e outcome in omega arith

    parts : {p m q : ℕ} → operand_of g h c store a n ≡ in_pieces p m q → Parts p m q
    parts e = subst Outcome e outcome

    -- the first byte stands at the address's offset
    pub operand_offset : {p m q : ℕ} → operand_of g h c store a n ≡ in_pieces p m q → p % 4096 ≡ a % 4096
    operand_offset e = (place a (parts e).first).0

    pub operand_in_page : {p m q : ℕ} → a % 4096 + n ≤ 4096 → operand_of g h c store a n ≡ in_pieces p m q → (m ≡ n) × (q ≡ 0)
    operand_in_page fits e = (parts e).within (omega arith)

-- each frame that an operand stands in has a key
pub operand_keys : (g : Guest) (d : ℕ) (s k : List ℕ) (c : Cpu) (store : Bool) (a n : ℕ) {p m q : ℕ} → frames_of s ≤ length k
    → operand_of g (host d s k) c store a n ≡ in_pieces p m q → (p / 4096 < length k) × (m < n → q / 4096 < length k)
operand_keys g d s k c store a n each e =
    let found = parts g (host d s k) c store a n e in
    (omega (arith, place g (host d s k) c store a found.first), λ more. omega (arith, place g (host d s k) c store _ (found.second more)))

-- a fetch further on in the page is found in the same frame
pub operand_further : (g : Guest) (h : Host) (c : Cpu) (a n k : ℕ) {p m q : ℕ} → 0 < n → a % 4096 + k + n ≤ 4096
    → operand_of g h c false a n ≡ in_pieces p m q → operand_of g h c false (a + k) n ≡ in_pieces (p + k) n 0
unfolding operand_of in_one_page
operand_further g h c a n k some fits e =
    rw (le-leb n (to_page_end (a + k)) (omega arith), place_further g h c false a k (omega arith) (parts g h c false a n e).first)
