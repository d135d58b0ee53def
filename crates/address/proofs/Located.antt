-- What the numbers of a lookup say.
-- Assumes nothing.
use Rattle.std.specs.Prelude.{Err, Ok}
use Prim.Native.Nat.{ℕ, ◌+◌, ◌*◌, ◌/◌, ◌%◌, ◌^◌, ◌≤◌, ◌<◌}
use native.Mathlib.Omega.{arith}
use mathlib.Core.Path.{◌≡◌, refl, sym, ap, ◌∙◌}
use mathlib.Core.Bool.{Bool, true, false, cond}
use mathlib.Core.List.{List, []}
use lib.Dec.{ltb}
use lib.ListN.{length}
use borrow.Author.Tests.{lt-ltb, le-ltb, le-leb, ltb-true, ltb-false, eq-eqb, ne_eqb}
use Rattle.machine.specs.declared.Cpu.{Cpu}
use Rattle.machine.specs.declared.Guest.{Guest}
use Rattle.machine.specs.Words.{word_at}
use Rattle.machine.specs.Entry.{extent_bytes}
use Rattle.machine.specs.Failures.{addressing, host_fault, walk_exception}
use Rattle.machine.specs.Walk.{frame_of, page_protected, Walk, at_frame}
use Rattle.machine.specs.Host.{host, host_virtual, in_frame, host_page, backing, view}
use Rattle.machine.specs.Addresses.{prefixed, guest_entry}
use Rattle.laws.proofs.Pages.{prefixed_keeps_offset, backing-in_storage}
use Rattle.storage.specs.Steps.{inside}
use Rattle.storage.specs.Found.{page_found}
use Rattle.storage.proofs.Found.{found-page, found-stopped}
use Rattle.prefixing.specs.declared.space.Space.{Space}
use Rattle.prefixing.specs.Prefixing.{Sees, exception_number, virtual_in}
use Rattle.address.specs.Touching.{entry_behind}
use Rattle.address.specs.Locating.{fault_number, failure_in, page_in, place_in}
use Rattle.address.proofs.Touches.{guest-entry-behind}

-- a word whose bit 0 is zero has 31 bits
pub frame_whole : (w : ℕ) → w < 2 ^ 32 → (w / 2147483648 % 2 ≡ 1 → ⊥) → w / 4096 % 524288 ≡ w / 4096
frame_whole w small zero =
    let one : w / 2147483648 < 2 = omega arith in
    let none : w / 2147483648 ≡ 1 → ⊥ = λ e. zero (ap (λ n. n % 2) e) in
    let low : w < 2147483648 = omega (arith, one, none) in
    omega (arith, low)

-- from 2^32 on a number says a failure
module _ (a w : ℕ) (high : 2 ^ 32 ≤ w) where
  pub failed_page : page_in a w ≡ Err (failure_in a w)
  unfolding page_in
  failed_page = rw (le-ltb _ _ high)

  pub failed_place : place_in a w ≡ Err (failure_in a w)
  unfolding place_in
  failed_place = rw (le-ltb _ _ high)

pub good-place : (a w : ℕ) → w < 2 ^ 32 → place_in a w ≡ Ok w
unfolding place_in
good-place a w low = rw (lt-ltb _ _ low)

pub good-page : (a w : ℕ) → w < 2 ^ 32 → page_in a w ≡ at_frame (w / 4096) (page_protected w)
unfolding page_in
good-page a w low = rw (lt-ltb _ _ low)

-- with DAT off
pub plain_page : (a : ℕ) → a < 2 ^ 32 → page_in a (a / 4096 * 4096) ≡ at_frame (a / 4096) false
plain_page a small =
    let own : a / 4096 * 4096 / 4096 ≡ a / 4096 = omega arith in
    let even : a / 4096 * 4096 / 512 % 2 ≡ 1 → ⊥ = λ e. omega arith in
    rw (good-page a (a / 4096 * 4096) (omega arith), own, ne_eqb (a / 4096 * 4096 / 512 % 2) 1 even)

pub failure_fault : (a v code : ℕ) → v < 2 ^ 32 → failure_in a (fault_number v code) ≡ host_fault v code
unfolding failure_in
failure_fault a v code small =
    let odd : fault_number v code / 2 ^ 32 % 2 ≡ 1 = omega arith in
    let own-address : fault_number v code % 2 ^ 32 ≡ v = omega arith in
    let own_code : fault_number v code / 2 ^ 33 ≡ code = omega arith in
    rw (eq-eqb _ _ odd, own-address, own_code)

-- a byte that is reached
pub found-place : (g : Guest) (absolute frame v a : ℕ) → v ≡ host_virtual g absolute → frame < 524288 → Ok (in_frame frame absolute) ≡ place_in a (frame * 4096 + v % 4096)
unfolding place_in
found-place g absolute frame v a is few =
    let small : frame * 4096 + v % 4096 < 2 ^ 32 = omega arith in
    let same : in_frame frame absolute ≡ frame * 4096 + v % 4096 = omega arith in
    rw (lt-ltb _ _ small) (ap Ok same)

-- The host page behind a guest absolute address, by its host virtual address as a number and by what was found for that.
module _ (g : Guest) (d : ℕ) (s : List ℕ) (absolute v : ℕ) (space : host_virtual g (extent_bytes g) ≤ 2 ^ 31) (is : v ≡ virtual_in g absolute) where
  by_extent : {R : Type 0} → (absolute < extent_bytes g → v ≡ host_virtual g absolute → R) → (extent_bytes g ≤ absolute → v ≡ exception_number addressing → R) → R
  unfolding virtual_in
  by_extent {R} within past = by_test (ltb absolute (extent_bytes g)) refl is
    where
      by_test : (b : Bool) → ltb absolute (extent_bytes g) ≡ b → v ≡ cond b (host_virtual g absolute) (exception_number addressing) → R
      by_test true e own = within (ltb-true _ _ e) own
      by_test false e own = past (ltb-false _ _ e) own

  pub behind_virtual : v < 2 ^ 32 → v ≡ host_virtual g absolute
  behind_virtual low = by_extent (λ below own. own) (λ past own. absurd (omega arith))

  pub inside_extent : v < 2 ^ 32 → absolute < extent_bytes g
  inside_extent low = by_extent (λ below own. below) (λ past own. absurd (omega arith))

  pub outside_extent : 2 ^ 32 ≤ v → extent_bytes g ≤ absolute
  outside_extent high = by_extent (λ below own. absurd (omega arith)) (λ past own. past)

  pub behind-outside : 2 ^ 32 ≤ v → (a : ℕ) → backing g (host d s []) absolute ≡ Err (failure_in a v)
  unfolding backing failure_in walk_exception
  behind-outside high a = by_extent (λ below own. absurd (omega arith)) (λ past own. rw (le-ltb _ _ past, own))

  behind-inside : v < 2 ^ 32 → backing g (host d s []) absolute ≡ host_page (host d s []) v
  unfolding backing
  behind-inside low = by_extent (λ below own. rw (lt-ltb _ _ below, own)) (λ past own. absurd (omega arith))

  module _ (low : v < 2 ^ 32) (p : ℕ) (found : host_page (host d s []) v ≡ page_found v p) where
    pub behind-found : p < 2 ^ 32 → backing g (host d s []) absolute ≡ at_frame (frame_of p) (page_protected p)
    behind-found small = behind-inside low ∙ found-page d s v p found small

    pub behind-stopped : 2 ^ 32 ≤ p → (a : ℕ) → backing g (host d s []) absolute ≡ Err (failure_in a (fault_number v (p % 2 ^ 32)))
    behind-stopped high a = behind-inside low ∙ found-stopped d s v p found high ∙ ap Err (sym (failure_fault a v _ low))

pub sees_bound : (x : Space) (g : Guest) (c : Cpu) → Sees x g c → host_virtual g (extent_bytes g) ≤ 2 ^ 31
sees_bound x g c sees = omega (arith, x.below)

-- The guest table entry at a guest real address, by the same.
module _ (g : Guest) (d : ℕ) (s k : List ℕ) (real v : ℕ) (aligned : real % 4 ≡ 0) (space : host_virtual g (extent_bytes g) ≤ 2 ^ 31) (is : v ≡ virtual_in g (prefixed g real)) where
  by_backing : {w : Walk} → backing g (host d s []) (prefixed g real) ≡ w → guest_entry g (view g (host d s k)) real ≡ entry_behind s (prefixed g real) w
  by_backing e = guest-entry-behind g d s k real aligned ∙ ap (entry_behind s (prefixed g real)) e

  pub entry-outside : 2 ^ 32 ≤ v → (a : ℕ) → guest_entry g (view g (host d s k)) real ≡ Err (failure_in a v)
  unfolding entry_behind
  entry-outside high a = by_backing (behind-outside g d s _ v space is high a)

  module _ (low : v < 2 ^ 32) (p : ℕ) (found : host_page (host d s []) v ≡ page_found v p) where
    pub entry-stopped : 2 ^ 32 ≤ p → (a : ℕ) → guest_entry g (view g (host d s k)) real ≡ Err (failure_in a (fault_number v (p % 2 ^ 32)))
    unfolding entry_behind
    entry-stopped high a = by_backing (behind-stopped g d s _ v space is low p found high a)

    pub entry_found : p < 2 ^ 32 → (word : ℕ) → word ≡ cond (inside s (in_frame (frame_of p) v)) (word_at s (in_frame (frame_of p) v)) v
        → guest_entry g (view g (host d s k)) real ≡ Ok word
    unfolding entry_behind
    entry_found small word read =
        let page = behind-found g d s _ v space is low p found small in
        let whole = backing-in_storage g (host d s []) (prefixed g real) page in
        let own = behind_virtual g d s (prefixed g real) v space is low in
        let kept = prefixed_keeps_offset g real in
        let same : in_frame (frame_of p) (prefixed g real) ≡ in_frame (frame_of p) v = omega arith in
        let there : in_frame (frame_of p) v + 4 ≤ length s = omega arith in
        by_backing page ∙ ap Ok (ap (word_at s) same ∙ sym (read ∙ rw (le-leb _ _ there)))
