-- What blocks that are kept depend on: the frames that the guard names, and the bits of the CPU that guard accesses.
-- Assumes nothing.
use Rattle.std.specs.Prelude.{Err, Ok}
use Prim.Native.Nat.{ℕ, ◌+◌, ◌*◌, ◌/◌, ◌%◌, ◌≤◌, ◌<◌}
use native.Mathlib.Omega.{arith}
use mathlib.Core.Path.{◌≡◌, refl, sym, ap, ◌∙◌, subst}
use mathlib.Core.Bool.{Bool, true, false, cond, ◌&&◌}
use mathlib.Core.List.{List}
use mathlib.Core.Logic.{◌⊎◌, inl, inr}
use borrow.Author.Tests.{le-ltb, ltb-true, ltb-false}
use lib.Dec.{ltb}
use lib.ListN.{length, get_or}
use lib.Seq.{sets, length-sets, set-get_or}
use Rattle.machine.specs.declared.Cpu.{Cpu}
use Rattle.machine.specs.declared.Failure.{Failure}
use Rattle.machine.specs.declared.Guest.{Guest}
use Rattle.machine.specs.Refusals.{frames_of}
use Rattle.machine.specs.Psw.{dat_on, access_key, control}
use Rattle.machine.specs.Failures.{protection, exception_of}
use Rattle.machine.specs.Host.{Host, host, in_frame, host_page, backing, view}
use Rattle.machine.specs.Addresses.{prefixed, format_good, real_page, key_protects, low_protected}
use Rattle.machine.proofs.Laws.{get_d_sets_beside}
use Rattle.laws.proofs.Pages.{real_page_of-page, prefixed_of_page, prefixed_keeps_offset, backing-in_page, backing-in_storage}
use Rattle.address.specs.Touching.{seen, Backed, settled, guest_protects, touched, touched_by, touch_of, Place}
use Rattle.address.proofs.Seen.{access-seen}
use Rattle.address.proofs.Touches.{touched_is, backed_backing}
use Rattle.marks.specs.Marks.{mark_frame}
use Rattle.guard.specs.Guarding.{Names, Alike}
use Rattle.blocks.specs.Keeping.{Block, fetch_block, store_block, Leads, Keeps, Holds, Stands, Inside, Marks, Free, AccessAlike}
use Rattle.machine.specs.Walk.{Walk}

-- Storages that are alike.

pub alike_same : (guard s : List ℕ) → Alike guard s s
alike_same guard s = record { long = refl; same = λ p named. refl }

pub alike_trans : (guard s t u : List ℕ) → Alike guard s t → Alike guard t u → Alike guard s u
alike_trans guard s t u first second =
    record { long = second.long ∙ first.long; same = λ p named. second.same p named ∙ first.same p named }

pub holds_now : (guard : List ℕ) (g : Guest) (d : ℕ) (s k : List ℕ) (c : Cpu) (kept : List ℕ) → Holds guard g (host d s k) c kept → Keeps g (host d s k) c kept
holds_now guard g d s k c kept holds = holds s (alike_same guard s)

pub holds_alike : (guard : List ℕ) (g : Guest) (d : ℕ) (s t k : List ℕ) (c : Cpu) (kept : List ℕ) → Alike guard s t → Holds guard g (host d s k) c kept
    → Holds guard g (host d t k) c kept
holds_alike guard g d s t k c kept alike holds u like = holds u (alike_trans guard s t u alike like)

-- a store inside a block whose frame the guard does not name
pub kept_free : (guard s bytes : List ℕ) (b : Block) → get_or guard (b.place / 4096 % 64) 0 ≡ 0 → Stands s b → (d : ℕ) → d + length bytes ≤ 2048
    → Alike guard s (sets s (b.place + d) bytes)
kept_free guard s bytes b clear stands d fits =
    record { long = length-sets s (b.place + d) bytes; same = λ p named. get_d_sets_beside s (b.place + d) bytes p 0 (beside p named) }
  where
    beside : (p : ℕ) → Names guard (p / 4096) → (p < b.place + d) ⊎ (b.place + d + length bytes ≤ p)
    beside p named = by_tests (ltb p (b.place + d)) (ltb p (b.place + d + length bytes)) refl refl
      where
        by_tests : (x y : Bool) → ltb p (b.place + d) ≡ x → ltb p (b.place + d + length bytes) ≡ y
            → (p < b.place + d) ⊎ (b.place + d + length bytes ≤ p)
        by_tests true y below _ = inl (ltb-true _ _ below)
        by_tests false false _ behind = inr (ltb-false _ _ behind)
        by_tests false true above before =
            let low : b.place + d ≤ p = ltb-false _ _ above in
            let high : p < b.place + d + length bytes = ltb-true _ _ before in
            let same : b.place / 4096 ≡ p / 4096 = omega (arith, stands.placed) in
            let none : get_or guard (p / 4096 % 64) 0 ≡ 0 = subst (λ frame. get_or guard (frame % 64) 0 ≡ 0) same clear in
            absurd (omega (arith, named))

-- a mark that the key has
pub mark_same : (mark : ℕ → ℕ) (frame : ℕ) (keys : List ℕ) → mark (get_or keys frame 0) ≡ get_or keys frame 0 → mark_frame mark frame keys ≡ keys
mark_same mark frame keys has = rw has (set-get_or keys frame 0)

-- Accesses that are the same.

module _ (g : Guest) (h : Host) (c later : Cpu) where
  -- the accesses of the second CPU are those of the first
  abbrev Same : Type 0
  Same = (store : Bool) (a : ℕ) → touch_of g h later store a ≡ touch_of g h c store a

  leads_same : Same → (store : Bool) (b : Block) → Leads g h c store b → Leads g h later store b
  leads_same same store b leads d inside small low = same store (b.first + d) ∙ leads d inside small low

  keeps_same : Same → (kept : List ℕ) → Keeps g h c kept → Keeps g h later kept
  keeps_same same kept keeps =
      record {
        fetch = λ i few. leads_same same false (fetch_block kept i) (keeps.fetch i few);
        store = λ i few. leads_same same true (store_block kept i) (keeps.store i few);
      }

  -- States whose accesses are guarded alike.

  touch_state : AccessAlike c.psw later.psw → control later 0 ≡ control c 0 → control later 1 ≡ control c 1 → Same
  unfolding real_page format_good low_protected touched settled key_protects
  touch_state accesses zero one store a =
      touched_is g h later store a
      ∙ ap (λ low. cond (store && low) (Err (exception_of protection)) (touched g h later store a (real_page g (view g h) later a))) low
      ∙ ap (cond (store && low_protected c a) (Err (exception_of protection))) (ap (touched g h later store a) pages ∙ in_page_lem (real_page g (view g h) c a))
      ∙ sym (touched_is g h c store a)
    where
      dat : dat_on later ≡ dat_on c
      dat =
          let same : later.psw.left / 67108864 ≡ c.psw.left / 67108864 = omega (arith, accesses.left) in
          let form : later.psw.left / 524288 ≡ c.psw.left / 524288 = omega (arith, accesses.left) in
          rw (same, form, accesses.system370)

      key : access_key later ≡ access_key c
      key = omega (arith, accesses.left)

      low : low_protected later a ≡ low_protected c a
      low = rw zero

      pages : real_page g (view g h) later a ≡ real_page g (view g h) c a
      pages = rw (zero, one, dat)

      by_host_lem : (protected : Bool) (at : ℕ) (w : Walk)
          → settled g h.keys store (guest_protects later store protected) at w ≡ settled g h.keys store (guest_protects c store protected) at w
      by_host_lem protected at (Err f) = refl
      by_host_lem protected at (Ok page) = rw key

      in_page_lem : (w : Walk) → touched g h later store a w ≡ touched g h c store a w
      in_page_lem (Err f) = refl
      in_page_lem (Ok page) = let at = prefixed g (page.frame * 4096 + a % 4096) in by_host_lem page.protected at (backing g h at)

  pub leads-state : (store : Bool) (b : Block) → Leads g h c store b → AccessAlike c.psw later.psw → later.control ≡ c.control → Leads g h later store b
  leads-state store b leads accesses controls =
      leads_same (touch_state accesses (ap (λ k. get_or k.words 0 0) controls) (ap (λ k. get_or k.words 1 0) controls)) store b leads

  keeps_controls : (kept : List ℕ) → Keeps g h c kept → AccessAlike c.psw later.psw → control later 0 ≡ control c 0 → control later 1 ≡ control c 1 → Keeps g h later kept
  keeps_controls kept keeps accesses zero one = keeps_same (touch_state accesses zero one) kept keeps

  pub keeps_state : (kept : List ℕ) → Keeps g h c kept → AccessAlike c.psw later.psw → later.control ≡ c.control → Keeps g h later kept
  keeps_state kept keeps accesses controls = keeps_controls kept keeps accesses (ap (λ k. get_or k.words 0 0) controls) (ap (λ k. get_or k.words 1 0) controls)

-- of the control registers, registers 0 and 1 guard accesses
pub holds_controls : (guard : List ℕ) (g : Guest) (h : Host) (c later : Cpu) (kept : List ℕ) → AccessAlike c.psw later.psw
    → control later 0 ≡ control c 0 → control later 1 ≡ control c 1 → Holds guard g h c kept → Holds guard g h later kept
holds_controls guard g h c later kept accesses zero one holds t alike =
    keeps_controls g (host h.designation t h.keys) c later kept (holds t alike) accesses zero one

pub holds_state : (guard : List ℕ) (g : Guest) (h : Host) (c later : Cpu) (kept : List ℕ) → AccessAlike c.psw later.psw → later.control ≡ c.control
    → Holds guard g h c kept → Holds guard g h later kept
holds_state guard g h c later kept accesses controls =
    holds_controls guard g h c later kept accesses (ap (λ k. get_or k.words 0 0) controls) (ap (λ k. get_or k.words 1 0) controls)

-- Addressing looks at PSW and control registers alone.

module _ (g : Guest) (h : Host) (c : Cpu) where
  touch_seen : Same g h (seen c.psw c.control) c
  touch_seen store a = ap (touched_by g h) (access-seen g (view g h) c store a)

  pub leads-seen : (store : Bool) (b : Block) → Leads g h (seen c.psw c.control) store b → Leads g h c store b
  leads-seen = leads_same g h (seen c.psw c.control) c touch_seen

  pub seen-leads : (store : Bool) (b : Block) → Leads g h c store b → Leads g h (seen c.psw c.control) store b
  seen-leads = leads_same g h c (seen c.psw c.control) λ store a. sym (touch_seen store a)

  pub keeps_seen : (kept : List ℕ) → Keeps g h (seen c.psw c.control) kept → Keeps g h c kept
  keeps_seen = keeps_same g h (seen c.psw c.control) c touch_seen

  pub seen_keeps : (kept : List ℕ) → Keeps g h c kept → Keeps g h (seen c.psw c.control) kept
  seen_keeps = keeps_same g h c (seen c.psw c.control) λ store a. sym (touch_seen store a)

-- A block's bytes lead to one place, which stands in storage.

-- a place is no denial
no_place : {R : Type 0} {f : Failure} {p : ℕ} → Err f ≡ Ok p → R
no_place e = let z : ◌≡◌ {A = ℕ} 0 1 = cc in absurd (omega arith)

-- a test that a place has passed
passed : {R : Type 0} {p : ℕ} (b : Bool) (f : Failure) {x : Place} → (b ≡ false → x ≡ Ok p → R) → cond b (Err f) x ≡ Ok p → R
passed true f later e = no_place e
passed false f later e = later refl e

-- the place is what is found behind both tests
reached : (x y : Bool) (f i : Failure) (q : ℕ) {p : ℕ} → cond x (Err f) (cond y (Err i) (Ok q)) ≡ Ok p → q ≡ p
reached true y f i q e = no_place e
reached false true f i q e = no_place e
reached false false f i q e = cc

module _ (g : Guest) (h : Host) (c : Cpu) (store : Bool) where
  -- the last tests that a place has passed, for another byte of the page
  settled-in_page : (protects : ℕ → Bool) (x y p : ℕ) → x / 4096 ≡ y / 4096 → settled g h.keys store protects x (backing g h x) ≡ Ok p
      → settled g h.keys store protects y (backing g h y) ≡ Ok (p / 4096 * 4096 + y % 4096)
  unfolding settled
  settled-in_page protects x y p same = by_walk (backing g h x) refl
    where
      by_walk : (w : Walk) → backing g h x ≡ w → settled g h.keys store protects x w ≡ Ok p
          → settled g h.keys store protects y (backing g h y) ≡ Ok (p / 4096 * 4096 + y % 4096)
      by_walk (Err f) backed = no_place
      by_walk (Ok page) backed = passed _ _ λ (allowed : protects (get_or h.keys page.frame 0) ≡ false).
          passed _ _ λ (writable : (store && page.protected) ≡ false) (e : Ok (in_frame page.frame x) ≡ Ok p).
          let there : in_frame page.frame x ≡ p = cc in
          let other : in_frame page.frame y ≡ p / 4096 * 4096 + y % 4096 = omega arith in
          rw (backing-in_page g h x y backed same, allowed, writable) (ap Ok other)

  touched-in_page : (w : Walk) (a b p : ℕ) → touched g h c store a w ≡ Ok p → touched g h c store b w ≡ Ok (p / 4096 * 4096 + b % 4096)
  unfolding touched
  touched-in_page (Err f) a b p e = no_place e
  touched-in_page (Ok page) a b p e =
      let first = prefixed_of_page g (page.frame * 4096) (a % 4096) (omega arith) in
      let other = prefixed_of_page g (page.frame * 4096) (b % 4096) (omega arith) in
      let start = prefixed_keeps_offset g (page.frame * 4096) in
      let offset : prefixed g (page.frame * 4096 + b % 4096) % 4096 ≡ b % 4096 = omega arith in
      settled-in_page _ (prefixed g (page.frame * 4096 + a % 4096)) (prefixed g (page.frame * 4096 + b % 4096)) p (omega arith) e
      ∙ ap (λ x. Ok (p / 4096 * 4096 + x)) offset

  touch_clear : (a p : ℕ) → touch_of g h c store a ≡ Ok p → touched g h c store a (real_page g (view g h) c a) ≡ Ok p
  touch_clear a p found =
      passed (store && low_protected c a) (exception_of protection) (λ _ e. e) (sym (touched_is g h c store a) ∙ found)

  -- place and address are the same byte of a page
  same_byte : (a p : ℕ) → touch_of g h c store a ≡ Ok p → p % 4096 ≡ a % 4096
  same_byte a p found =
      let clear = touch_clear a p found in
      let again : Ok (p / 4096 * 4096 + a % 4096) ≡ Ok p = sym (touched-in_page (real_page g (view g h) c a) a a p clear) ∙ clear in
      let whole : p / 4096 * 4096 + a % 4096 ≡ p = cc in
      omega arith

  pub leads_block : (a p : ℕ) → touch_of g h c store a ≡ Ok p → (b : Block) → b.first ≡ a / 2048 * 2048 → b.place ≡ p / 2048 * 2048 → Leads g h c store b
  unfolding low_protected
  leads_block a p found b first place d inside small low =
      let offset : p % 4096 ≡ a % 4096 = same_byte a p found in
      let page : (b.first + d) / 4096 ≡ a / 4096 = omega arith in
      let there : p / 4096 * 4096 + (b.first + d) % 4096 ≡ b.place + d = omega arith in
      touched_is g h c store (b.first + d)
      ∙ rw (clear store low, real_page_of-page g (view g h) c (b.first + d) a page, ← there)
      (touched-in_page (real_page g (view g h) c a) a (b.first + d) p (touch_clear a p found))
    where
      clear : (store : Bool) → (store ≡ true → 512 ≤ b.first + d) → (store && low_protected c (b.first + d)) ≡ false
      clear false low = refl
      clear true low = rw (le-ltb (b.first + d) 512 (low refl))

pub touch_stands : (g : Guest) (d : ℕ) (s k : List ℕ) (c : Cpu) (store : Bool) (a p : ℕ) → frames_of s ≤ length k → touch_of g (host d s k) c store a ≡ Ok p
    → (b : Block) → b.first ≡ a / 2048 * 2048 → b.place ≡ p / 2048 * 2048 → Stands s b × (p / 4096 < length k)
unfolding touched settled backing host_page
touch_stands g d s k c store a p each found b first place =
    in_real (real_page g (view g (host d s k)) c a) (touch_clear g (host d s k) c store a p found)
  where
    Good : Type 0
    Good = Stands s b × (p / 4096 < length k)

    by_host_lem : (protects : ℕ → Bool) (x : ℕ) (w : Walk) → backing g (host d s k) x ≡ w → settled g k store protects x w ≡ Ok p → Good
    by_host_lem protects x (Err f) backed e = no_place e
    by_host_lem protects x (Ok page) backed e =
        let there : in_frame page.frame x ≡ p = reached (protects (get_or k page.frame 0)) (store && page.protected) _ _ _ e in
        let known : Backed g k x (Ok page) = subst (Backed g k x) backed (backed_backing g d s k x each) in
        let whole = backing-in_storage g (host d s k) x backed in
        (record { aligned = omega arith; placed = omega arith; inside = omega arith; small = omega (arith, known.1) }, omega (arith, known.0))

    in_real : (w : Walk) → touched g (host d s k) c store a w ≡ Ok p → Good
    in_real (Err f) e = no_place e
    in_real (Ok page) e =
        let at = prefixed g (page.frame * 4096 + a % 4096) in
        by_host_lem (guest_protects c store page.protected) at (backing g (host d s k) at) refl e

-- where blocks stand goes by the length of storage
module _ (s t : List ℕ) (long : length t ≡ length s) where
  pub stands_on : (b : Block) → Stands s b → Stands t b
  stands_on b stands =
      record { aligned = stands.aligned; placed = stands.placed; inside = rw long stands.inside; small = stands.small }

  pub inside_on : (kept : List ℕ) → Inside s kept → Inside t kept
  inside_on kept inside =
      record {
        fetch = λ i few holding. stands_on (fetch_block kept i) (inside.fetch i few holding);
        store = λ i few holding. stands_on (store_block kept i) (inside.store i few holding);
      }

-- A table that keeps no block.

module _ (kept : List ℕ) (none : (i : ℕ) → i < 32 → get_or kept i 0 ≡ 2147483648) where
  none_leads : (g : Guest) (h : Host) (c : Cpu) (store : Bool) (b : Block) → b.first ≡ 2147483648 → Leads g h c store b
  none_leads g h c store b is d inside small low = absurd (omega (arith, small))

  pub none_holds : (guard : List ℕ) (g : Guest) (h : Host) (c : Cpu) → Holds guard g h c kept
  none_holds guard g h c t alike =
      record {
        fetch = λ i few. none_leads g _ c false (fetch_block kept i) (none i (omega arith));
        store = λ i few. none_leads g _ c true (store_block kept i) (none (16 + i) (omega arith));
      }

  none_held : {R : Type 0} (i : ℕ) → i < 32 → get_or kept i 0 < 2147483648 → R
  none_held i few holding = absurd (omega (arith, none i few))

  pub none_inside : (s : List ℕ) → Inside s kept
  none_inside s =
      record { fetch = λ i few holding. none_held i (omega arith) holding; store = λ i few holding. none_held (16 + i) (omega arith) holding }

  pub none_marks : (keys : List ℕ) → Marks keys kept
  none_marks keys =
      record { fetch = λ i few holding. none_held i (omega arith) holding; store = λ i few holding. none_held (16 + i) (omega arith) holding }

  pub none_free : (guard : List ℕ) → Free guard kept
  none_free guard i few holding = none_held (16 + i) (omega arith) holding
