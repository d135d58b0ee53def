-- at_frame by page: from what is found for one address of a page to what is found for the others.
use Rattle.std.specs.Prelude.{Err, Ok}
use Prim.Native.Nat.{ℕ, zero, suc, ◌+◌, ◌*◌, ◌/◌, ◌%◌, ◌≤◌, ◌<◌}
use native.Mathlib.Nat.{add-zero, add_assoc}
use native.Mathlib.Omega.{arith}
use mathlib.Core.Path.{◌≡◌, refl, sym, ap, ◌∙◌, subst, fun_ext}
use mathlib.Core.Bool.{Bool, true, false, cond, ◌&&◌, ◌||◌, and-false}
use mathlib.Core.List.{List}
use borrow.Author.Tests.{ltb-true, lt-ltb}
use lib.Dec.{ltb, eqb}
use lib.ListN.{length, get_or}
use Rattle.machine.specs.declared.Cpu.{Cpu}
use Rattle.machine.specs.declared.Guest.{Guest}
use Rattle.machine.specs.declared.Failure.{Failure}
use Rattle.machine.specs.Words.{byte_at}
use Rattle.machine.specs.Psw.{wrap, control}
use Rattle.machine.specs.Entry.{extent_bytes}
use Rattle.machine.specs.Refusals.{frames_of}
use Rattle.machine.specs.Failures.{host_fault, walk_exception}
use Rattle.machine.specs.Frames.{ValidPage, page_of}
use Rattle.machine.specs.Walk.{walk, frame_of, page_protected, Walk, at_frame}
use Rattle.machine.specs.Host.{Host, Cell, Located, host_virtual, host_entry, in_storage, host_page, backing, in_frame, cell_of, view}
use Rattle.machine.specs.Addresses.{prefixed, guest_entry, real_page, Access, reached, denied, settle, key_protects, in_page, low_protected, access, all, stopped, and_then, accesses, span}
use Rattle.machine.proofs.Backing.{same_frame, walk_by_page, no_failure, tested, ends_at_page, finds_page, page-in_storage}
use Rattle.laws.proofs.PageBytes.{bytes_from, wrap_by_mode}

exception_of-page : (a b : ℕ) → a / 4096 ≡ b / 4096 → walk_exception a ≡ walk_exception b
unfolding walk_exception
exception_of-page a b e = fun_ext λ code. rw e

-- failures too: those that give an address give the page's
pub real_page_of-page : (g : Guest) (v : ℕ → Cell) (c : Cpu) (a b : ℕ) → a / 4096 ≡ b / 4096 → real_page g v c a ≡ real_page g v c b
unfolding real_page
real_page_of-page g v c a b e =
    rw (walk_by_page (guest_entry g v) (walk_exception a) (control c 1) a, walk_by_page (guest_entry g v) (walk_exception b) (control c 1) b, exception_of-page a b e, e)

pub prefixed_of_page : (g : Guest) (a k : ℕ) → a % 4096 + k < 4096 → prefixed g (a + k) ≡ prefixed g a + k
unfolding prefixed
prefixed_of_page g a k inside =
    let same : (a + k) / 4096 ≡ a / 4096 = omega arith in
    rw same (go (eqb (a / 4096) 0) (eqb (a / 4096) g.prefix))
  where
    go : (lowest own : Bool)
        → cond lowest (g.prefix * 4096 + (a + k) % 4096) (cond own ((a + k) % 4096) (a + k))
        ≡ cond lowest (g.prefix * 4096 + a % 4096) (cond own (a % 4096) a) + k
    go true own = omega arith
    go false true = omega arith
    go false false = refl

pub prefixed_keeps_offset : (g : Guest) (a : ℕ) → prefixed g a % 4096 ≡ a % 4096
unfolding prefixed
prefixed_keeps_offset g a = go (eqb (a / 4096) 0) (eqb (a / 4096) g.prefix)
  where
    go : (lowest own : Bool) → cond lowest (g.prefix * 4096 + a % 4096) (cond own (a % 4096) a) % 4096 ≡ a % 4096
    go true own = omega arith
    go false true = omega arith
    go false false = refl

walk-in_page : (d : ℕ) (s : List ℕ) (v w : ℕ) {f : ℕ} {p : Bool} → walk (host_entry s v) (host_fault v) d v ≡ at_frame f p → v / 4096 ≡ w / 4096
    → walk (host_entry s w) (host_fault w) d w ≡ at_frame f p
walk-in_page d s v w e same =
    let valid : ValidPage d s (v / 4096) = (ends_at_page d s v e).0 in
    finds_page d s w (subst (ValidPage d s) same valid)
    ∙ ap (λ page. at_frame (frame_of (page_of d s page)) (page_protected (page_of d s page))) (sym same)
    ∙ sym (finds_page d s v valid)
    ∙ e

pub wrap-in_page : (c : Cpu) (a b : ℕ) → wrap c a ≡ a → a / 4096 ≡ b / 4096 → wrap c b ≡ b
wrap-in_page c a b = wrap_by_mode (λ w. w a ≡ a → a / 4096 ≡ b / 4096 → w b ≡ b) c (omega arith) (omega arith)

-- the first byte is denied
pub accesses-denied : (one : ℕ → Access) (c : Cpu) (a n : ℕ) {f : Failure} → one a ≡ denied f → wrap c a ≡ a → 0 < n → accesses one (span c a n) ≡ stopped f
unfolding accesses span and_then
accesses-denied one c a zero e wrapped some = absurd (omega arith)
accesses-denied one c a (suc n) e wrapped some = rw (wrapped, e)

-- a byte that is reached is not denied
no_denial : {R : Type 0} {f : Failure} {l : Located} → denied f ≡ reached l → R
no_denial e = let z : ◌≡◌ {A = ℕ} 0 1 = cc in absurd (omega arith)

-- a test that a reached byte has passed
passed : {R : Type 0} {l : Located} (b : Bool) (f : Failure) {x : Access} → (b ≡ false → x ≡ reached l → R) → cond b (denied f) x ≡ reached l → R
passed true f later e = no_denial e
passed false f later e = later refl e

module _ (g : Guest) (h : Host) where
  pub backing-in_page : (a b : ℕ) {f : ℕ} {p : Bool} → backing g h a ≡ at_frame f p → a / 4096 ≡ b / 4096 → backing g h b ≡ at_frame f p
  unfolding backing host_page in_storage
  backing-in_page a b {f} {p} e same =
      tested (ltb a (extent_bytes g))
      (λ below e.
      let page = page-in_storage h.storage (host_virtual g a) _ e in
      simp (
        lt-ltb b (extent_bytes g) (omega (arith, ltb-true)),
        walk-in_page h.designation h.storage (host_virtual g a) (host_virtual g b) page.0 (omega arith),
        lt-ltb f (frames_of h.storage) page.1,
      ))
      (λ _. no_failure)
      e

  pub backing-in_storage : (a : ℕ) {f : ℕ} {p : Bool} → backing g h a ≡ at_frame f p → f * 4096 + 4096 ≤ length h.storage
  unfolding backing host_page
  backing-in_storage a e =
      tested (ltb a (extent_bytes g))
      (λ below e. let page = page-in_storage h.storage (host_virtual g a) _ e in omega arith)
      (λ _. no_failure)
      e

  module _ (c : Cpu) (store : Bool) where
    -- a byte that is reached: its real page, its host page, and the tests that it passes
    record Route (a : ℕ) (l : Located) : Type 0 where
      real : ℕ
      real_protected : Bool
      frame : ℕ
      protected : Bool
      high : (store && low_protected c a) ≡ false
      mapped : real_page g (view g h) c a ≡ at_frame real real_protected
      placed : l.absolute ≡ prefixed g (real * 4096 + a % 4096)
      backed : backing g h l.absolute ≡ at_frame frame protected
      allowed : ((store && real_protected) || key_protects c store (get_or h.keys frame 0)) ≡ false
      writable : (store && protected) ≡ false
      found : l.byte ≡ byte_at h.storage (in_frame frame l.absolute)

    route : (a : ℕ) {l : Located} → access g (view g h) c store a ≡ reached l → Route a l
    unfolding access in_page settle view cell_of
    route a {l} = passed (store && low_protected c a) _ λ high. in_real_lem high (real_page g (view g h) c a) refl
      where
        in_real_lem : (store && low_protected c a) ≡ false → (w : Walk) → real_page g (view g h) c a ≡ w → in_page g (view g h) c store a w ≡ reached l → Route a l
        in_real_lem high (Err x) mapped = no_denial
        in_real_lem high (Ok page) mapped = in_host (backing g h absolute) refl
          where
            absolute : ℕ
            absolute = prefixed g (page.frame * 4096 + a % 4096)

            in_host : (w : Walk) → backing g h absolute ≡ w
                → settle g store (λ key. (store && page.protected) || key_protects c store key) absolute (cell_of h absolute w) ≡ reached l → Route a l
            in_host (Err x) backed = no_denial
            in_host (Ok behind) backed = passed _ _ λ allowed. passed _ _ λ writable e.
                let same : record { absolute = absolute; byte = byte_at h.storage (in_frame behind.frame absolute) } ≡ l = cc in
                let placed : l.absolute ≡ absolute = ap (λ l. l.absolute) (sym same) in
                record {
                  real = page.frame;
                  real_protected = page.protected;
                  frame = behind.frame;
                  protected = behind.protected;
                  high = high;
                  mapped = mapped;
                  placed = placed;
                  backed = rw placed backed;
                  allowed = allowed;
                  writable = writable;
                  found = rw placed (ap (λ l. l.byte) (sym same));
                }

    arrives : (a : ℕ) {l : Located} → Route a l → access g (view g h) c store a ≡ reached l
    unfolding access in_page settle view cell_of
    arrives a {l} r = simp (r.high, r.mapped, ← r.placed, r.backed, r.allowed, r.writable, ← r.found)

    route_keeps_offset : (a : ℕ) {l : Located} → Route a l → l.absolute % 4096 ≡ a % 4096
    route_keeps_offset a r = omega (arith, prefixed_keeps_offset g (r.real * 4096 + a % 4096))

    -- an address at or above one that low-address protection does not deny
    still_high : (a b : ℕ) → a ≤ b → (store && low_protected c a) ≡ false → (store && low_protected c b) ≡ false
    unfolding low_protected
    still_high a b above high = go (ltb b 512) refl
      where
        go : (t : Bool) → ltb b 512 ≡ t → (store && low_protected c b) ≡ false
        go true e = rw e (rw (lt-ltb a 512 (omega (arith, ltb-true))) at high)
        go false e = rw e (and-false store)

    route_in_page : (a k : ℕ) {l : Located} (r : Route a l) → a % 4096 + k < 4096
        → Route (a + k) (record { absolute = l.absolute + k; byte = byte_at h.storage (in_frame r.frame l.absolute + k) })
    route_in_page a k {l} r inside =
        let offset = route_keeps_offset a r in
        let real : r.real * 4096 + (a + k) % 4096 ≡ r.real * 4096 + a % 4096 + k = omega arith in
        let host : in_frame r.frame l.absolute + k ≡ in_frame r.frame (l.absolute + k) = omega arith in
        record {
          real = r.real;
          real_protected = r.real_protected;
          frame = r.frame;
          protected = r.protected;
          high = still_high a (a + k) (omega arith) r.high;
          mapped = real_page_of-page g (view g h) c (a + k) a (omega arith) ∙ r.mapped;
          placed = rw (real, prefixed_of_page g (r.real * 4096 + a % 4096) k (omega arith), r.placed);
          backed = backing-in_page l.absolute (l.absolute + k) r.backed (omega arith);
          allowed = r.allowed;
          writable = r.writable;
          found = ap (byte_at h.storage) host;
        }

    pub reached_is_backed : (a : ℕ) {l : Located} → access g (view g h) c store a ≡ reached l
        → (f : ℕ) × (p : Bool) × (backing g h l.absolute ≡ at_frame f p) × (l.byte ≡ byte_at h.storage (in_frame f l.absolute)) × (l.absolute % 4096 ≡ a % 4096)
    reached_is_backed a e =
        let r = route a e in
        (r.frame, r.protected, r.backed, r.found, route_keeps_offset a r)

    -- `k` bytes on in the page: host absolute addresses go up as guest ones do
    pub access-in_page : (a k : ℕ) {l : Located} {f : ℕ} {p : Bool} → access g (view g h) c store a ≡ reached l → backing g h l.absolute ≡ at_frame f p
        → a % 4096 + k < 4096
        → access g (view g h) c store (a + k) ≡ reached (record { absolute = l.absolute + k; byte = byte_at h.storage (in_frame f l.absolute + k) })
    access-in_page a k {l} {f} e page inside =
        let r = route a e in
        let same : f ≡ r.frame = same_frame (sym page ∙ r.backed) in
        rw same (arrives (a + k) (route_in_page a k r inside))

    -- bytes that all lie in the page of the first
    pub accesses-in_page : (a n : ℕ) {l : Located} {f : ℕ} {p : Bool} → access g (view g h) c store a ≡ reached l → backing g h l.absolute ≡ at_frame f p
        → wrap c a ≡ a → a % 4096 + n ≤ 4096
        → accesses (access g (view g h) c store) (span c a n) ≡ all (bytes_from h.storage l.absolute (in_frame f l.absolute) n)
    unfolding bytes_from accesses span and_then
    accesses-in_page a n {l} {f} e page wrapped fits = simp add-zero at (on 0 n (omega arith))
      where
        on : (k m : ℕ) → a % 4096 + (k + m) ≤ 4096
            → accesses (access g (view g h) c store) (span c (a + k) m) ≡ all (bytes_from h.storage (l.absolute + k) (in_frame f l.absolute + k) m)
        on k zero inside = refl
        on k (suc m) inside =
            rw (
              accesses,
              wrap-in_page c a (a + k) wrapped (omega arith),
              access-in_page a k e page (omega arith),
              add_assoc a k 1,
              add_assoc l.absolute k 1,
              add_assoc (in_frame f l.absolute) k 1,
              on (k + 1) m (omega arith),
            )
