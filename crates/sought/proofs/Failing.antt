-- Where the guest's walk ends, by the code of the exception that it makes.
-- Assumes nothing.
use Rattle.std.specs.Prelude.{Err, Ok}
use Prim.Native.Nat.{ℕ, ◌+◌, ◌*◌, ◌/◌, ◌%◌, ◌^◌, ◌≤◌, ◌<◌}
use native.Mathlib.Omega.{arith}
use mathlib.Core.Path.{◌≡◌, refl, sym, ap, subst, ◌∙◌}
use mathlib.Core.Bool.{Bool, true, false, false≢true, cond, ◌&&◌}
use mathlib.Core.List.{List}
use lib.Dec.{eqb, ltb}
use lib.ListN.{get_or}
use borrow.Author.Tests.{eq-eqb, ne_eqb, le-ltb, ltb-false}
use Rattle.machine.specs.declared.Cpu.{Cpu}
use Rattle.machine.specs.declared.Failure.{Failure}
use Rattle.machine.specs.declared.Guest.{Guest}
use Rattle.machine.specs.declared.Stage.TheVariants.{GuestSegment, GuestPage}
use Rattle.machine.specs.Words.{bit}
use Rattle.machine.specs.Entry.{extent_bytes}
use Rattle.machine.specs.Psw.{dat_on, control}
use Rattle.machine.specs.Failures.{addressing, protection, segment_translation, page_translation, translation_specification, host_fault, exception_of, walk_exception}
use Rattle.machine.specs.Walk.{frame_of, page_protected, segment_index, page_index, segment_entry_at, past_segment_table, segment_invalid, segment_malformed, page_entry_at, past_page_table, page_invalid, page_malformed, TableEntry, Walk}
use Rattle.machine.specs.Host.{Host, Cell, host, host_virtual, in_frame, host_page, backing, cell_of, view}
use Rattle.machine.specs.Addresses.{prefixed, entry_of, guest_entry, format_good, low_protected, real_page}
use Rattle.machine.specs.Sought.{Way, leads, stops, unread, segment_table, page_table, nowhere, way_of_page, way_of_segment, way, found_by, guest_sought_by, guest_sought, host_sought, fault_sought, exception_sought, sought}
use Rattle.machine.specs.WhichTable.{Went, past_segments, lacks_segment, bad_segment, past_pages, lacks_page, bad_page, good_page}
use Rattle.machine.proofs.Ways.{walk_by_way, went}
use Rattle.storage.proofs.Faults.{OwnWalk, own_host-page}
use Rattle.machine.specs.Sizes.{page_bytes}
use Rattle.address.specs.Touching.{guest_protects, settled, touched, touch_of, Place}
use Rattle.sought.specs.Failing.{ReadAs, ExceptsBy, Excepts}
use Rattle.address.specs.Locating.{failure_in, place_in}
use Rattle.address.proofs.Located.{failed_place}
use Rattle.address.proofs.Touches.{touched_is}

-- the page entry, which is read
module _ (at e : ℕ) where
  abbrev page_way : Bool → Bool → Way
  page_way invalid malformed = cond invalid (stops page_table at page_translation) (cond malformed (stops page_table at translation_specification) (leads at e))

-- a page entry makes no segment translation exception
never_segment : (at : ℕ) (x : TableEntry) → ExceptsBy (way_of_page at x) segment_translation → ⊥
unfolding way_of_page
never_segment at (Err f) by = omega (arith, by.1)
never_segment at (Ok e) by = by_tests (page_invalid e) (page_malformed e) by
  where
    by_tests : (p q : Bool) → ExceptsBy (page_way at e p q) segment_translation → ⊥
    by_tests true q by = omega arith
    by_tests false true by = omega arith
    by_tests false false by = omega arith

-- an exception other than addressing is by the page entry's word
pub page_by_code : (at code : ℕ) (x : TableEntry) → ExceptsBy (way_of_page at x) code → (code ≡ addressing → ⊥)
    → guest_sought_by (way_of_page at x) ≡ record { stage = GuestPage; entry = at }
unfolding way_of_page guest_sought_by
page_by_code at code (Err f) by other = absurd (other by.1)
page_by_code at code (Ok e) by other = by_tests (page_invalid e) (page_malformed e) by
  where
    by_tests : (p q : Bool) → ExceptsBy (page_way at e p q) code → guest_sought_by (page_way at e p q) ≡ record { stage = GuestPage; entry = at }
    by_tests true q by = refl
    by_tests false true by = refl
    by_tests false false by = absurd (other by)

-- addressing, where the page entry lies below the extent, is by no table
pub page_clear : (at : ℕ) (x : TableEntry) → ExceptsBy (way_of_page at x) addressing → ((f : Failure) → x ≡ Err f → f.host ≡ false → ⊥)
    → guest_sought_by (way_of_page at x) ≡ nowhere
unfolding way_of_page guest_sought_by
page_clear at (Err f) by below = absurd (below f refl by.0)
page_clear at (Ok e) by below = by_tests (page_invalid e) (page_malformed e) by
  where
    by_tests : (p q : Bool) → ExceptsBy (page_way at e p q) addressing → guest_sought_by (page_way at e p q) ≡ nowhere
    by_tests true q by = absurd (omega arith)
    by_tests false true by = absurd (omega arith)
    by_tests false false by = refl

-- the segment entry

-- segment translation, where the index lies within the table, is by the segment entry's word
pub segment_by_code : (read : ℕ → TableEntry) (at index : ℕ) (x : TableEntry) → ExceptsBy (way_of_segment read at index x) segment_translation
    → guest_sought_by (way_of_segment read at index x) ≡ record { stage = GuestSegment; entry = at }
unfolding way_of_segment guest_sought_by
segment_by_code read at index (Err f) by = absurd (omega (arith, by.1))
segment_by_code read at index (Ok e) by = by_tests (segment_invalid e) (segment_malformed e) (past_page_table e index) by
  where
    found : Way
    found = way_of_page (page_entry_at e index) (read (page_entry_at e index))

    onward : Bool → Bool → Bool → Way
    onward p q r =
        cond p (stops segment_table at segment_translation)
        (cond q (stops segment_table at translation_specification) (cond r (stops page_table 0 page_translation) found))

    by_tests : (p q r : Bool) → ExceptsBy (onward p q r) segment_translation → guest_sought_by (onward p q r) ≡ record { stage = GuestSegment; entry = at }
    by_tests true q r by = refl
    by_tests false true r by = absurd (omega arith)
    by_tests false false true by = absurd (omega arith)
    by_tests false false false by = absurd (never_segment (page_entry_at e index) (read (page_entry_at e index)) by)

-- any other exception shows that the entry is not invalid
pub valid_by_code : (read : ℕ → TableEntry) (at index e code : ℕ) → ExceptsBy (way_of_segment read at index (Ok e)) code → (code ≡ segment_translation → ⊥)
    → segment_invalid e ≡ false
unfolding way_of_segment
valid_by_code read at index e code by other = by_test (segment_invalid e) _ by
  where
    by_test : (b : Bool) (w : Way) → ExceptsBy (cond b (stops segment_table at segment_translation) w) code → b ≡ false
    by_test true w by = absurd (other by)
    by_test false w by = refl

-- the host page behind a guest absolute address: what is not the host's fault is addressing, past the extent
backing_excepts : (g : Guest) (d : ℕ) (s k : List ℕ) (at : ℕ) (f : Failure) → backing g (host d s k) at ≡ Err f → f.host ≡ false
    → (extent_bytes g ≤ at) × (f.code ≡ addressing)
unfolding backing host_page
backing_excepts g d s k at f failed guest = by_extent (ltb at (extent_bytes g)) refl failed
  where
    by_extent : (b : Bool) → ltb at (extent_bytes g) ≡ b → cond b (host_page (host d s k) (host_virtual g at)) (Err (exception_of addressing)) ≡ Err f
        → (extent_bytes g ≤ at) × (f.code ≡ addressing)
    by_extent true e found =
        let own = subst (OwnWalk (host_virtual g at)) found (own_host-page s d (host_virtual g at)) in
        absurd (false≢true (sym guest ∙ ap (λ (x : Failure). x.host) own.is))
    by_extent false e found =
        let same : exception_of addressing ≡ f = cc in
        (ltb-false _ _ e, sym (ap (λ (x : Failure). x.code) same))

-- the guest table entry at a guest real address
module _ (g : Guest) (d : ℕ) (s k : List ℕ) (real : ℕ) where
  pub entry_past : extent_bytes g ≤ prefixed g real → guest_entry g (view g (host d s k)) real ≡ Err (exception_of addressing)
  unfolding guest_entry entry_of view cell_of backing
  entry_past past = rw (le-ltb _ _ past)

  -- where it cannot be read and the host has no part in it, it lies past the extent
  pub entry_excepts : (f : Failure) → guest_entry g (view g (host d s k)) real ≡ Err f → f.host ≡ false
      → (extent_bytes g ≤ prefixed g real) × (f.code ≡ addressing)
  unfolding guest_entry entry_of view cell_of
  entry_excepts f missing guest = by_walk (backing g (host d s k) (prefixed g real)) refl missing
    where
      by_walk : (w : Walk) → backing g (host d s k) (prefixed g real) ≡ w
          → entry_of (view g (host d s k)) (prefixed g real) (cell_of (host d s k) (prefixed g real) w) ≡ Err f
          → (extent_bytes g ≤ prefixed g real) × (f.code ≡ addressing)
      by_walk (Ok page) backed e = let z : ◌≡◌ {A = ℕ} 0 1 = cc in absurd (omega arith)
      by_walk (Err x) backed e =
          let same : x ≡ f = cc in
          backing_excepts g d s k (prefixed g real) f (backed ∙ ap Err same) guest

-- the ways of a walk that end at an entry which cannot be read end there for that entry's reason
abbrev OnUnread : (Failure → Type 0) → Way → Type 0
OnUnread Q (leads at e) = Unit {0}
OnUnread Q (stops table at code) = Unit {0}
OnUnread Q (unread table f) = Q f

on_way : (Q : Failure → Type 0) (read : ℕ → TableEntry) → ((at : ℕ) (f : Failure) → read at ≡ Err f → Q f) → (designation a : ℕ)
    → OnUnread Q (way read designation a)
on_way Q read own designation a = by_way (went read designation a)
  where
    by_way : {w : Way} → Went read designation a w → OnUnread Q w
    by_way (past_segments past) = tt
    by_way (lacks_segment is) = own _ _ is
    by_way (bad_segment segment) = tt
    by_way (past_pages segment past) = tt
    by_way (lacks_page to is) = own _ _ is
    by_way (bad_page to is) = tt
    by_way (good_page to is) = tt

-- an access that is an exception of the guest, and no protection, is one of the guest's walk, or lies past the extent
pub access_excepts : (g : Guest) (d : ℕ) (s k : List ℕ) (c : Cpu) (store : Bool) (a : ℕ) (f : Failure) → touch_of g (host d s k) c store a ≡ Err f
    → f.host ≡ false → (f.code ≡ protection → ⊥) → Excepts g (view g (host d s k)) c a f.code
unfolding touched settled found_by real_page walk_exception
access_excepts g d s k c store a f denied guest apart on good = by_low (store && low_protected c a) (sym (touched_is g h c store a) ∙ denied)
  where
    h : Host
    h = host d s k

    read : ℕ → TableEntry
    read = guest_entry g (view g h)

    protects_not : {x : Failure} → x.code ≡ protection → ◌≡◌ {A = Place} (Err x) (Err f) → ⊥
    protects_not {x} is e = let same : x ≡ f = cc in apart (ap (λ (y : Failure). y.code) (sym same) ∙ is)

    by_tests : (p q : Bool) (at frame : ℕ)
        → cond p (Err (exception_of protection)) (cond q (Err (host_fault (host_virtual g at) protection)) (Ok (in_frame frame at))) ≡ Err f → ⊥
    by_tests true q at frame e = protects_not refl e
    by_tests false true at frame e = protects_not refl e
    by_tests false false at frame e = let z : ◌≡◌ {A = ℕ} 0 1 = cc in omega arith

    by_host_lem : (protects : ℕ → Bool) (at : ℕ) (w : Walk) → backing g h at ≡ w → settled g k store protects at w ≡ Err f → f.code ≡ addressing
    by_host_lem protects at (Err x) backed e = let same : x ≡ f = cc in (backing_excepts g d s k at f (backed ∙ ap Err same) guest).1
    by_host_lem protects at (Ok page) backed e = absurd (by_tests (protects (get_or k page.frame 0)) (store && page.protected) at page.frame e)

    by_way : (w : Way) → OnUnread (λ x. x.host ≡ false → x.code ≡ addressing) w → touched g h c store a (found_by (walk_exception a) w) ≡ Err f
        → ExceptsBy w f.code
    by_way (stops table at code) own e = let same : walk_exception a code ≡ f = cc in sym (ap (λ (y : Failure). y.code) same)
    by_way (unread table x) own e =
        let same : x ≡ f = cc in
        (ap (λ (y : Failure). y.host) same ∙ guest, sym (ap (λ (y : Failure). y.code) same) ∙ own (ap (λ (y : Failure). y.host) same ∙ guest))
    by_way (leads at word) own e =
        let absolute = prefixed g (frame_of word * page_bytes + a % page_bytes) in
        by_host_lem (guest_protects c store (page_protected word)) absolute (backing g h absolute) refl e

    by_low : (b : Bool) → cond b (Err (exception_of protection)) (touched g h c store a (real_page g (view g h) c a)) ≡ Err f
        → ExceptsBy (way read (control c 1) a) f.code
    by_low true e = absurd (protects_not refl e)
    by_low false e =
        by_way (way read (control c 1) a) (on_way (λ x. x.host ≡ false → x.code ≡ addressing) read (λ at x e own. (entry_excepts g d s k at x e own).1) (control c 1) a)
        (rw (on, good, walk_by_way read (walk_exception a) (control c 1) a) at e)

-- the guest's walk with DAT on and the format good

pub dat_is_on : (c : Cpu) (left : ℕ) (on : Bool) → bit 32 5 left ≡ dat_on c → on ≡ bit 32 5 left → on ≡ true → dat_on c ≡ true
dat_is_on c left on sees is so = sym sees ∙ sym is ∙ so

pub format-good : (c : Cpu) (cr0 : ℕ) → cr0 ≡ control c 0 → cr0 / 524288 % 32 ≡ 22 → format_good c ≡ true
unfolding format_good
format-good c cr0 is good = rw (← is, eq-eqb _ _ good)

pub format_bad : (c : Cpu) (cr0 : ℕ) → cr0 ≡ control c 0 → (cr0 / 524288 % 32 ≡ 22 → ⊥) → format_good c ≡ false
unfolding format_good
format_bad c cr0 is bad = rw (← is, ne_eqb _ _ bad)

module _ (g : Guest) (v : ℕ → Cell) (c : Cpu) (a cr1 code : ℕ) (on : dat_on c ≡ true) (good : format_good c ≡ true) (is : cr1 ≡ control c 1) where
  pub sought_past : past_segment_table cr1 (segment_index a) ≡ true → guest_sought g v c a ≡ record { stage = GuestSegment; entry = 0 }
  unfolding guest_sought way guest_sought_by
  sought_past past = rw (on, good, ← is, past)

  module _ (within : past_segment_table cr1 (segment_index a) ≡ false) where
    abbrev pub way_within : Way
    way_within = way_of_segment (guest_entry g v) (segment_entry_at cr1 (segment_index a)) (page_index a) (guest_entry g v (segment_entry_at cr1 (segment_index a)))

    pub sought_within : guest_sought g v c a ≡ guest_sought_by way_within
    unfolding guest_sought way
    sought_within = rw (on, good, ← is, within)

    pub excepts_within : Excepts g v c a code → ExceptsBy way_within code
    unfolding way
    excepts_within by = rw (← is, within) at (by on good)

-- an entry as a number says it

pub read_word : (x : TableEntry) (r : ℕ) → ReadAs x r → r < 2 ^ 32 → x ≡ Ok r
read_word (Ok e) r is low = ap Ok (sym is.0)
read_word (Err f) r high low = absurd (omega arith)

pub read_none : (x : TableEntry) (r : ℕ) → ReadAs x r → 2 ^ 32 ≤ r → (f : Failure) × (x ≡ Err f)
read_none (Ok e) r is high = absurd (omega (arith, is.0, is.1))
read_none (Err f) r is high = (f, refl)

-- by which table an access fails that a number says: the failure of the number, by its parts
module _ (g : Guest) (h : Host) (c : Cpu) (a w : ℕ) where
  pub sought-protected : w / 2 ^ 33 ≡ protection → sought g h c a (failure_in a w) ≡ nowhere
  unfolding sought fault_sought exception_sought failure_in walk_exception
  sought-protected is = by_host_lem (eqb (w / 2 ^ 32 % 2) 1)
    where
      by_host_lem : (b : Bool)
          → sought g h c a (cond b (host_fault (w % 2 ^ 32) (w / 2 ^ 33)) (walk_exception a (w / 2 ^ 33))) ≡ nowhere
      by_host_lem true = rw (eq-eqb _ _ is)
      by_host_lem false = rw (eq-eqb _ _ is)

  module _ (other : w / 2 ^ 33 ≡ protection → ⊥) where
    pub sought-by_host : w / 2 ^ 32 % 2 ≡ 1 → sought g h c a (failure_in a w) ≡ host_sought h.designation h.storage (w % 2 ^ 32)
    unfolding sought fault_sought failure_in
    sought-by_host odd = rw (eq-eqb _ _ odd, ne_eqb _ _ other)

    pub sought-by_guest : (w / 2 ^ 32 % 2 ≡ 1 → ⊥) → sought g h c a (failure_in a w) ≡ guest_sought g (view g h) c a
    unfolding sought exception_sought failure_in walk_exception
    sought-by_guest even = rw (ne_eqb _ _ even, ne_eqb _ _ other)

-- such an access is an exception of the guest
pub number_excepts : (g : Guest) (d : ℕ) (s k : List ℕ) (c : Cpu) (store : Bool) (a w : ℕ) → 2 ^ 32 ≤ w → (w / 2 ^ 33 ≡ protection → ⊥) → (w / 2 ^ 32 % 2 ≡ 1 → ⊥)
    → touch_of g (host d s k) c store a ≡ place_in a w → Excepts g (view g (host d s k)) c a (w / 2 ^ 33)
unfolding failure_in walk_exception
number_excepts g d s k c store a w high other even found =
    access_excepts g d s k c store a (walk_exception a (w / 2 ^ 33)) (found ∙ failed_place a w high ∙ ap Err (rw (ne_eqb _ _ even))) refl other
