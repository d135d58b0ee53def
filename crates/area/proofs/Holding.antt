-- What the kept place of the prefix page depends on, what is stored there, and how it is found.
-- Assumes nothing.
use Rattle.std.specs.Prelude.{Err}
use Prim.Native.Nat.{ℕ, ◌+◌, ◌*◌, ◌/◌, ◌%◌, ◌≤◌, ◌<◌}
use native.Mathlib.Omega.{arith}
use mathlib.Core.Path.{◌≡◌, refl, sym, ap, ◌∙◌, subst}
use mathlib.Core.Bool.{Bool, true, false, cond}
use mathlib.Core.List.{List}
use mathlib.Core.Logic.{◌⊎◌, inl, inr}
use borrow.Author.Tests.{eq-eqb, ltb-true, ltb-false}
use lib.Dec.{ltb}
use lib.ListN.{length, get_or}
use lib.Seq.{sets, length-sets}
use Rattle.machine.specs.declared.Guest.{Guest}
use Rattle.machine.specs.declared.Psw.{Psw}
use Rattle.machine.specs.declared.Registers.{Registers}
use Rattle.machine.specs.Refusals.{frames_of}
use Rattle.machine.specs.Entry.{extent_bytes}
use Rattle.machine.specs.Failures.{addressing, exception_of}
use Rattle.machine.specs.Host.{Host, host, host_virtual, host_page, backing, referenced, changed}
use Rattle.machine.proofs.Laws.{get_d_sets_beside}
use Rattle.laws.proofs.Pages.{backing-in_page, backing-in_storage}
use Rattle.address.specs.Touching.{Backed}
use Rattle.address.proofs.Touches.{backing_keyless, backed_backing}
use Rattle.guard.specs.Guarding.{Names, Wider, Alike}
use Rattle.guard.proofs.Guarded.{alike_narrower}
use Rattle.blocks.proofs.Holding.{alike_same, alike_trans}
use Rattle.pages.specs.Tabling.{Tables}
use Rattle.area.specs.Keeping.{Placed, Area, InStorage}
use Rattle.machine.specs.Walk.{at_frame}

-- none is kept
pub area_none : (guard : List ℕ) (g : Guest) (h : Host) (area : ℕ) → 2147483648 ≤ area → Area guard g h area
area_none guard g h area none =
    record {
      behind = λ placed. absurd (omega arith);
      aligned = λ placed. absurd (omega arith);
      inside = λ placed. absurd (omega arith);
      fetched = λ placed. absurd (omega arith);
      stored = λ placed. absurd (omega arith);
      free = λ placed. absurd (omega arith);
    }

-- a storage that is alike in the frames that the guard names
pub area_alike : (guard : List ℕ) (g : Guest) (d : ℕ) (s t k : List ℕ) (area : ℕ) → Alike guard s t → Area guard g (host d s k) area
    → Area guard g (host d t k) area
area_alike guard g d s t k area alike kept =
    record {
      behind = λ placed u like. kept.behind placed u (alike_trans guard s t u alike like);
      aligned = kept.aligned;
      inside = λ placed. let fits = kept.inside placed in omega (arith, alike.long);
      fetched = kept.fetched;
      stored = kept.stored;
      free = kept.free;
    }

-- a store inside a page whose frame the guard does not name
pub area_stored : (guard s bytes : List ℕ) (area i : ℕ) → area % 4096 ≡ 0 → get_or guard (area / 4096 % 64) 0 ≡ 0 → i + length bytes ≤ 4096
    → area + 4096 ≤ length s → Alike guard s (sets s (area + i) bytes)
area_stored guard s bytes area i aligned clear fits inside =
    record { long = length-sets s (area + i) bytes; same = λ p named. get_d_sets_beside s (area + i) bytes p 0 (beside p named) }
  where
    beside : (p : ℕ) → Names guard (p / 4096) → (p < area + i) ⊎ (area + i + length bytes ≤ p)
    beside p named = by_tests (ltb p (area + i)) (ltb p (area + i + length bytes)) refl refl
      where
        by_tests : (x y : Bool) → ltb p (area + i) ≡ x → ltb p (area + i + length bytes) ≡ y → (p < area + i) ⊎ (area + i + length bytes ≤ p)
        by_tests true y below _ = inl (ltb-true _ _ below)
        by_tests false false _ behind = inr (ltb-false _ _ behind)
        by_tests false true above before =
            let low : area + i ≤ p = ltb-false _ _ above in
            let high : p < area + i + length bytes = ltb-true _ _ before in
            let same : area / 4096 ≡ p / 4096 = omega arith in
            let none : get_or guard (p / 4096 % 64) 0 ≡ 0 = subst (λ frame. get_or guard (frame % 64) 0 ≡ 0) same clear in
            absurd (omega (arith, named))

-- the prefix page as it stands now
pub area_behind : (guard : List ℕ) (g : Guest) (h : Host) (area a : ℕ) → Placed area → Area guard g h area → a < 4096
    → backing g h (g.prefix * 4096 + a) ≡ at_frame (area / 4096) false
area_behind guard g h area a placed kept = kept.behind placed h.storage (alike_same guard h.storage) a

pub in_storage_lem : {guard : List ℕ} {g : Guest} {h : Host} {area : ℕ} → Area guard g h area → InStorage h.storage area
in_storage_lem kept = kept.inside

-- the guard names more frames, but not the frame of the place
pub area_wider : (guard more : List ℕ) (g : Guest) (h : Host) (area : ℕ) → Wider guard more → get_or more (area / 4096 % 64) 0 ≡ 0
    → Area guard g h area → Area more g h area
area_wider guard more g h area wider clear kept =
    record {
      behind = λ placed t alike. kept.behind placed t (alike_narrower guard more h.storage t wider alike);
      aligned = kept.aligned;
      inside = kept.inside;
      fetched = kept.fetched;
      stored = kept.stored;
      free = λ _. clear;
    }

-- no place is kept, no block is dropped, and the guard names no more frames
pub none_kept : (g : Guest) (d : ℕ) (s k guard kept : List ℕ)
    → ((psw : Psw) (control : Registers) → Tables d g psw control s k guard kept guard kept) × Area guard g (host d s k) 2147483648
none_kept g d s k guard kept = (
  λ psw control. record { wider = λ _ named. named; holds = λ holds. holds; inside = λ inside. inside; marks = λ marks. marks; free = λ free. free },
  area_none guard g (host d s k) 2147483648 (omega arith),
)

-- The page that is found behind the prefix page.

module _ (g : Guest) (d : ℕ) (s k : List ℕ) (frame : ℕ) (backed : backing g (host d s k) (g.prefix * 4096) ≡ at_frame frame false) where
  -- its frame has a key, and a number of 19 bits
  pub frame_small : frames_of s ≤ length k → (frame < length k) × (frame < 524288)
  frame_small each =
      let known = subst (Backed g k (g.prefix * 4096)) (sym (backing_keyless g d s k (g.prefix * 4096)) ∙ backed) (backed_backing g d s k (g.prefix * 4096) each) in
      (known.0, known.1)

  -- its place is kept, with a guard that names the frames of the host's entries for it, but not its own
  pub area_found : (guard : List ℕ)
      → ((t k : List ℕ) → Alike guard s t → host_page (host d t k) (host_virtual g (g.prefix * 4096)) ≡ host_page (host d s k) (host_virtual g (g.prefix * 4096)))
      → get_or k frame 0 / 2 % 4 ≡ 3 → get_or guard (frame % 64) 0 ≡ 0 → Area guard g (host d s k) (frame * 4096)
  unfolding referenced changed backing
  area_found guard decides marked clear =
      record {
        behind = λ _ t alike a small. rw whole
            (backing-in_page g (host d t k) (g.prefix * 4096) (g.prefix * 4096 + a)
            (ap (λ w. cond (ltb (g.prefix * 4096) (extent_bytes g)) w (Err (exception_of addressing))) (decides t k alike) ∙ backed)
            (omega arith));
        aligned = λ _. omega arith;
        inside = λ _. backing-in_storage g (host d s k) (g.prefix * 4096) backed;
        fetched = λ _. rw (whole, eq-eqb (get_or k frame 0 / 4 % 2) 1 (omega arith));
        stored = λ _. rw (whole, eq-eqb (get_or k frame 0 / 2 % 2) 1 (omega arith));
        free = λ _. rw whole clear;
      }
    where
      whole : frame * 4096 / 4096 ≡ frame
      whole = omega arith
