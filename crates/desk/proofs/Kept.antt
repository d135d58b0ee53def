-- What a call keeps of one host: its lengths, the entries that describe the extent where they were, its guest frames within `Frames` and
-- apart from those entries, and every byte and key beside them.
use Rattle.std.specs.Prelude.{Ok}
use Prim.Native.Nat.{ℕ, ◌+◌, ◌/◌, ◌≤◌, ◌<◌}
use mathlib.Core.Path.{◌≡◌, refl, sym, ap, ◌∙◌, subst}
use mathlib.Core.Bool.{true}
use mathlib.Core.List.{List}
use mathlib.Core.Logic.{⊎_elim}
use borrow.Author.Tests.{eqb-true, eqb-false}
use lib.Dec.{eqb}
use lib.ListN.{length, get_or}
use Rattle.machine.specs.declared.Guest.{Guest}
use Rattle.machine.specs.declared.Numbers.{Numbers}
use Rattle.machine.specs.Words.{byte_at}
use Rattle.machine.specs.Record.{guest_of}
use Rattle.machine.specs.Sizes.{frame_bytes}
use Rattle.machine.specs.Entry.{entry_good}
use Rattle.machine.specs.Walk.{frame_of}
use Rattle.machine.specs.Frames.{InExtent, page_place, page_of, Describes, GuestFrame}
use Rattle.machine.specs.Operations.{run_of}
use Rattle.machine.specs.Isolation.{RunEntry, RunFrame, Isolated}
use Rattle.desk.specs.declared.Change.{Change}
use Rattle.desk.specs.declared.Change.TheVariants.{Add, Remove, Protect}
use Rattle.desk.specs.declared.Called.TheVariants.{Done}
use Rattle.desk.specs.Extent.{page_count}
use Rattle.desk.specs.Desk.{desk_of}
use Rattle.desk.specs.Theorems.{OfExtent}
use Rattle.desk.specs.Calls.{Call, changes, lists, asks, runs, Store, after, Serves}
use Rattle.desk.proofs.Tables.{true_or_false, never_both, page-valid, SameTables}
use Rattle.desk.proofs.Changes.{host_of, Happened, done_or_not, done_of, not_done, calls_change_one_entry}
use Rattle.desk.proofs.Pages.{others_same, same_reach, same_place, calls_do_what_they_say}
use Rattle.desk.proofs.Apart.{calls_leave_entries-apart}
use Rattle.desk.proofs.Describing.{in_extent, each_page, beside_or_in, page-describes, SamePlace, describes_too, frame_too, frame_of_tables, SameExtent, inside_for, describes_for, frame_for}
use Rattle.desk.proofs.Runs.{ApartInRun, alone, tables_over-run}

module _ (g : Guest) (d : ℕ) (Frames : ℕ → Type 0) where
  -- its guest frames are among `Frames`, and no entry that describes the extent lies in one
  pub record Sound (s : List ℕ) : Type 0 where
    pub guest : (f : ℕ) → GuestFrame g d s f → Frames f
    pub apart : (at f : ℕ) → Describes g d s at → GuestFrame g d s f → at / frame_bytes ≡ f → ⊥

  pub record KeptStorage (s t : List ℕ) : Type 0 where
    pub long : length t ≡ length s
    pub entries : (at : ℕ) → Describes g d t at → Describes g d s at
    pub bytes : (i : ℕ) → (Frames (i / frame_bytes) → ⊥) → ((at : ℕ) → Describes g d s at → at ≤ i → i < at + 4 → ⊥) → byte_at t i ≡ byte_at s i
    pub sound : Sound t

  pub record Kept (h h' : Store) : Type 0 where
    pub storage : KeptStorage h.storage h'.storage
    pub long : length h'.keys ≡ length h.keys
    pub marks : (f : ℕ) → (Frames f → ⊥) → get_or h'.keys f 0 ≡ get_or h.keys f 0

  unchanged : (s : List ℕ) → Sound s → KeptStorage s s
  unchanged s sound = record { long = refl; entries = λ at h. h; bytes = λ i out none. refl; sound = sound }

  -- storages of one length whose tables say the same of the extent
  module _ (s t : List ℕ) (lengths : length s ≡ length t) (same : (page : ℕ) → InExtent g page → SameTables d s t page) where
    entries_of_tables : (at : ℕ) → Describes g d t at → Describes g d s at
    entries_of_tables = describes_too g d s t lengths λ page inside. record { reach = (same page inside).reach; place = (same page inside).place }

    pub sound_of_tables : Sound s → Sound t
    sound_of_tables sound = record {
      guest = λ f h. sound.guest f (frame_of_tables g d s t lengths f h (same h.page h.inside));
      apart = λ at f entry h. sound.apart at f (entries_of_tables at entry) (frame_of_tables g d s t lengths f h (same h.page h.inside));
    }

-- the record's extent is the guest's

pub of_record_lem : {g : Guest} {r : List ℕ} → OfExtent g.origin g.extent r → SameExtent (guest_of r) g
of_record_lem of = record { begins = of.begins; counts = of.counts }

to_record : {g : Guest} {r : List ℕ} → OfExtent g.origin g.extent r → SameExtent g (guest_of r)
to_record of = record { begins = sym of.begins; counts = sym of.counts }

-- runs
module _ (g : Guest) (Frames : ℕ → Type 0) (good : entry_good g ≡ true) (n : Numbers) (r : List ℕ) (of : OfExtent g.origin g.extent r) (h : Store) where
  pub entry_of-run : (at : ℕ) → RunEntry n r h.storage h.keys at → Describes g n.designation h.storage at
  entry_of-run at entry = describes_for (of_record_lem of) good entry.describes

  pub frame_of-run : (f : ℕ) → RunFrame n r h.storage h.keys f → GuestFrame g n.designation h.storage f
  frame_of-run f frame = frame_for (of_record_lem of) good frame.guest

  module _ (sound : Sound g n.designation Frames h.storage) where
    apart_in_run : ApartInRun n r h.storage h.keys
    apart_in_run at f entry frame = sound.apart at f (entry_of-run at entry) (frame_of-run f frame)

    isolated : Isolated n r h.storage h.keys h.storage h.keys
    isolated = alone n r h.storage h.keys apart_in_run

    tables_stay : (page : ℕ) → InExtent g page → SameTables n.designation h.storage (run_of n r h.storage h.keys).storage page
    tables_stay page inside = tables_over-run n r h.storage h.keys apart_in_run page (inside_for (to_record of) inside)

    no_frame : (f : ℕ) → (Frames f → ⊥) → RunFrame n r h.storage h.keys f → ⊥
    no_frame f out frame = out (sound.guest f (frame_of-run f frame))

    run_keeps : Kept g n.designation Frames h (after n.designation (runs n r) h)
    unfolding after
    run_keeps = record {
      storage = record {
        long = isolated.lengths₁.0;
        entries = entries_of_tables g n.designation Frames h.storage _ (sym isolated.lengths₁.0) tables_stay;
        bytes = λ i out none. isolated.rest_of_storage₁ i (no_frame (i / frame_bytes) out);
        sound = sound_of_tables g n.designation Frames h.storage _ (sym isolated.lengths₁.0) tables_stay sound;
      };
      long = isolated.lengths₁.1;
      marks = λ f out. isolated.rest_of_keys₁ f (no_frame f out);
    }

-- changes of a page
module _ (g : Guest) (d : ℕ) (Frames : ℕ → Type 0) where
  pub extent_of : (c : Change) (r : List ℕ) (p number : ℕ) → Serves g d Frames (changes c r p number) → OfExtent g.origin g.extent r
  unfolding Serves
  extent_of (Add frame) r p number serves = serves.0
  extent_of Remove r p number serves = serves
  extent_of Protect r p number serves = serves

  -- a guest frame by the page that was changed
  own_frame : (c : Change) (r s k : List ℕ) (p number : ℕ) → Serves g d Frames (changes c r p number) → Sound g d Frames s
      → (desk_of c r d s k p number).answer ≡ (Ok Done) → (f : ℕ) (h : GuestFrame g d (desk_of c r d s k p number).storage f) → h.page ≡ host_of r p → Frames f
  unfolding Serves
  own_frame (Add frame) r s k p number serves sound done f h here =
      let says = calls_do_what_they_say.adding frame r d s k p number done in
      subst Frames (sym says.1.1.0 ∙ ap (λ page. frame_of (page_of d (desk_of (Add frame) r d s k p number).storage page)) (sym here) ∙ h.named) serves.1
  own_frame Remove r s k p number serves sound done f h here =
      let says = calls_do_what_they_say.removing r d s k p number done in
      never_both (page-valid d (desk_of Remove r d s k p number).storage h.page h.valid) (rw here says.1.0)
  own_frame Protect r s k p number serves sound done f h here =
      let says = calls_do_what_they_say.protecting r d s k p number done in
      sound.guest f
      (frame_too g d s _ (sym (calls_change_one_entry Protect r d s k p number).long) f h (rw here says.0) (rw here (sym says.1.1.0)))

  module _ (good : entry_good g ≡ true) (c : Change) (r : List ℕ) (p number : ℕ) (serves : Serves g d Frames (changes c r p number))
      (s k : List ℕ) (sound : Sound g d Frames s) (done : (desk_of c r d s k p number).answer ≡ (Ok Done)) where
    abbrev t : List ℕ
    t = (desk_of c r d s k p number).storage

    of : OfExtent g.origin g.extent r
    of = extent_of c r p number serves

    happened : Happened c r d s k p number
    happened = done_of c r d s k p number done

    lengths : length s ≡ length t
    lengths = sym (calls_change_one_entry c r d s k p number).long

    each : (P : ℕ → Type 0) → ((q : ℕ) → q < page_count (guest_of r) → P (host_of r q)) → (page : ℕ) → InExtent g page → P page
    each P holds page inside = each_page (guest_of r) P holds page (inside_for (to_record of) inside)

    guest-after : (f : ℕ) → GuestFrame g d t f → Frames f
    guest-after f h =
        true_or_false _ (eqb h.page (host_of r p))
        (λ e. own_frame c r s k p number serves sound done f h (eqb-true _ _ e))
        (λ e.
        let same = each (λ page. (page ≡ host_of r p → ⊥) → SameTables d s t page) λ q below other. others_same c r d s k p number happened q below (λ e. other (ap (host_of r) e)) in
        sound.guest f (frame_of_tables g d s t lengths f h (same h.page h.inside (eqb-false _ _ e))))

    own_describes : Describes g d s (page_place d s (host_of r p))
    own_describes = page-describes g d s (host_of r p) (inside_for (of_record_lem of) (in_extent (guest_of r) p happened.inside)) happened.reached good

    change_keeps : KeptStorage g d Frames s t
    change_keeps = record {
      long = sym lengths;
      entries = describes_too g d s t lengths (each (SamePlace d s t) λ q below. record {
        reach = same_reach c r d s k p number happened q below;
        place = same_place c r d s k p number happened q below;
      });
      bytes = λ i out none. (calls_change_one_entry c r d s k p number).rest i
          (beside_or_in (page_place d s (host_of r p)) i (λ beside. beside) (λ low high. absurd (none _ own_describes low high)));
      sound = record {
        guest = guest-after;
        apart = λ at f entry frame. calls_leave_entries-apart c r d s k p number done at f
            (describes_for (to_record of) happened.good entry) (frame_for (to_record of) happened.good frame);
      };
    }

pub keeps : (g : Guest) (d : ℕ) (Frames : ℕ → Type 0) → entry_good g ≡ true → (call : Call) → Serves g d Frames call
    → (h : Store) → Sound g d Frames h.storage → Kept g d Frames h (after d call h)
unfolding Serves after
keeps g d Frames good (changes c r p number) serves h sound = record {
  storage = ⊎_elim (change_keeps g d Frames good c r p number serves h.storage h.keys sound)
      (λ other. rw (not_done c r d h.storage h.keys p number other).0 (unchanged g d Frames h.storage sound))
      (done_or_not (desk_of c r d h.storage h.keys p number).answer);
  long = refl;
  marks = λ f out. refl;
}
keeps g d Frames good (lists r ws) serves h sound = record { storage = unchanged g d Frames h.storage sound; long = refl; marks = λ f out. refl }
keeps g d Frames good (asks r from to) serves h sound = record { storage = unchanged g d Frames h.storage sound; long = refl; marks = λ f out. refl }
keeps g d Frames good (runs n r) (of, on) h sound = rw (← on) (run_keeps g Frames good n r of h (rw on sound))
