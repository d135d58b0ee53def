-- Request 2/12: the stage of a failed answer and the address of its table entry say which entry was sought, and whether it was read.
-- Assumes nothing.
use Rattle.std.specs.Prelude.{Err, Ok}
use Prim.Native.Nat.{ℕ, ◌+◌, ◌*◌, ◌/◌, ◌≤◌}
use native.Mathlib.Omega.{arith}
use mathlib.Core.Path.{◌≡◌, refl, sym, ap, ◌∙◌, subst}
use mathlib.Core.Bool.{Bool, true, false, not, ◌&&◌, false≢true}
use mathlib.Core.List.{List}
use borrow.Author.Tests.{eqb-true, eqb-false, not-false}
use lib.Dec.{eqb}
use lib.ListN.{length}
use Rattle.machine.specs.declared.Cpu.{Cpu}
use Rattle.machine.specs.declared.Reason.TheVariants as why
use Rattle.machine.specs.declared.End.{End}
use Rattle.machine.specs.declared.End.TheVariants.{Intercepted, HostFault, BudgetUsed}
use Rattle.machine.specs.declared.Failure.{Failure}
use Rattle.machine.specs.declared.Guest.{Guest}
use Rattle.machine.specs.declared.Numbers.{Numbers}
use Rattle.machine.specs.declared.Sought.{Sought}
use Rattle.machine.specs.declared.Stage.{Stage}
use Rattle.machine.specs.declared.Stage.TheVariants.{None, GuestSegment, GuestPage, HostSegment, HostPage}
use Rattle.machine.specs.declared.Translated.TheVariants as translated
use Rattle.machine.specs.Words.{word_at}
use Rattle.machine.specs.Sizes.{page_bytes}
use Rattle.machine.specs.Record.{guest_of, cpu_of}
use Rattle.machine.specs.Refusals.{translate_verdict, Verdict}
use Rattle.machine.specs.Entry.{entry_good}
use Rattle.machine.specs.Psw.{dat_on, wrap, control}
use Rattle.machine.specs.Failures.{protection, translation_specification, exception_of, walk_exception}
use Rattle.machine.specs.Walk.{page_index, segment_invalid, segment_malformed, page_entry_at, past_page_table, walk, TableEntry, Walk}
use Rattle.machine.specs.Host.{Host, absent, Located, host_virtual, host_entry, view}
use Rattle.machine.specs.Frames.{segment_place, segment_of, page_place, SegmentInReach, PageInReach}
use Rattle.machine.specs.Addresses.{guest_entry, format_good, real_page, Access, reached, denied, in_page, low_protected, access}
use Rattle.machine.specs.Sought.{segment_table, page_table, Way, leads, stops, unread, way, found_by, nowhere, guest_sought_by, guest_sought, host_sought_by, host_sought, fault_sought, exception_sought, sought, end_sought}
use Rattle.machine.specs.Run.{Ended, run}
use Rattle.machine.specs.Operations.{address_in, translated_to, translates, translated_as, translate, Result, result_of, machine_of}
use Rattle.machine.specs.WhichTable.{WalksEndSo, OfSide, ReadByHost, ByHost, SegmentRead, PageRead, ReadByGuest, ByGuest, Asked, for_segment, for_page, for_byte, Named, TranslationsNameTheTable, RunsNameTheTable, SegmentWord, PageSought, Went, past_segments, lacks_segment, bad_segment, past_pages, lacks_page, bad_page, good_page, WaysAreWent}
use Rattle.machine.proofs.Tests.{on_either_arm, by_either_test}
use Rattle.machine.proofs.Runs.{same_end, run_of_cases}
use Rattle.machine.proofs.Ways.{walk_by_way, way_by_page, went, GoodWalk, finds, fails}
use Rattle.machine.proofs.Backing.{read_or_not}
use Rattle.machine.proofs.Backed.{Stands, Good, reaches, denies, settle-good, entry_lacks, exception_of-guest, stands_on_page, lacks_by_host}
use Rattle.machine.specs.Answers.{run_answer}

pub ways_are_went : WaysAreWent
ways_are_went = went

pub walks_end_so : WalksEndSo
walks_end_so read fail d a = walk_by_way read fail d a

-- the address that is given is that of the entry that was read, and zero where none was
record Tells (Read : Stage → ℕ → Type 0) (x : Sought) : Type 0 where
  read : (x.entry ≡ 0 → ⊥) → Read x.stage x.entry
  given : (at : ℕ) → Read x.stage at → x.entry ≡ at

tells_none : (Read : Stage → ℕ → Type 0) (stage : Stage) → ((at : ℕ) → Read stage at → ⊥) → Tells Read (record { stage = stage; entry = 0 })
tells_none Read stage never = record { read = λ other. absurd (other refl); given = λ at r. absurd (never at r) }

tells_entry : (Read : Stage → ℕ → Type 0) (stage : Stage) (entry : ℕ) → Read stage entry → ((at : ℕ) → Read stage at → entry ≡ at)
    → Tells Read (record { stage = stage; entry = entry })
tells_entry Read stage entry r same = record { read = λ other. r; given = same }

-- the host's walk

word_read : (s : List ℕ) (v at e : ℕ) → host_entry s v at ≡ Ok e → (at + 4 ≤ length s) × (word_at s at ≡ e)
word_read s v at e =
    read_or_not (λ x. x ≡ Ok e → (at + 4 ≤ length s) × (word_at s at ≡ e)) s v at (λ fits is. (fits, (cc)))
    (λ past is. let z : ◌≡◌ {A = ℕ} 0 1 = cc in absurd (omega arith))

not_read : (s : List ℕ) (v at : ℕ) (f : Failure) → host_entry s v at ≡ Err f → at + 4 ≤ length s → ⊥
not_read s v at f =
    read_or_not (λ x. x ≡ Err f → at + 4 ≤ length s → ⊥) s v at (λ fits is _. let z : ◌≡◌ {A = ℕ} 0 1 = cc in omega arith)
    (λ past is fits. omega arith)

module _ (d : ℕ) (s : List ℕ) (v : ℕ) where
  abbrev page : ℕ
  page = v / page_bytes

  abbrev Read : Stage → ℕ → Type 0
  Read = ReadByHost d s v

  abbrev HostWent : Way → Type 0
  HostWent = Went (host_entry s v) d (page * page_bytes)

  segment_in_reach : {e : ℕ} → SegmentWord (host_entry s v) d (page * page_bytes) e → SegmentInReach d s page
  segment_in_reach {e} segment = record { in_table = segment.in_table; in_storage = (word_read s v (segment_place d page) e segment.is).0 }

  segment_is : {e : ℕ} → SegmentWord (host_entry s v) d (page * page_bytes) e → segment_of d s page ≡ e
  segment_is {e} segment = (word_read s v (segment_place d page) e segment.is).1

  page-place : {e : ℕ} → PageSought (host_entry s v) d (page * page_bytes) e → page_entry_at e (page_index (page * page_bytes)) ≡ page_place d s page
  page-place to = ap (λ e. page_entry_at e (page_index (page * page_bytes))) (sym (segment_is to.segment))

  page_in-reach : {e p : ℕ} → PageSought (host_entry s v) d (page * page_bytes) e → host_entry s v (page_entry_at e (page_index (page * page_bytes))) ≡ Ok p
      → PageInReach d s page
  page_in-reach {e} {p} to is = record {
    segment = segment_in_reach to.segment;
    valid = ap segment_invalid (segment_is to.segment) ∙ to.valid;
    formed = ap segment_malformed (segment_is to.segment) ∙ to.formed;
    in_table = ap (λ e. past_page_table e (page_index (page * page_bytes))) (segment_is to.segment) ∙ to.in_table;
    in_storage = (word_read s v (page_place d s page) p (ap (host_entry s v) (sym (page-place to)) ∙ is)).0;
  }

  host_tells : {w : Way} → HostWent w → Tells Read (host_sought_by w)
  unfolding host_sought_by
  host_tells (past_segments past) = tells_none Read HostSegment (λ at r. false≢true (sym r.1.in_table ∙ past))
  host_tells (lacks_segment is) = tells_none Read HostSegment (λ at r. not_read s v _ _ is r.1.in_storage)
  host_tells (bad_segment segment) = tells_entry Read HostSegment _ (refl, segment_in_reach segment) (λ at r. sym r.0)
  host_tells (past_pages segment past) =
      tells_none Read HostPage
      (λ at r. false≢true (sym r.1.in_table ∙ ap (λ e. past_page_table e (page_index (page * page_bytes))) (segment_is segment) ∙ past))
  host_tells (lacks_page to is) =
      tells_none Read HostPage (λ at r. not_read s v _ _ (ap (host_entry s v) (sym (page-place to)) ∙ is) r.1.in_storage)
  host_tells (bad_page to is) =
      tells_entry Read HostPage _ (page-place to, page_in-reach to is) (λ at r. page-place to ∙ sym r.0)
  host_tells (good_page to is) =
      tells_entry Read HostPage _ (page-place to, page_in-reach to is) (λ at r. page-place to ∙ sym r.0)

-- a stage of the host's
data OfHost : Stage → Type 0 where
  segments : OfHost HostSegment
  pages : OfHost HostPage

host_stage_lem : (w : Way) → OfHost (host_sought_by w).stage
unfolding host_sought_by
host_stage_lem (leads at e) = pages
host_stage_lem (stops segment_table at code) = segments
host_stage_lem (stops page_table at code) = pages
host_stage_lem (unread segment_table f) = segments
host_stage_lem (unread page_table f) = pages

host-side : {stage : Stage} → OfHost stage → OfSide true stage
host-side segments = refl
host-side pages = refl

host-some : {stage : Stage} → OfHost stage → stage ≡ None → ⊥
host-some segments e = let z : ◌≡◌ {A = ℕ} 0 1 = cc in omega arith
host-some pages e = let z : ◌≡◌ {A = ℕ} 0 1 = cc in omega arith

walk-named : (d : ℕ) (s : List ℕ) (f : Failure) → (f.code ≡ protection → ⊥) → ByHost d s f (host_sought d s f.address)
unfolding host_sought
walk-named d s f other = record {
  side = host-side stage;
  none = λ e. absurd (host-some stage e);
  protected = (λ e. absurd (other e), λ e. absurd (host-some stage e));
  read = tells.read;
  given = tells.given;
}
  where
    stage : OfHost (host_sought_by (way (host_entry s f.address) d f.address)).stage
    stage = host_stage_lem _

    tells : Tells (ReadByHost d s f.address) (host_sought_by (way (host_entry s f.address) d f.address))
    tells = rw way_by_page (host_tells d s f.address (went _ _ _))

fault_named : (d : ℕ) (s : List ℕ) (f : Failure) → ByHost d s f (fault_sought d s f)
unfolding fault_sought
fault_named d s f =
    by_either_test (ByHost d s f) (eqb f.code protection)
    (λ protects. record {
      side = tt;
      none = λ _. refl;
      protected = (λ _. refl, λ _. eqb-true f.code protection protects);
      read = λ other. absurd (other refl);
      given = λ at r. absurd r;
    })
    (λ walks. walk-named d s f (eqb-false f.code protection walks))

-- the guest's walk

guest-side : (w : Way) → OfSide false (guest_sought_by w).stage × ((guest_sought_by w).stage ≡ None → (guest_sought_by w).entry ≡ 0)
unfolding guest_sought_by
guest-side (leads at e) = (tt, λ _. refl)
guest-side (stops segment_table at code) = (refl, λ e. cc)
guest-side (stops page_table at code) = (refl, λ e. cc)
guest-side (unread segment_table f) = (refl, λ e. refl)
guest-side (unread page_table f) = (refl, λ e. refl)

module _ (g : Guest) (h : Host) (c : Cpu) (a : ℕ) where
  abbrev GuestRead : Stage → ℕ → Type 0
  GuestRead = ReadByGuest g h c a

  abbrev seen : ℕ → TableEntry
  seen = guest_entry g (view g h)

  -- where CR0 is good
  module _ (dat : dat_on c ≡ true) (format : format_good c ≡ true) where
    segment-read : {e : ℕ} → SegmentWord seen (control c 1) a e → SegmentRead g h c a e
    segment-read segment = record { dat = dat; format = format; in_table = segment.in_table; is = segment.is }

    page-read : {e p : ℕ} → PageSought seen (control c 1) a e → seen (page_entry_at e (page_index a)) ≡ Ok p → PageRead g h c a e p
    page-read to is = record {
      segment = segment-read to.segment;
      valid = to.valid;
      formed = to.formed;
      in_table = to.in_table;
      is = is;
    }

    -- each entry is one word
    one_segment : {e e' : ℕ} → SegmentWord seen (control c 1) a e → SegmentRead g h c a e' → e ≡ e'
    one_segment segment r = cc (segment.is, r.is)

    guest_tells : {w : Way} → Went seen (control c 1) a w → Tells GuestRead (guest_sought_by w)
    unfolding guest_sought_by
    guest_tells (past_segments past) = tells_none GuestRead GuestSegment (λ at r. false≢true (sym r.1.1.in_table ∙ past))
    guest_tells (lacks_segment is) =
        tells_none GuestRead GuestSegment (λ at r. let z : ◌≡◌ {A = ℕ} 0 1 = cc (is, r.1.1.is) in omega arith)
    guest_tells (bad_segment {e = e} segment) = tells_entry GuestRead GuestSegment _ (refl, (e, segment-read segment)) (λ at r. sym r.0)
    guest_tells (past_pages segment past) =
        tells_none GuestRead GuestPage
        (λ at r.
        let same = ap (λ e. past_page_table e (page_index a)) (one_segment segment r.3.segment) in
        false≢true (sym r.3.in_table ∙ sym same ∙ past))
    guest_tells (lacks_page to is) =
        tells_none GuestRead GuestPage
        (λ at r.
        let same = ap (λ e. seen (page_entry_at e (page_index a))) (one_segment to.segment r.3.segment) in
        let z : ◌≡◌ {A = ℕ} 0 1 = cc (is, r.3.is) in
        omega arith)
    guest_tells (bad_page {e = e} {p = p} to is) =
        tells_entry GuestRead GuestPage _ (e, p, refl, page-read to is)
        (λ at r. ap (λ e. page_entry_at e (page_index a)) (one_segment to.segment r.3.segment) ∙ sym r.2)
    guest_tells (good_page to is) = tells_none GuestRead None (λ at r. r)

  -- by no table
  none_named : (f : Failure) → ByGuest g h c a f nowhere
  none_named f = record {
    side = tt;
    none = λ _. refl;
    protected = λ _. refl;
    read = λ other. absurd (other refl);
    given = λ at r. absurd r;
  }

  exception-named : (f : Failure) → ByGuest g h c a f (exception_sought g (view g h) c a f)
  unfolding exception_sought guest_sought
  exception-named f =
      by_either_test Named' (eqb f.code protection) (λ _. none_named f) λ other.
      by_either_test Named' (not (dat_on c)) (λ _. none_named f) λ dat.
      by_either_test Named' (not (format_good c)) (λ _. none_named f) λ format.
      let side = guest-side (way seen (control c 1) a) in
      let tells = guest_tells (not-false _ dat) (not-false _ format) (went seen (control c 1) a) in
      record {
        side = side.0;
        none = side.1;
        protected = λ e. absurd (eqb-false f.code protection other e);
        read = tells.read;
        given = tells.given;
      }
    where
      Named' : Sought → Type 0
      Named' = ByGuest g h c a f

  -- what the host is asked for

  -- a failure of the guest, or a fault of an address that the host is asked for
  abbrev AskedFor : Failure → Type 0
  AskedFor f = f.host ≡ true → Asked g h c a f.address

  not_asked : (f : Failure) → f.host ≡ false → AskedFor f
  not_asked f guest host = absurd (false≢true (sym guest ∙ host))

  -- by what the view lacks
  asked_at : (at : ℕ) (f : Failure) → view g h at ≡ absent f → Asked g h c a (host_virtual g at) → AskedFor f
  asked_at at f lacks asked host = subst (Asked g h c a) (sym (lacks_by_host g h at f lacks host).1) asked

  walk_asked : dat_on c ≡ true → format_good c ≡ true → GoodWalk AskedFor (walk seen (walk_exception a) (control c 1) a)
  unfolding found_by
  walk_asked dat format = rw walk_by_way (by_way (went seen (control c 1) a))
    where
      coded : (code : ℕ) → GoodWalk AskedFor (Err (walk_exception a code))
      coded code = fails (not_asked (walk_exception a code) (exception_of-guest a code))

      by_way : {w : Way} → Went seen (control c 1) a w → GoodWalk AskedFor (found_by (walk_exception a) w)
      by_way (past_segments past) = coded _
      by_way (lacks_segment is) = fails (asked_at _ _ (entry_lacks g (view g h) _ _ is) (for_segment dat))
      by_way (bad_segment segment) = coded _
      by_way (past_pages segment past) = coded _
      by_way (lacks_page to is) =
          fails (asked_at _ _ (entry_lacks g (view g h) _ _ is) (for_page _ (segment-read dat format to.segment)))
      by_way (bad_page to is) = coded _
      by_way (good_page to is) = finds

  page_asked : GoodWalk AskedFor (real_page g (view g h) c a)
  unfolding real_page
  page_asked =
      by_either_test (GoodWalk AskedFor) (not (dat_on c)) (λ _. finds) λ dat.
      by_either_test (GoodWalk AskedFor) (not (format_good c)) (λ _. fails (not_asked (exception_of translation_specification) refl)) λ format.
      walk_asked (not-false _ dat) (not-false _ format)

  access_asked : (store : Bool) → Good (view g h) AskedFor (access g (view g h) c store a)
  unfolding access in_page
  access_asked store =
      on_either_arm (Good (view g h) AskedFor) (store && low_protected c a) (denies (not_asked (exception_of protection) refl))
      (by_walk (real_page g (view g h) c a) refl page_asked)
    where
      by_walk : (w : Walk) → real_page g (view g h) c a ≡ w → GoodWalk AskedFor w → Good (view g h) AskedFor (in_page g (view g h) c store a w)
      by_walk (Err f) is (fails asked) = denies asked
      by_walk (Ok page) is finds =
          let asked = for_byte page.frame page.protected is in
          settle-good g (view g h) AskedFor store _ _ (λ f lacks. asked_at _ f lacks asked)
          (λ key guards. not_asked (exception_of protection) refl) (λ host. asked)

  -- an access that is denied names its table
  denied-named : (store : Bool) (f : Failure) → access g (view g h) c store a ≡ denied f → Named g h c a f (sought g h c a f)
  unfolding sought
  denied-named store f is = record {
    by_host =
        λ host. (
          by_access (subst (Good _ _) is (access_asked store)) host,
          by_either_test (ByHost h.designation h.storage f) f.host (λ _. fault_named h.designation h.storage f)
              (λ guest. absurd (false≢true (sym guest ∙ host))),
        );
    by_guest =
        λ guest.
        by_either_test (ByGuest g h c a f) f.host (λ host. absurd (false≢true (sym guest ∙ host))) (λ _. exception-named f);
  }
    where
      by_access : Good (view g h) AskedFor (denied f) → AskedFor f
      by_access (denies asked) = asked

  -- one that reaches its byte fails by nothing
  pub reached_goes : (store : Bool) (l : Located) (f : Failure) (s : Sought) → access g (view g h) c store a ≡ reached l
      → translated_to g h c a (reached l) ≡ Ok (translated.Failed f s) → ⊥
  unfolding translated_to address_in
  reached_goes store l f s is e =
      let page = stands_on_page g h l.absolute (by_access (subst (Good _ _) is (access_asked store))) in
      let address = rw page.page at e in
      let z : ◌≡◌ {A = ℕ} 0 1 = cc in
      omega arith
    where
      by_access : Good (view g h) AskedFor (reached l) → Stands (view g h) l.absolute
      by_access (reaches s) = s

pub translations_name_the_table : TranslationsNameTheTable
unfolding translate translated_as translated_to
translations_name_the_table r h a kind f s = by_verdict (translate_verdict r h.storage h.keys kind)
  where
    g : Guest
    g = guest_of r

    c : Cpu
    c = cpu_of r

    store : Bool
    store = eqb kind 1

    by_access : (x : Access) → access g (view g h) c store (wrap c a) ≡ x → translated_to g h c (wrap c a) x ≡ Ok (translated.Failed f s)
        → Named g h c (wrap c a) f s
    by_access (denied f') is e =
        let same : f' ≡ f = cc in
        let table : sought g h c (wrap c a) f ≡ s = cc in
        subst (Named g h c (wrap c a) f) table (denied-named g h c (wrap c a) store f (is ∙ ap denied same))
    by_access (reached l) is e = absurd (reached_goes g h c (wrap c a) store l f s is e)

    by_verdict : (v : Verdict) → translated_as r h a kind v ≡ Ok (translated.Failed f s) → Named g h c (wrap c a) f s
    by_verdict (Err number) e = let z : ◌≡◌ {A = ℕ} 0 1 = cc in absurd (omega arith)
    by_verdict (Ok _) e =
        on_either_arm (λ t. t ≡ Ok (translated.Failed f s) → Named g h c (wrap c a) f s) (entry_good g && translates c)
        (by_access (access g (view g h) c store (wrap c a)) refl) (λ e. let z : ◌≡◌ {A = ℕ} 0 1 = cc in absurd (omega arith)) e

pub runs_name_the_table : RunsNameTheTable
unfolding result_of end_sought
runs_name_the_table = record {
  faults =
      λ n r storage keys f units.
      run_of_cases n r storage keys (λ (x : Result). x.answer ≡ run_answer (HostFault f) units → ByHost n.designation x.storage f x.table)
      (λ number refused e. let z : ◌≡◌ {A = ℕ} 0 1 = cc in absurd (omega arith))
      (λ accepted bad e. let ends : ◌≡◌ {A = End} (Intercepted why.Validity) (HostFault f) = same_end e in let z : ◌≡◌ {A = ℕ} 0 1 = cc in absurd (omega arith))
      (λ accepted good e. faulted n (run n.budget n (machine_of n r storage keys)) f (same_end e));
  others =
      λ n r storage keys.
      run_of_cases n r storage keys
      (λ (x : Result). ((f : Failure) (units : ℕ) → x.answer ≡ run_answer (HostFault f) units → ⊥) → x.table ≡ nowhere)
      (λ number refused other. refl) (λ accepted bad other. refl)
      (λ accepted good. unfaulted n (run n.budget n (machine_of n r storage keys)));
}
  where
    faulted : (n : Numbers) (e : Ended) (f : Failure) → e.end ≡ HostFault f
        → ByHost n.designation e.machine.storage f (end_sought n.designation e.machine.storage e.end)
    faulted n e f is = rw is (fault_named n.designation e.machine.storage f)

    by_end : (d : ℕ) (s : List ℕ) (e : End) → ((f : Failure) → e ≡ HostFault f → ⊥) → end_sought d s e ≡ nowhere
    by_end d s (Intercepted reason) other = refl
    by_end d s (HostFault f) other = absurd (other f refl)
    by_end d s BudgetUsed other = refl

    unfaulted : (n : Numbers) (e : Ended) → ((f : Failure) (units : ℕ) → (result_of n e).answer ≡ run_answer (HostFault f) units → ⊥)
        → (result_of n e).table ≡ nowhere
    unfaulted n e other = by_end _ _ e.end (λ f is. other f e.units (ap (λ x. run_answer x e.units) is))
