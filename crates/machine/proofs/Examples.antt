-- The starred examples of document 01 and those of the table that was bad hold: specs/Examples.
use Rattle.std.specs.Prelude.{Err, Ok}
use Prim.Native.Nat.{ℕ, ◌+◌, ◌-◌, ◌*◌, ◌/◌, ◌%◌, ◌^◌, ◌<◌, ◌≤◌}
use native.Mathlib.Nat.{zero-add, div-add-mod'}
use native.Mathlib.Omega.{arith}
use mathlib.Core.Path.{◌≡◌, refl, ap, ◌∙◌}
use mathlib.Core.Bool.{Bool, true, false, cond, not}
use mathlib.Core.List.{List, [], ◌++◌}
use lib.Dec.{eqb}
use lib.ListN.{length}
use lib.Seq.{get_or-set_same}
use borrow.Author.Tests.{lt-ltb, le-ltb, le-leb, eqb-true}
use Rattle.machine.specs.declared.Class.TheVariants.{Ar}
use Rattle.machine.specs.declared.Cpu.{Cpu}
use Rattle.machine.specs.declared.End.TheVariants.{HostFault}
use Rattle.machine.specs.declared.Guest.{Guest}
use Rattle.machine.specs.declared.Stage.TheVariants.{GuestSegment, GuestPage, HostPage}
use Rattle.machine.specs.declared.Translated.{Translated}
use Rattle.machine.specs.declared.Translated.TheVariants as translated
use Rattle.machine.specs.Words.{bits, word_at}
use Rattle.machine.specs.Record.{guest_of, cpu_of}
use Rattle.machine.specs.Entry.{extent_bytes, extent_fits, prefix_fits, prefix_short, entry_good}
use Rattle.machine.specs.Psw.{psw_bit, dat_on, condition_code, instruction_address, overflow_enabled, wrap, with_psw, with_timer, control, general, with_general, with_address, advanced, with_condition_code}
use Rattle.machine.specs.Time.{guest_clock, comparator_due, timer_due, timer_after, charged}
use Rattle.machine.specs.Failures.{addressing, segment_translation, page_translation, translation_specification, host_fault, exception_of, walk_exception}
use Rattle.machine.specs.Walk.{walk_page, walk_segment, walk, Walk, at_frame}
use Rattle.machine.specs.Host.{Host, Cell, host_entry, in_storage, host_page, backing, in_frame, cell_of, view}
use Rattle.machine.specs.Addresses.{prefixed, entry_of, guest_entry, format_good, real_page, settle, key_protects, in_page, access, denied}
use Rattle.machine.specs.Outcomes.{Effects, completed, Progress}
use Rattle.machine.specs.Execute.{r1, r2, next, finish, sum_code, with_sum, summed, add, execute}
use Rattle.machine.specs.Sought.{Way, leads, stops, unread, way_of_page, way_of_segment, way, found_by, nowhere, guest_sought_by, guest_sought, host_sought_by, host_sought, fault_sought, exception_sought, sought, end_sought}
use Rattle.machine.specs.Operations.{address_in, translated_to, translates, translated_as, translate}
use Rattle.machine.specs.Examples.{Setup, StarredExamples, GuestTables, WhichTableExamples}
use Rattle.machine.proofs.Tests.{on_either_arm}
use Rattle.machine.proofs.Ways.{walk_by_way}
use Rattle.machine.specs.Refusals.{Answer}

-- prefix 0 exchanges nothing
unprefixed : (g : Guest) (a : ℕ) → g.prefix ≡ 0 → prefixed g a ≡ a
unfolding prefixed
unprefixed g a none = rw none (go (eqb (a / 4096) 0) refl)
  where
    go : (b : Bool) → eqb (a / 4096) 0 ≡ b → cond b (0 + a % 4096) (cond b (a % 4096) a) ≡ a
    go true e = let zero : a / 4096 ≡ 0 = eqb-true _ _ e in omega arith
    go false e = refl

-- what a fetch answers by the host's page
abbrev answered_by : List ℕ → Host → ℕ → Walk → Answer Translated
answered_by r h a (Err f) = Ok (translated.Failed f (sought (guest_of r) h (cpu_of r) a f))
answered_by r h a (Ok page) = Ok (translated.Address (in_frame page.frame a))

module _ (r : List ℕ) (h : Host) (s : Setup r h) where
  entry-good : entry_good (guest_of r) ≡ true
  unfolding entry_good extent_fits prefix_fits prefix_short
  entry-good = rw (s.mode, s.origin, s.extent, s.prefix)

  wrapped : (a : ℕ) → a < 2 ^ 31 → wrap (cpu_of r) a ≡ a
  unfolding wrap
  wrapped a small = rw s.bit32 (omega arith)

  -- with DAT off, prefix 0 and key 0 a fetch meets no test but the host's
  fetched : (a : ℕ) → a < 2 ^ 31 → translate r h a 0 ≡ answered_by r h a (backing (guest_of r) h a)
  unfolding translate translated_as translates translated_to access real_page in_page view key_protects cell_of settle address_in
  fetched a small =
      rw (s.accepted, entry-good, wrapped, s.dat_off, div-add-mod', unprefixed, s.prefix)
      (go (backing (guest_of r) h a) refl)
    where
      go : (w : Walk) → backing (guest_of r) h a ≡ w
          → translated_to (guest_of r) h (cpu_of r) a (settle (guest_of r) false (key_protects (cpu_of r) false) a (cell_of h a w)) ≡ answered_by r h a w
      go (Err f) e = refl
      go (Ok page) e = rw (s.key, e)

  -- in the one block of the guest, the word of the page's entry decides
  backed_in_block : (a w : ℕ) → a < 65536 → word_at h.storage (8192 + a / 4096 * 4) ≡ w
      → backing (guest_of r) h a ≡ in_storage h.storage a (walk_page (host_fault a) (Ok w))
  unfolding backing host_page walk walk_segment host_entry
  backed_in_block a w inside word =
      let segment : a / 1048576 ≡ 0 = omega arith in
      let page : a / 4096 % 256 ≡ a / 4096 = omega arith in
      let row : a / 4096 / 16 ≡ 0 = omega arith in
      let read : 8192 + a / 4096 * 4 + 4 ≤ length h.storage = omega arith in
      rw (s.extent, s.origin, lt-ltb, zero-add, s.designation, segment, s.frames, s.segment, page, row, le-leb, word)

  fetched_in_block : (a w : ℕ) → a < 65536 → word_at h.storage (8192 + a / 4096 * 4) ≡ w
      → translate r h a 0 ≡ answered_by r h a (in_storage h.storage a (walk_page (host_fault a) (Ok w)))
  fetched_in_block a w inside word = fetched a (omega arith) ∙ ap (answered_by r h a) (backed_in_block a w inside word)

  -- page 0 stands in frame 3
  fetched_from_page_0 : (a : ℕ) → a < 4096 → translate r h a 0 ≡ Ok (translated.Address (3 * 4096 + a % 4096))
  unfolding in_storage walk_page
  fetched_from_page_0 a inside =
      let page : a / 4096 ≡ 0 = omega arith in
      rw (fetched_in_block a 0x3000 (omega arith) (rw page s.page), s.frames)

  -- the page entry at 2004 hex is invalid
  fault_at_4096 : fault_sought h.designation h.storage (host_fault 4096 page_translation) ≡ record { stage = HostPage; entry = 0x2004 }
  unfolding fault_sought host_sought host_sought_by way way_of_segment way_of_page host_entry
  fault_at_4096 = simp (s.designation, s.frames, s.segment, s.page_after)

  behind_any_address_lem : (g : Guest) (c : Cpu) (a : ℕ) → sought g h c a (host_fault 4096 page_translation) ≡ record { stage = HostPage; entry = 0x2004 }
  unfolding sought
  behind_any_address_lem g c a = fault_at_4096

  end_of-run : end_sought h.designation h.storage (HostFault (host_fault 4096 page_translation)) ≡ record { stage = HostPage; entry = 0x2004 }
  unfolding end_sought
  end_of-run = fault_at_4096

  fetch_at_4096 : translate r h 4096 0 ≡ Ok (translated.Failed (host_fault 4096 page_translation) (record { stage = HostPage; entry = 0x2004 }))
  unfolding in_storage walk_page
  fetch_at_4096 =
      fetched_in_block 4096 0x0400 (omega arith) s.page_after
      ∙ ap (λ s. Ok (translated.Failed (host_fault 4096 page_translation) s)) (behind_any_address_lem (guest_of r) (cpu_of r) 4096)

  frame_beyond_storage_lem : word_at h.storage 8200 ≡ 0x8000
      → translate r h 8192 0 ≡ Ok (translated.Failed (host_fault 8192 addressing) (record { stage = HostPage; entry = 0x2008 }))
  unfolding in_storage walk_page sought fault_sought host_sought host_sought_by way way_of_segment way_of_page host_entry
  frame_beyond_storage_lem word =
      rw (fetched_in_block 8192 0x8000 (omega arith) word) (simp (s.designation, s.frames, s.segment, word))

  fetch_at_65536 : translate r h 65536 0 ≡ Ok (translated.Failed (exception_of addressing) nowhere)
  unfolding backing sought exception_sought guest_sought
  fetch_at_65536 = rw (fetched 65536 (omega arith), s.extent, s.dat_off)

-- a guest table entry past the extent
entry_past : (g : Guest) (h : Host) (real : ℕ) → extent_bytes g ≤ prefixed g real → guest_entry g (view g h) real ≡ Err (exception_of addressing)
unfolding guest_entry entry_of view cell_of backing
entry_past g h real past = rw (le-ltb (prefixed g real) (extent_bytes g) past)

module _ (g : Guest) (h : Host) (c : Cpu) where
  module _ (t : GuestTables c) where
    segment_past : sought g h c 0x01000000 (walk_exception 0x01000000 segment_translation) ≡ record { stage = GuestSegment; entry = 0 }
    unfolding sought exception_sought guest_sought guest_sought_by way walk_exception
    segment_past = simp (t.dat, t.format, t.designation)

    segment_invalid_lem : guest_entry g (view g h) 0x1004 ≡ Ok 0x20
        → sought g h c 0x00100000 (walk_exception 0x00100000 segment_translation) ≡ record { stage = GuestSegment; entry = 0x1004 }
    unfolding sought exception_sought guest_sought guest_sought_by way way_of_segment walk_exception
    segment_invalid_lem segment = simp (t.dat, t.format, t.designation, segment)

    page_past : guest_entry g (view g h) 0x1000 ≡ Ok 0x2000
        → sought g h c 0x00010000 (walk_exception 0x00010000 page_translation) ≡ record { stage = GuestPage; entry = 0 }
    unfolding sought exception_sought guest_sought guest_sought_by way way_of_segment walk_exception
    page_past segment = simp (t.dat, t.format, t.designation, segment)

    page_invalid_lem : guest_entry g (view g h) 0x1000 ≡ Ok 0x2000 → guest_entry g (view g h) 0x2004 ≡ Ok 0x0400
        → sought g h c 0x1000 (walk_exception 0x1000 page_translation) ≡ record { stage = GuestPage; entry = 0x2004 }
    unfolding sought exception_sought guest_sought guest_sought_by way way_of_segment way_of_page walk_exception
    page_invalid_lem segment page = simp (t.dat, t.format, t.designation, segment, page)

    segment_past_extent_lem : extent_bytes g ≤ prefixed g 0x1000 → sought g h c 0 (exception_of addressing) ≡ record { stage = GuestSegment; entry = 0 }
    unfolding sought exception_sought guest_sought guest_sought_by way way_of_segment
    segment_past_extent_lem past = simp (t.dat, t.format, t.designation, entry_past g h 0x1000 past)

    page_past_extent_lem : guest_entry g (view g h) 0x1000 ≡ Ok 0x2000 → extent_bytes g ≤ prefixed g 0x2000
        → sought g h c 0 (exception_of addressing) ≡ record { stage = GuestPage; entry = 0 }
    unfolding sought exception_sought guest_sought guest_sought_by way way_of_segment way_of_page
    page_past_extent_lem segment past = simp (t.dat, t.format, t.designation, segment, entry_past g h 0x2000 past)

  bad_format_lem : (a : ℕ) → format_good c ≡ false → sought g h c a (exception_of translation_specification) ≡ nowhere
  unfolding sought exception_sought guest_sought
  bad_format_lem a bad = rw bad (on_either_arm (λ x. x ≡ nowhere) (not (dat_on c)) refl refl)

  -- tables that led to a page are not what was bad
  final_past_extent_lem : (a frame : ℕ) (protected : Bool) → real_page g (view g h) c a ≡ at_frame frame protected
      → sought g h c a (exception_of addressing) ≡ nowhere
  unfolding sought exception_sought guest_sought guest_sought_by found_by real_page
  final_past_extent_lem a frame protected is = by_tests (not (dat_on c)) (not (format_good c)) is
    where
      by_way : (w : Way) → found_by (walk_exception a) w ≡ at_frame frame protected → guest_sought_by w ≡ nowhere
      by_way (leads at p) e = refl
      by_way (stops table at code) e = let z : ◌≡◌ {A = ℕ} 0 1 = cc in absurd (omega arith)
      by_way (unread table f) e = let z : ◌≡◌ {A = ℕ} 0 1 = cc in absurd (omega arith)

      by_tests : (b b' : Bool)
          → cond b (at_frame (a / 4096) false) (cond b' (Err (exception_of translation_specification)) (walk (guest_entry g (view g h)) (walk_exception a) (control c 1) a)) ≡ at_frame frame protected
          → cond b nowhere (cond b' nowhere (guest_sought_by (way (guest_entry g (view g h)) (control c 1) a))) ≡ nowhere
      by_tests true b' e = refl
      by_tests false true e = refl
      by_tests false false e = by_way (way (guest_entry g (view g h)) (control c 1) a) (rw walk_by_way at e)

-- prefix 2000 hex exchanges blocks 0 and 2
prefixed_by_2000 : (r : List ℕ) → word_at r 8 ≡ 0x2000 → (a : ℕ)
    → prefixed (guest_of r) a ≡ cond (eqb (a / 4096) 0) (0x2000 + a % 4096) (cond (eqb (a / 4096) 2) (a % 4096) a)
unfolding prefixed guest_of
prefixed_by_2000 r word a = rw word

segment_past_table_lem : (g : Guest) (v : ℕ → Cell) (c : Cpu) → dat_on c ≡ true → format_good c ≡ true → bits 32 25 31 (control c 1) ≡ 0
    → access g v c false 0x01000000 ≡ denied (record { host = false; code = segment_translation; address = 0x01000000 })
unfolding access real_page in_page walk walk_exception
segment_past_table_lem g v c on format short = rw (on, format, short)

timer_at_0 : (c : Cpu) → c.timer ≡ 5 → ((charged c 5).timer ≡ 0) × (timer_due (charged c 5) ≡ false)
unfolding charged timer_after with_timer timer_due
timer_at_0 c five = (rw five, rw five)

timer_below_0 : (c : Cpu) → c.timer ≡ 5 → ((charged (charged c 5) 5).timer ≡ 2 ^ 64 - 5) × (timer_due (charged (charged c 5) 5) ≡ true)
unfolding charged timer_after with_timer timer_due
timer_below_0 c five = (rw five, rw five)

timer_wraps_lem : (c : Cpu) → c.timer ≡ 2 ^ 63 → (charged c 1).timer ≡ 2 ^ 63 - 1
unfolding charged timer_after with_timer
timer_wraps_lem c most = rw most

comparator_reached_lem : (g : Guest) (clock : ℕ) → guest_clock g clock ≡ g.comparator → comparator_due g clock ≡ false
unfolding comparator_due
comparator_reached_lem g clock reached = le-ltb g.comparator (guest_clock g clock) (omega arith)

bit_below : (x : ℕ) → x % 2 ^ 18 / 2 ^ 5 % 2 ≡ x / 2 ^ 5 % 2
bit_below x = omega arith

-- the condition code that was set, in each form of the PSW
code_set : (c : Cpu) (code : ℕ) → code < 4 → condition_code (with_condition_code c code) ≡ code
unfolding with_condition_code with_psw
code_set c code small = by_form c.psw.system370 refl (psw_bit 12 c) refl
  where
    set : ℕ
    set = bits 32 0 17 c.psw.left * 2 ^ 14 + code * 2 ^ 12 + bits 32 20 31 c.psw.left

    kept : set / 2 ^ 19 % 2 ≡ c.psw.left / 2 ^ 19 % 2
    kept =
        let high : set / 2 ^ 14 ≡ bits 32 0 17 c.psw.left = omega arith in
        let first : set / 2 ^ 19 ≡ set / 2 ^ 14 / 2 ^ 5 = omega arith in
        let second : c.psw.left / 2 ^ 19 ≡ c.psw.left / 2 ^ 14 / 2 ^ 5 = omega arith in
        rw (first, second, high) (bit_below (c.psw.left / 2 ^ 14))

    by_form : (a : Bool) → c.psw.system370 ≡ a → (b : Bool) → psw_bit 12 c ≡ b → condition_code (with_condition_code c code) ≡ code
    by_form true e true f = rw (e, f, kept, f) (omega arith)
    by_form true e false f = rw (e, f, f) (omega arith)
    by_form false e b f = rw e (omega arith)

-- another address leaves it
code_kept : (c : Cpu) (a : ℕ) → condition_code (with_address c a) ≡ condition_code c
unfolding with_address with_psw wrap
code_kept c a = by_form c.psw.system370 refl (psw_bit 12 c) refl
  where
    by_form : (s : Bool) → c.psw.system370 ≡ s → (b : Bool) → psw_bit 12 c ≡ b → condition_code (with_address c a) ≡ condition_code c
    by_form true e true f = rw (e, f)
    by_form true e false f = rw (e, f) (omega arith)
    by_form false e b f = rw e

add_overflows_lem : (x : Progress) → length x.cpu.general.words ≡ 16 → general x.cpu (r1 x) ≡ 0x7fffffff → general x.cpu (r2 x) ≡ 1
    → overflow_enabled x.cpu ≡ false
    → (c : Cpu) × (e : Effects) × (execute Ar x ≡ completed c e) × (general c (r1 x) ≡ 0x80000000) × (condition_code c ≡ 3)
unfolding execute add summed with_sum sum_code finish advanced with_address with_condition_code with_general with_psw
add_overflows_lem x sixteen most one disabled = (
  next x summed,
  record { fetched = x.fetched ++ []; stores = [] },
  rw (most, one, disabled),
  get_or-set_same x.cpu.general.words (r1 x) 0x80000000 0 (omega arith),
  code_kept summed (instruction_address summed + 2 * x.text.ilc) ∙ code_set (with_general x.cpu (r1 x) 0x80000000) 3 (omega arith),
)
  where
    summed : Cpu
    summed = with_sum x.cpu (r1 x) 0x80000000 true

pub starred_examples : StarredExamples
starred_examples = record {
  fetch_at0 = λ r h s. fetched_from_page_0 r h s 0 (omega arith);
  fetch_at4095 = λ r h s. fetched_from_page_0 r h s 4095 (omega arith);
  fetch_at4096 = fetch_at_4096;
  fetch_at65536 = fetch_at_65536;
  prefix_for0 = λ r word. prefixed_by_2000 r word 0;
  prefix_for2010 = λ r word. prefixed_by_2000 r word 0x2010;
  prefix_for1000 = λ r word. prefixed_by_2000 r word 0x1000;
  segment_past_table = segment_past_table_lem;
  timer_at0 = timer_at_0;
  timer_below0 = timer_below_0;
  timer_wraps = timer_wraps_lem;
  comparator_reached = comparator_reached_lem;
  add_overflows = add_overflows_lem;
}

pub which-table_examples : WhichTableExamples
unfolding sought fault_sought exception_sought
which-table_examples = record {
  segment_past_table = segment_past;
  segment_invalid = segment_invalid_lem;
  page_past_table = page_past;
  page_invalid = page_invalid_lem;
  segment_past_extent = segment_past_extent_lem;
  page_past_extent = page_past_extent_lem;
  final_past_extent = final_past_extent_lem;
  bad_format = bad_format_lem;
  guest_protection = λ g h c a. refl;
  host_protection = λ g h c a at. refl;
  behind_any_address = behind_any_address_lem;
  end_of_run = end_of-run;
  frame_beyond_storage = frame_beyond_storage_lem;
}
