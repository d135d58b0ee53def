-- What a unit does through the view: it completes with places where something stands, and faults by the host alone, with protection or for
-- an address of the extent.
use Rattle.std.specs.Prelude.{Err, Ok}
use Prim.Native.Nat.{ℕ, zero, suc, ◌+◌, ◌*◌, ◌/◌, ◌%◌, ◌≤◌, ◌<◌}
use native.Mathlib.Omega.{arith}
use mathlib.Core.Path.{◌≡◌, refl, sym, ap, ◌∙◌, subst}
use mathlib.Core.Bool.{Bool, true, false, ◌&&◌, false≢true}
use mathlib.Core.List.{List, [], ◌∷◌, ◌++◌}
use mathlib.Core.Logic.{inl, inr}
use borrow.Author.Tests.{eq-eqb, lt-ltb}
use lib.Dec.{eqb, ltb}
use lib.ListN.{length}
use Rattle.machine.specs.declared.Class.{Class}
use Rattle.machine.specs.declared.Class.TheVariants.{Lr, Ar, Sr, Bcr, Svc, La, Bc, St, L, Lpsw, Stctl, Lctl, Stck, Spt, Stpt, Mandatory, Unassigned}
use Rattle.machine.specs.declared.Cpu.{Cpu}
use Rattle.machine.specs.declared.End.{End}
use Rattle.machine.specs.declared.End.TheVariants.{Intercepted, HostFault}
use Rattle.machine.specs.declared.Failure.{Failure}
use Rattle.machine.specs.declared.Guest.{Guest}
use Rattle.machine.specs.declared.Numbers.{Numbers}
use Rattle.machine.specs.declared.Opcode.{Opcode}
use Rattle.machine.specs.declared.Reason.{Reason}
use Rattle.machine.specs.declared.Reason.TheVariants.{Validity}
use Rattle.machine.specs.declared.Text.{Text}
use Rattle.machine.specs.Record.{guest_of}
use Rattle.machine.specs.Sizes.{page_bytes}
use Rattle.machine.specs.Entry.{extent_bytes, entry_good}
use Rattle.machine.specs.Interval.{word_place}
use Rattle.machine.specs.Psw.{basic_control, control, instruction_address}
use Rattle.machine.specs.Failures.{protection, addressing, translation_specification, is_translation, host_fault, exception_of, walk_exception}
use Rattle.machine.specs.Walk.{walk, Walk}
use Rattle.machine.specs.Host.{Host, Cell, absent, present, Located, places, host_virtual, host_entry, in_storage, host_page, backing, cell_of, view}
use Rattle.machine.specs.Addresses.{prefixed, entry_of, guest_entry, real_page, Access, reached, denied, settle, real_access, in_page, low_protected, access, Accesses, all, stopped, and_then, accesses, up_from, when_reached}
use Rattle.machine.specs.Outcomes.{Effects, Outcome, completed, intercepted, faulted, Progress}
use Rattle.machine.specs.Interruptions.{with_bytes, Areas, program_areas, code_fields, fields_beside, interrupt, after_exception, program_fields, exception}
use Rattle.machine.specs.Execute.{immediate, next, finish, fetching, storing, summed, branch, execute, load_register, add, subtract, branch_register, branch_indexed, supervisor_call, load_address, store, load, load_psw, store_control, load_control, store_clock, set_timer, store_timer, intercept_instruction}
use Rattle.machine.specs.Units.{decoded, halfword, reading, fetch_third, fetch_second, started, instruction, unit}
use Rattle.machine.specs.Run.{Machine, counted, onward, host_of, unit_from, behind_of, after_unit, with_tick, with_word, word_accesses, Step, goes, step, run}
use Rattle.machine.specs.Operations.{result_of, machine_of}
use Rattle.machine.specs.Theorems.{HasPage, Each, none, more, EffectsAreBacked, WordIsBacked, FaultsAreTheHosts}
use Rattle.machine.proofs.Tests.{on_either_arm, by_test}
use Rattle.machine.proofs.Laws.{guest_of-with_cpu, guest_of-with_results, guest_of-with_request, guest_of-with_interval}
use Rattle.machine.proofs.Runs.{exit_keeps, step_cases, left_by_lem, step_keeps, same_end, run_of_cases}
use Rattle.machine.proofs.Entry.{entry-placed}
use Rattle.machine.proofs.Ways.{GoodWalk, finds, fails, walk-good}
use Rattle.machine.proofs.Backing.{page_in_extent, read_or_not, OfExtent}
use Rattle.machine.specs.Answers.{run_answer}

each_append : {P : ℕ → Type 0} {l m : List ℕ} → Each P l → Each P m → Each P (l ++ m)
each_append none h = h
each_append (more p e) h = more p (each_append e h)

-- bytes are stored at places that were reached
each_with_bytes : {P : ℕ → Type 0} (ls : List Located) (bytes : List ℕ) → Each P (places ls) → Each P (places (with_bytes ls bytes))
unfolding with_bytes
each_with_bytes [] bytes h = none
each_with_bytes (l ∷ ls) [] h = none
each_with_bytes (l ∷ ls) (b ∷ bytes) (more p e) = more p (each_with_bytes ls bytes e)

each_up_from : (limit a n : ℕ) → a + n ≤ limit → Each (λ i. i < limit) (up_from a n)
unfolding up_from
each_up_from limit a zero h = none
each_up_from limit a (suc n) h = more {a = a} (omega arith) (each_up_from limit (a + 1) n (omega arith))

-- the code fields of a program interruption are eight bytes at most
fields_short : (x : Progress) (f : Failure) → length (program_fields x f) ≤ 8
unfolding program_fields
fields_short x f = on_either_arm (λ address. length (code_fields x.text.ilc f.code ++ address) ≤ 8) (is_translation f.code) (omega arith) (omega arith)

-- beside a BC PSW there are none
beside_short : (c : Cpu) (fields : List ℕ) (most : ℕ) → length fields ≤ most → length (fields_beside c fields) ≤ most
unfolding fields_beside
beside_short c fields most short = on_either_arm (λ (l : List ℕ). length l ≤ most) (basic_control c) (omega arith) short

-- something stands at a guest absolute address
pub record Stands (v : ℕ → Cell) (a : ℕ) : Type 0 where
  pub byte : ℕ
  pub key : ℕ
  pub protected : Bool
  pub cell : v a ≡ present byte key protected

-- an access that reaches a place where something stands, or fails so
pub data Good (v : ℕ → Cell) (Q : Failure → Type 0) : Access → Type 0 where
  reaches : {l : Located} → Stands v l.absolute → Good v Q (reached l)
  denies : {f : Failure} → Q f → Good v Q (denied f)

data GoodAll (v : ℕ → Cell) (Q : Failure → Type 0) : Accesses → Type 0 where
  reaches_all : {ls : List Located} → Each (Stands v) (places ls) → GoodAll v Q (all ls)
  stops : {f : Failure} → Q f → GoodAll v Q (stopped f)

-- a unit that completes with places where something stands, or ends without, a host fault being so
data Sound (v : ℕ → Cell) (H : Failure → Type 0) : Outcome → Type 0 where
  completes : {c : Cpu} {e : Effects} → Each (Stands v) e.fetched → Each (Stands v) (places e.stores) → Sound v H (completed c e)
  exits : {r : Reason} {c : Cpu} → Sound v H (intercepted r c)
  faults : {f : Failure} → H f → Sound v H (faulted f)

-- the last tests of a byte
pub settle-good : (g : Guest) (v : ℕ → Cell) (Q : Failure → Type 0) (store : Bool) (protects : ℕ → Bool) (a : ℕ)
    → ((f : Failure) → v a ≡ absent f → Q f) → ((key : ℕ) → protects key ≡ true → Q (exception_of protection))
    → Q (host_fault (host_virtual g a) protection) → Good v Q (settle g store protects a (v a))
unfolding settle
settle-good g v Q store protects a lacks guards hosts = by_cell (v a) refl
  where
    by_cell : (cell : Cell) → v a ≡ cell → Good v Q (settle g store protects a cell)
    by_cell (absent f) e = denies (lacks f e)
    by_cell (present byte key protected) e =
        by_test (Good v Q) (protects key) (λ h. denies (guards key h))
        (on_either_arm (Good v Q) (store && protected) (denies hosts)
        (reaches (record { byte = byte; key = key; protected = protected; cell = e })))

-- a guest table entry that cannot be read is one that the view lacks
pub entry_lacks : (g : Guest) (v : ℕ → Cell) (real : ℕ) (f : Failure) → guest_entry g v real ≡ Err f → v (prefixed g real) ≡ absent f
unfolding guest_entry entry_of
entry_lacks g v real f is = by_cell (v (prefixed g real)) is
  where
    by_cell : (cell : Cell) → entry_of v (prefixed g real) cell ≡ Err f → cell ≡ absent f
    by_cell (absent f') e = cc
    by_cell (present byte key protected) e = let z : ◌≡◌ {A = ℕ} 0 1 = cc in absurd (omega arith)

pub exception_of-guest : (a code : ℕ) → (walk_exception a code).host ≡ false
unfolding walk_exception
exception_of-guest a code = refl

-- what holds of each host fault of a view, protection among them; what the prefix page lacks, it lacks by a host fault
record Faults (g : Guest) (v : ℕ → Cell) (H : Failure → Type 0) : Type 0 where
  lacking : (a : ℕ) (f : Failure) → v a ≡ absent f → f.host ≡ true → H f
  guarded : (a : ℕ) → H (host_fault a protection)
  covered : (i : ℕ) (f : Failure) → i < page_bytes → v (g.prefix * page_bytes + i) ≡ absent f → H f

module _ (g : Guest) (v : ℕ → Cell) (H : Failure → Type 0) (so : Faults g v H) where
  -- a failure of the guest, or a host fault that is so
  abbrev FaultIs : Failure → Type 0
  FaultIs f = f.host ≡ true → H f

  of_guest_lem : (f : Failure) → f.host ≡ false → FaultIs f
  of_guest_lem f guest host = absurd (false≢true (sym guest ∙ host))

  real_page-good : (c : Cpu) (a : ℕ) → GoodWalk FaultIs (real_page g v c a)
  unfolding real_page
  real_page-good c a = search (on_either_arm (GoodWalk FaultIs), finds, no_format, walks)
    where
      no_format : GoodWalk FaultIs (Err (exception_of translation_specification))
      no_format = fails (of_guest_lem _ refl)

      walks : GoodWalk FaultIs (walk (guest_entry g v) (walk_exception a) (control c 1) a)
      walks =
          walk-good FaultIs (guest_entry g v) (walk_exception a) (control c 1) a (λ code. of_guest_lem _ (exception_of-guest a code))
          (λ at f is. so.lacking _ f (entry_lacks g v at f is))

  access-good : (c : Cpu) (store : Bool) (a : ℕ) → Good v FaultIs (access g v c store a)
  unfolding access in_page
  access-good c store a =
      on_either_arm (Good v FaultIs) (store && low_protected c a) (denies (of_guest_lem _ refl)) (by_walk (real_page-good c a))
    where
      by_walk : {w : Walk} → GoodWalk FaultIs w → Good v FaultIs (in_page g v c store a w)
      by_walk (fails h) = denies h
      by_walk finds = settle-good g v FaultIs store _ _ (so.lacking _) (λ key e. of_guest_lem _ refl) (λ host. so.guarded _)

  -- a byte of the prefix page fails by the host alone
  real_good : (store : Bool) (real : ℕ) → real < page_bytes → Good v H (real_access g v store real)
  unfolding real_access prefixed
  real_good store real low = rw (eq-eqb (real / page_bytes) 0 (omega arith)) (settle-good g v H store _ _ (λ f e. so.covered (real % page_bytes) f (omega arith) e) (λ key e. absurd (false≢true e)) (so.guarded _))

  accesses-good : {Q : Failure → Type 0} (one : ℕ → Access) {l : List ℕ} → Each (λ a. Good v Q (one a)) l → GoodAll v Q (accesses one l)
  unfolding accesses and_then
  accesses-good one none = reaches_all none
  accesses-good one (more p e) = both p (accesses-good one e)
    where
      both : {Q : Failure → Type 0} {x : Access} {y : Accesses} → Good v Q x → GoodAll v Q y → GoodAll v Q (and_then x y)
      both (denies q) h = stops q
      both (reaches s) (stops q) = stops q
      both (reaches s) (reaches_all e) = reaches_all (more s e)

  all_access-good : (c : Cpu) (store : Bool) (l : List ℕ) → GoodAll v FaultIs (accesses (access g v c store) l)
  all_access-good c store l = accesses-good _ (each l)
    where
      each : (l : List ℕ) → Each (λ a. Good v FaultIs (access g v c store a)) l
      each [] = none
      each (a ∷ l) = more (access-good c store a) (each l)

  all_real_good : (store : Bool) {l : List ℕ} → Each (λ i. i < page_bytes) l → GoodAll v H (accesses (real_access g v store) l)
  all_real_good store h = accesses-good _ (each h)
    where
      each : {l : List ℕ} → Each (λ i. i < page_bytes) l → Each (λ a. Good v H (real_access g v store a)) l
      each none = none
      each (more p e) = more (real_good store _ p) (each e)

  -- what holds where bytes are not reached, and where they are, holds of `when_reached`
  when_good : (P : Outcome → Type 0) {Q : Failure → Type 0} {a : Accesses} {otherwise : Failure → Outcome} {onward : List Located → Outcome} → GoodAll v Q a
      → ((f : Failure) → Q f → P (otherwise f)) → ((ls : List Located) → Each (Stands v) (places ls) → P (onward ls)) → P (when_reached a otherwise onward)
  unfolding when_reached
  when_good P (stops q) p r = p _ q
  when_good P (reaches_all e) p r = r _ e

  -- a unit in progress of this guest, whose text was fetched from places where something stands
  record Fetched (x : Progress) : Type 0 where
    guest : x.guest ≡ g
    view : x.view ≡ v
    text : Each (Stands v) x.fetched

  module _ (x : Progress) (started : Fetched x) where
    interrupt_sound : (c : Cpu) (areas : Areas) (code : ℕ) (fields : List ℕ) → areas.old + 8 ≤ page_bytes
        → areas.code + length fields ≤ page_bytes
        → areas.new + 8 ≤ page_bytes → Sound v H (interrupt x c areas code fields)
    unfolding interrupt
    interrupt_sound c areas code fields old beside new =
        rw (started.guest, started.view)
        (when_good (Sound v H) (all_real_good true (each_append (each_up_from _ _ _ old) (each_up_from _ _ _ beside))) (λ f. faults) λ stores s.
        when_good (Sound v H) (all_real_good false (each_up_from _ _ _ new)) (λ f. faults) λ fetched t.
        completes (each_append started.text t) (each_with_bytes stores _ s))

    failure_sound : (c : Cpu) (f : Failure) → FaultIs f → Sound v H (exception x c f)
    unfolding exception
    failure_sound c f is = search (by_test (Sound v H), on_either_arm (Sound v H), faults, is, exits, interrupted)
      where
        after : Cpu
        after = after_exception x c f

        interrupted : Sound v H (interrupt x after program_areas f.code (fields_beside after (program_fields x f)))
        interrupted =
            interrupt_sound _ program_areas _ _ (omega arith)
            (omega (arith, beside_short after (program_fields x f) 8 (fields_short x f))) (omega arith)

    -- a program exception that is no access's
    exception_sound : (c : Cpu) (code : ℕ) → Sound v H (exception x c (exception_of code))
    exception_sound c code = failure_sound c _ (of_guest_lem _ refl)

    operand_sound : (store : Bool) (l : List ℕ) {onward : List Located → Outcome} → ((ls : List Located) → Each (Stands v) (places ls) → Sound v H (onward ls))
        → Sound v H (when_reached (accesses (access x.guest x.view x.cpu store) l) (exception x x.cpu) onward)
    operand_sound store l after = when_good (Sound v H) good (failure_sound x.cpu) after
      where
        good : GoodAll v FaultIs (accesses (access x.guest x.view x.cpu store) l)
        good = rw (started.guest, started.view) (all_access-good x.cpu store l)

    fetching_sound : (a n : ℕ) (after : List ℕ → Cpu) → Sound v H (fetching x a n after)
    unfolding fetching finish
    fetching_sound a n after = operand_sound false _ λ operand s. completes (each_append started.text s) none

    storing_sound : (a : ℕ) (bytes : List ℕ) (c : Cpu) → Sound v H (storing x a bytes c)
    unfolding storing finish
    storing_sound a bytes c = operand_sound true _ λ operand s. completes (each_append started.text none) (each_with_bytes operand bytes s)

    finish_sound : (c : Cpu) → Sound v H (finish x c [] [])
    unfolding finish
    finish_sound c = completes (each_append started.text none) none

    summed_sound : (sum : ℕ) (overflow : Bool) → Sound v H (summed x sum overflow)
    unfolding summed
    summed_sound sum overflow = search (on_either_arm (Sound v H), exception_sound, finish_sound)

    execute_sound : (class : Class) → Sound v H (execute class x)
    unfolding execute load_register add subtract branch_register branch_indexed branch supervisor_call load_address store load load_psw
        store_control load_control store_clock set_timer store_timer intercept_instruction
    execute_sound Lr = finish_sound _
    execute_sound Ar = summed_sound _ _
    execute_sound Sr = summed_sound _ _
    execute_sound Bcr = finish_sound _
    execute_sound Svc =
        interrupt_sound _ _ _ _ (omega arith)
        (omega (arith, beside_short (next x x.cpu) (code_fields x.text.ilc (immediate x)) 4 (omega arith))) (omega arith)
    execute_sound La = finish_sound _
    execute_sound Bc = finish_sound _
    execute_sound St = storing_sound _ _ _
    execute_sound L = fetching_sound _ _ _
    execute_sound Lpsw = fetching_sound _ _ _
    execute_sound Stctl = storing_sound _ _ _
    execute_sound Lctl = fetching_sound _ _ _
    execute_sound Stck = storing_sound _ _ _
    execute_sound Spt = fetching_sound _ _ _
    execute_sound Stpt = storing_sound _ _ _
    execute_sound Mandatory = exits
    execute_sound Unassigned = exception_sound _ _

    decoded_sound : (o : Opcode) → Sound v H (decoded x o)
    unfolding decoded intercept_instruction
    decoded_sound o = search (on_either_arm (Sound v H), exits, exception_sound, execute_sound o.class)

    -- with more of the text
    reading_fetched : (t : Text) (ls : List Located) → Each (Stands v) (places ls) → Fetched (reading x t ls)
    unfolding reading
    reading_fetched t ls s = record { guest = started.guest; view = started.view; text = each_append started.text s }

  fetch_third_sound : (x : Progress) → Fetched x → Sound v H (fetch_third x)
  unfolding fetch_third halfword
  fetch_third_sound x h =
      on_either_arm (Sound v H) (ltb x.text.ilc 3) (decoded_sound x h _) (operand_sound x h false _ λ third s. decoded_sound _ (reading_fetched x h _ third s) _)

  fetch_second_sound : (x : Progress) → Fetched x → Sound v H (fetch_second x)
  unfolding fetch_second halfword
  fetch_second_sound x h =
      on_either_arm (Sound v H) (ltb x.text.ilc 2) (decoded_sound x h _) (operand_sound x h false _ λ second s. fetch_third_sound _ (reading_fetched x h _ second s))

  instruction_sound : (x : Progress) → Fetched x → Sound v H (instruction x)
  unfolding instruction halfword
  instruction_sound x h =
      on_either_arm (Sound v H) (eqb (instruction_address x.cpu % 2) 1) (exception_sound x h _ _)
      (operand_sound x h false _ λ first s. fetch_second_sound _ (reading_fetched x h _ first s))

  unit_sound : (clock : ℕ) (requested : Bool) (c : Cpu) → Sound v H (unit g clock requested v c)
  unfolding unit
  unit_sound clock requested c =
      search (on_either_arm (Sound v H), exits, exception_sound (started g clock v c 0) (fresh 0), instructed) depth 10
    where
      fresh : (ilc : ℕ) → Fetched (started g clock v c ilc)
      fresh ilc = record { guest = refl; view = refl; text = none }

      instructed : Sound v H (instruction (started g clock v c 1))
      instructed = instruction_sound (started g clock v c 1) (fresh 1)

-- a host walk fails by a host fault of its own address alone
abbrev OfAddress : ℕ → Failure → Type 0
OfAddress v f = (f.host ≡ true) × (f.address ≡ v)

entry_of-host : (s : List ℕ) (v at : ℕ) (f : Failure) → host_entry s v at ≡ Err f → OfAddress v f
entry_of-host s v at f =
    read_or_not (λ x. x ≡ Err f → OfAddress v f) s v at (λ fits e. let z : ◌≡◌ {A = ℕ} 0 1 = cc in absurd (omega arith))
    (λ past e. let is : host_fault v addressing ≡ f = cc in subst (OfAddress v) is (refl, refl))

host-page_of-host : (h : Host) (v : ℕ) → GoodWalk (OfAddress v) (host_page h v)
unfolding host_page in_storage
host-page_of-host h v =
    by_walk
    (walk-good (OfAddress v) (host_entry h.storage v) (host_fault v) h.designation v (λ code. (refl, refl)) (entry_of-host h.storage v))
  where
    by_walk : {w : Walk} → GoodWalk (OfAddress v) w → GoodWalk (OfAddress v) (in_storage h.storage v w)
    by_walk (fails e) = fails e
    by_walk finds = search (on_either_arm (GoodWalk (OfAddress v)), finds, fails)

-- a host fault, by protection or by an address of the extent
pub record HostsOwn (g : Guest) (f : Failure) : Type 0 where
  pub host : f.host ≡ true
  pub place : OfExtent g f

module _ (g : Guest) (h : Host) where
  -- where something stands there is a host page
  pub stands_on_page : (a : ℕ) → Stands (view g h) a → HasPage (backing g h) a
  unfolding view cell_of
  stands_on_page a s = by_walk (backing g h a) refl s.cell
    where
      by_walk : (w : Walk) → backing g h a ≡ w → cell_of h a w ≡ present s.byte s.key s.protected → HasPage (backing g h) a
      by_walk (Err f) e cell = let z : ◌≡◌ {A = ℕ} 0 1 = cc in absurd (omega arith)
      by_walk (Ok page_) e cell = record { frame = page_.frame; protected = page_.protected; page = e }

  -- what the view lacks below the extent, it lacks by a host fault of the address
  lacks_below : (a : ℕ) (f : Failure) → ltb a (extent_bytes g) ≡ true → view g h a ≡ absent f → OfAddress (host_virtual g a) f
  unfolding view cell_of backing
  lacks_below a f below e = by_walk (host-page_of-host h (host_virtual g a)) (rw below at e)
    where
      by_walk : {w : Walk} → GoodWalk (OfAddress (host_virtual g a)) w → cell_of h a w ≡ absent f → OfAddress (host_virtual g a) f
      by_walk (fails {f = f'} own) same = let is : f' ≡ f = cc in subst (OfAddress (host_virtual g a)) is own
      by_walk finds same = let z : ◌≡◌ {A = ℕ} 0 1 = cc in absurd (omega arith)

  -- and what it lacks by a host fault lies there
  pub lacks_by_host : (a : ℕ) (f : Failure) → view g h a ≡ absent f → f.host ≡ true → (ltb a (extent_bytes g) ≡ true) × (f.address ≡ host_virtual g a)
  unfolding view cell_of backing
  lacks_by_host a f e host = by_place (ltb a (extent_bytes g)) refl
    where
      by_place : (b : Bool) → ltb a (extent_bytes g) ≡ b → (ltb a (extent_bytes g) ≡ true) × (f.address ≡ host_virtual g a)
      by_place true below = (below, (lacks_below a f below e).1)
      by_place false past =
          let outside : absent (exception_of addressing) ≡ absent f = rw past at e in
          let is : exception_of addressing ≡ f = cc in
          absurd (false≢true (ap (λ (x : Failure). x.host) is ∙ host))

  in_extent : (a : ℕ) (f : Failure) → ltb a (extent_bytes g) ≡ true → f.address ≡ host_virtual g a → OfExtent g f
  in_extent a f below is = inr (rw is (page_in_extent g a below))

  -- the prefix page lies below the extent
  view_faults : entry_good g ≡ true → Faults g (view g h) (HostsOwn g)
  view_faults good = record {
    lacking = λ a f e host. let own = lacks_by_host a f e host in record { host = host; place = in_extent a f own.0 own.1 };
    guarded = λ a. record { host = refl; place = inl refl };
    covered =
        λ i f low e.
        let below : ltb (g.prefix * page_bytes + i) (extent_bytes g) ≡ true = lt-ltb (g.prefix * page_bytes + i) (extent_bytes g) (omega (arith, (entry-placed g good).prefixed)) in
        let own = lacks_below (g.prefix * page_bytes + i) f below e in
        record { host = own.0; place = in_extent (g.prefix * page_bytes + i) f below own.1 };
  }

  -- an access that fails by the host
  pub access_faults : entry_good g ≡ true → (c : Cpu) (store : Bool) (a : ℕ) (f : Failure) → access g (view g h) c store a ≡ denied f
      → f.host ≡ true → OfExtent g f
  access_faults good c store a f e = by_access (subst (Good _ _) e (access-good g (view g h) (HostsOwn g) (view_faults good) c store a))
    where
      by_access : Good (view g h) (λ f. f.host ≡ true → HostsOwn g f) (denied f) → f.host ≡ true → OfExtent g f
      by_access (denies is) host = (is host).place

module _ (n : Numbers) (m : Machine) where
  abbrev here : Guest
  here = guest_of m.description

  abbrev seen : ℕ → Cell
  seen = view here (host_of n m)

  unit_from_sound : (H : Failure → Type 0) → Faults here seen H → Sound seen H (unit_from n m)
  unfolding unit_from
  unit_from_sound H so = unit_sound here seen H so _ _ _

  unit_from_faults : entry_good here ≡ true → (f : Failure) → unit_from n m ≡ faulted f → HostsOwn here f
  unit_from_faults good f e = by_outcome (subst (Sound _ _) e (unit_from_sound (HostsOwn here) (view_faults here (host_of n m) good)))
    where
      by_outcome : Sound seen (HostsOwn here) (faulted f) → HostsOwn here f
      by_outcome (faults own) = own

  word_good : (H : Failure → Type 0) → Faults here seen H → GoodAll seen H (word_accesses n m)
  unfolding word_accesses
  word_good H so = all_real_good here seen H so true (each_up_from page_bytes word_place 4 (omega arith))

  -- the interval timer's word fails by the host alone
  word_faults : entry_good here ≡ true → (f : Failure) → word_accesses n m ≡ stopped f → HostsOwn here f
  word_faults good f e = by_accesses (subst (GoodAll _ _) e (word_good (HostsOwn here) (view_faults here (host_of n m) good)))
    where
      by_accesses : GoodAll seen (HostsOwn here) (stopped f) → HostsOwn here f
      by_accesses (stops own) = own

  -- whatever fails
  abbrev Anything : Failure → Type 0
  Anything f = Unit

  any_fault : Faults here seen Anything
  any_fault = record { lacking = λ a f e host. tt; guarded = λ a. tt; covered = λ i f low e. tt }

  have_pages : {l : List ℕ} → Each (Stands seen) l → Each (HasPage (behind_of n m)) l
  unfolding behind_of
  have_pages none = none
  have_pages (more s l) = more (stands_on_page here (host_of n m) _ s) (have_pages l)

pub effects_are_backed : EffectsAreBacked
effects_are_backed n m c e same = by_outcome (subst (Sound _ _) same (unit_from_sound n m (Anything n m) (any_fault n m)))
  where
    by_outcome : Sound (seen n m) (Anything n m) (completed c e)
        → Each (HasPage (behind_of n m)) e.fetched × Each (HasPage (behind_of n m)) (places e.stores)
    by_outcome (completes fetched stores) = (have_pages n m fetched, have_pages n m stores)

pub word_is_backed : WordIsBacked
word_is_backed n m at e = by_accesses (subst (GoodAll _ _) e (word_good n m (Anything n m) (any_fault n m)))
  where
    by_accesses : GoodAll (seen n m) (Anything n m) (all at) → Each (HasPage (behind_of n m)) (places at)
    by_accesses (reaches_all s) = have_pages n m s

-- a step keeps the guest
pub step-guest : (n : Numbers) (m : Machine) → guest_of (left_by_lem (step n m)).description ≡ guest_of m.description
unfolding after_unit with_tick with_word
step-guest n m =
    step_keeps n (λ (k : Machine). guest_of k.description ≡ guest_of m.description) (λ k c e same. guest_of-with_cpu _ _ ∙ same)
    (λ request residue k same. guest_of-with_interval request residue _ ∙ same) (λ behind at w k same. same)
    (exit_keeps (λ d. guest_of d ≡ guest_of m.description) (λ c d same. guest_of-with_cpu c d ∙ same)
    λ q d same. guest_of-with_request q d ∙ same)
    m refl

pub run_faults : (g : Guest) → entry_good g ≡ true → (b : ℕ) (n : Numbers) (m : Machine) → guest_of m.description ≡ g → (f : Failure)
    → (run b n m).end ≡ HostFault f → HostsOwn g f
unfolding run onward counted
run_faults g good zero n m guest f e = let z : ◌≡◌ {A = ℕ} 0 1 = cc in absurd (omega arith)
run_faults g good (suc b) n m guest f e =
    step_cases n m Host's (λ c x is next u same ended. run_faults g good b n next (after same ∙ guest) f ended)
    (λ r c is same ended. let z : ◌≡◌ {A = ℕ} 0 1 = cc in absurd (omega arith))
    (λ f' is same ended. let s : f' ≡ f = cc in here's (unit_from_faults n m (ap entry_good guest ∙ good) f (is ∙ ap faulted s)))
    (λ f' is same ended. let s : f' ≡ f = cc in here's (word_faults n m (ap entry_good guest ∙ good) f (is ∙ ap stopped s))) refl e
  where
    Host's : Step → Type 0
    Host's s = step n m ≡ s → (onward (run b n) s).end ≡ HostFault f → HostsOwn g f

    here's : HostsOwn (guest_of m.description) f → HostsOwn g f
    here's own = subst (λ g. HostsOwn g f) guest own

    after : {next : Machine} → step n m ≡ goes next → guest_of next.description ≡ guest_of m.description
    after same = rw same at (step-guest n m)

pub faults_are_the_hosts : FaultsAreTheHosts
unfolding result_of machine_of
faults_are_the_hosts n r storage keys f units =
    run_of_cases n r storage keys (λ result. result.answer ≡ run_answer (HostFault f) units → f.host ≡ true)
    (λ number refused e. let z : ◌≡◌ {A = ℕ} 0 1 = cc in absurd (omega arith))
    (λ accepted bad e. let ends : ◌≡◌ {A = End} (Intercepted Validity) (HostFault f) = same_end e in let z : ◌≡◌ {A = ℕ} 0 1 = cc in absurd (omega arith))
    (λ accepted good e. (run_faults (guest_of r) good n.budget n (machine_of n r storage keys) (guest_of-with_results _ r) f (same_end e)).host)
