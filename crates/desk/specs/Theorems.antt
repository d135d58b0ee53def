-- What is proved of the page desk. Each statement is a type here; its proof is in proofs/.
use Rattle.std.specs.Prelude.{ℕ, ◌+◌, ◌*◌, ◌/◌, ◌≤◌, ◌<◌, ◌≡◌, true, false, List, ◌↔◌, ◌⊎◌, length, get_or, Ok}
use Rattle.machine.specs.declared.Guest.{Guest}
use Rattle.machine.specs.declared.Numbers.{Numbers}
use Rattle.machine.specs.Words.{byte_at}
use Rattle.machine.specs.Record.{guest_of}
use Rattle.machine.specs.Sizes.{frame_bytes}
use Rattle.machine.specs.Refusals.{frames_of}
use Rattle.machine.specs.Entry.{entry_good}
use Rattle.machine.specs.Walk.{frame_of, page_protected}
use Rattle.machine.specs.Frames.{segment_place, page_place, page_of, SegmentInReach, PageInReach, ValidPage, Describes, GuestFrame}
use Rattle.machine.specs.Operations.{run_of}
use Rattle.machine.specs.Theorems.{GoodInput}
use Rattle.machine.specs.Isolation.{RunEntry, RunFrame}
use Rattle.desk.specs.declared.Change.{Change}
use Rattle.desk.specs.declared.Change.TheVariants.{Add, Remove, Protect}
use Rattle.desk.specs.declared.Called.TheVariants.{Done}
use Rattle.desk.specs.declared.Listed.TheVariants.{Pages}
use Rattle.desk.specs.Reach.{segment_reached, page_reached, page_valid}
use Rattle.desk.specs.Extent.{first_page, page_count, not_valid, valid_pages, guest_frame, entry_in_frame}
use Rattle.desk.specs.Desk.{storage_after, desk_of, list_of}

-- The tests of Reach and Extent are the terms of document 01, which demand 3 is stated with.
pub record TestsAreTheTerms : Type 0 where
  pub segment : (d : ℕ) (s : List ℕ) (page : ℕ) → (segment_reached d s page ≡ true) ↔ SegmentInReach d s page
  pub entry : (d : ℕ) (s : List ℕ) (page : ℕ) → (page_reached d s page ≡ true) ↔ PageInReach d s page
  pub valid : (d : ℕ) (s : List ℕ) (page : ℕ) → (page_valid d s page ≡ true) ↔ ValidPage d s page
  pub frame : (g : Guest) (d : ℕ) (s : List ℕ) (f : ℕ) → entry_good g ≡ true
      → (guest_frame (first_page g) (page_count g) d s f ≡ true) ↔ GuestFrame g d s f
  pub in_frame : (g : Guest) (d : ℕ) (s : List ℕ) → entry_good g ≡ true
      → (entry_in_frame (first_page g) (page_count g) d s ≡ true)
      ↔ ((at : ℕ) × ((f : ℕ) × (Describes g d s at × (GuestFrame g d s f × (at / frame_bytes ≡ f)))))

module _ (c : Change) (r : List ℕ) (d : ℕ) (s k : List ℕ) (p number : ℕ) where
  -- the storage after a call on page `p`, with the record `r`
  abbrev after : List ℕ
  after = (desk_of c r d s k p number).storage

  -- the host page of page `q`
  abbrev host_of : ℕ → ℕ
  host_of q = first_page (guest_of r) + q

  -- a call changes at most the four bytes of one host page entry, that of its page
  pub record ChangesOneEntry : Type 0 where
    pub long : length after ≡ length s
    pub rest : (i : ℕ) → (i < page_place d s (host_of p)) ⊎ (page_place d s (host_of p) + 4 ≤ i) → byte_at after i ≡ byte_at s i
    pub refused : ((desk_of c r d s k p number).answer ≡ (Ok Done) → ⊥) → (after ≡ s) × ((desk_of c r d s k p number).number ≡ number)

  -- every other page of the extent has the entry that it had, where it had it, or none in reach, as before
  pub record OthersStay : Type 0 where
    pub reach : (q : ℕ) → q < page_count (guest_of r) → page_reached d after (host_of q) ≡ page_reached d s (host_of q)
    pub place : (q : ℕ) → q < page_count (guest_of r) → page_reached d s (host_of q) ≡ true → page_place d after (host_of q) ≡ page_place d s (host_of q)
    pub entry : (q : ℕ) → q < page_count (guest_of r) → (q ≡ p → ⊥) → page_reached d s (host_of q) ≡ true → page_of d after (host_of q) ≡ page_of d s (host_of q)
    pub valid : (q : ℕ) → q < page_count (guest_of r) → (q ≡ p → ⊥) → page_valid d after (host_of q) ≡ page_valid d s (host_of q)

abbrev pub CallsChangeOneEntry : Type 0
CallsChangeOneEntry = (c : Change) (r : List ℕ) (d : ℕ) (s k : List ℕ) (p number : ℕ) → ChangesOneEntry c r d s k p number

-- Adding makes exactly that page valid, with that frame, not protected; removing makes exactly that page not valid, and keeps its
-- frame; protecting changes no validity and no frame.
pub record CallsDoWhatTheySay : Type 0 where
  pub others : (c : Change) (r : List ℕ) (d : ℕ) (s k : List ℕ) (p number : ℕ) → (desk_of c r d s k p number).answer ≡ (Ok Done) → OthersStay c r d s k p number
  pub inside : (c : Change) (r : List ℕ) (d : ℕ) (s k : List ℕ) (p number : ℕ) → (desk_of c r d s k p number).answer ≡ (Ok Done) → p < page_count (guest_of r)
  pub adding : (frame : ℕ) (r : List ℕ) (d : ℕ) (s k : List ℕ) (p number : ℕ) → (desk_of (Add frame) r d s k p number).answer ≡ (Ok Done)
      → (page_valid d s (first_page (guest_of r) + p) ≡ false)
      × ((page_valid d (desk_of (Add frame) r d s k p number).storage (first_page (guest_of r) + p) ≡ true)
      × ((frame_of (page_of d (desk_of (Add frame) r d s k p number).storage (first_page (guest_of r) + p)) ≡ frame)
      × (page_protected (page_of d (desk_of (Add frame) r d s k p number).storage (first_page (guest_of r) + p)) ≡ false)))
  pub removing : (r : List ℕ) (d : ℕ) (s k : List ℕ) (p number : ℕ) → (desk_of Remove r d s k p number).answer ≡ (Ok Done)
      → (page_valid d s (first_page (guest_of r) + p) ≡ true)
      × ((page_valid d (desk_of Remove r d s k p number).storage (first_page (guest_of r) + p) ≡ false)
      × (frame_of (page_of d (desk_of Remove r d s k p number).storage (first_page (guest_of r) + p)) ≡ frame_of (page_of d s (first_page (guest_of r) + p))))
  pub protecting : (r : List ℕ) (d : ℕ) (s k : List ℕ) (p number : ℕ) → (desk_of Protect r d s k p number).answer ≡ (Ok Done)
      → (page_valid d s (first_page (guest_of r) + p) ≡ true)
      × ((page_valid d (desk_of Protect r d s k p number).storage (first_page (guest_of r) + p) ≡ true)
      × ((frame_of (page_of d (desk_of Protect r d s k p number).storage (first_page (guest_of r) + p)) ≡ frame_of (page_of d s (first_page (guest_of r) + p)))
      × (page_protected (page_of d (desk_of Protect r d s k p number).storage (first_page (guest_of r) + p)) ≡ true)))

-- a record of a guest with this origin and extent
pub record OfExtent (origin extent : ℕ) (r : List ℕ) : Type 0 where
  pub begins : (guest_of r).origin ≡ origin
  pub counts : (guest_of r).extent ≡ extent

-- how many pages of the extent are valid
abbrev pub valid_in : ℕ → ℕ → ℕ → List ℕ → ℕ
valid_in origin extent d s = valid_pages (origin * 16) (extent * 16) d s

-- THE NUMBER of valid pages, kept beside the designation, stays true: over every desk call, whatever it answers, and over every run
-- that has no entry in a guest frame as it starts (demand 3's premise), for this origin and extent.
pub record NumberStaysTrue : Type 0 where
  pub over_calls : (origin extent : ℕ) (c : Change) (r : List ℕ) (d : ℕ) (s k : List ℕ) (p number : ℕ) → OfExtent origin extent r
      → number ≡ valid_in origin extent d s → (desk_of c r d s k p number).number ≡ valid_in origin extent d (desk_of c r d s k p number).storage
  pub over_runs : (origin extent : ℕ) (n : Numbers) (r s k : List ℕ) → OfExtent origin extent r
      → ((at frame : ℕ) → RunEntry n r s k at → RunFrame n r s k frame → at / frame_bytes ≡ frame → ⊥)
      → valid_in origin extent n.designation (run_of n r s k).storage ≡ valid_in origin extent n.designation s

-- A call that is done leaves no entry in a guest frame: what demand 3 asks of the next run, and so of every later one.
abbrev pub CallsLeaveEntriesApart : Type 0
CallsLeaveEntriesApart = (c : Change) (r : List ℕ) (d : ℕ) (s k : List ℕ) (p number : ℕ) → (desk_of c r d s k p number).answer ≡ (Ok Done)
    → (at frame : ℕ) → Describes (guest_of r) d (desk_of c r d s k p number).storage at
    → GuestFrame (guest_of r) d (desk_of c r d s k p number).storage frame → at / frame_bytes ≡ frame → ⊥

-- what the state of a page must be for a change: not valid, with a frame in storage, to be added; valid, to be removed or protected
unfoldable pub Allows : Change → List ℕ → Type 0 → Type 0
Allows (Add frame) s valid = (valid → ⊥) × (frame < frames_of s)
Allows Remove s valid = valid
Allows Protect s valid = valid

-- A change that no refusal from 10 on names, in the terms of document 01.
module _ (c : Change) (r : List ℕ) (d : ℕ) (s : List ℕ) (p : ℕ) where
  abbrev host_page : ℕ → ℕ
  host_page q = first_page (guest_of r) + q

  pub record GoodChange : Type 0 where
    pub entry : entry_good (guest_of r) ≡ true
    pub inside : p < page_count (guest_of r)
    pub reach : PageInReach d s (host_page p)
    pub state : Allows c s (ValidPage d s (host_page p))
    pub apart : (at frame : ℕ) → Describes (guest_of r) d (storage_after c d s (host_page p)) at → GuestFrame (guest_of r) d (storage_after c d s (host_page p)) frame
        → at / frame_bytes ≡ frame → ⊥
    pub alone : (q : ℕ) → q < page_count (guest_of r) → (q ≡ p → ⊥) → PageInReach d s (host_page q) → page_place d s (host_page q) ≡ page_place d s (host_page p) → ⊥
    pub no_segment : (q : ℕ) → q < page_count (guest_of r) → SegmentInReach d s (host_page q) → segment_place d (host_page q) ≡ page_place d s (host_page p) → ⊥

-- Good calls are done: a change that nothing refuses, and a listing with enough words.
pub record GoodCallsAreDone : Type 0 where
  pub changes : (c : Change) (r : List ℕ) (d : ℕ) (s k : List ℕ) (p number : ℕ) → GoodInput r s k → GoodChange c r d s p
      → (desk_of c r d s k p number).answer ≡ (Ok Done)
  pub listings : (r : List ℕ) (d : ℕ) (s k ws : List ℕ) → GoodInput r s k → entry_good (guest_of r) ≡ true → page_count (guest_of r) ≤ length ws
      → (list_of r d s k ws).answer ≡ Ok (Pages (valid_pages (first_page (guest_of r)) (page_count (guest_of r)) d s))

-- There are such calls: a page is added, then protected, then removed, each on what the call before it left.
pub record ChangesOnePage (r : List ℕ) (d : ℕ) (s k : List ℕ) (p frame number : ℕ) : Type 0 where
  pub added : (desk_of (Add frame) r d s k p number).answer ≡ (Ok Done)
  pub guarded : (desk_of Protect r d (desk_of (Add frame) r d s k p number).storage k p number).answer ≡ (Ok Done)
  pub removed : (desk_of Remove r d (desk_of Protect r d (desk_of (Add frame) r d s k p number).storage k p number).storage k p number).answer ≡ (Ok Done)

abbrev pub ChangesExist : Type 0
ChangesExist = (r : List ℕ) × ((d : ℕ) × ((s : List ℕ) × ((k : List ℕ) × ((p : ℕ) × ((frame : ℕ) × ChangesOnePage r d s k p frame 0)))))

-- A listing that is done has the frame of each valid page in page order, and its number of them; words past the extent stay. Every other
-- answer leaves the workspace.
module _ (r : List ℕ) (d : ℕ) (s k ws : List ℕ) where
  pub record ShowsThePages (valid : ℕ) : Type 0 where
    pub enough : page_count (guest_of r) ≤ length ws
    pub number : valid ≡ valid_pages (first_page (guest_of r)) (page_count (guest_of r)) d s
    pub long : length (list_of r d s k ws).words ≡ length ws
    pub shown : (p : ℕ) → p < page_count (guest_of r) → page_valid d s (first_page (guest_of r) + p) ≡ true
        → get_or (list_of r d s k ws).words p 0 ≡ frame_of (page_of d s (first_page (guest_of r) + p))
    pub not_shown : (p : ℕ) → p < page_count (guest_of r) → page_valid d s (first_page (guest_of r) + p) ≡ false
        → get_or (list_of r d s k ws).words p 0 ≡ not_valid
    pub rest : (i : ℕ) → page_count (guest_of r) ≤ i → get_or (list_of r d s k ws).words i 0 ≡ get_or ws i 0

pub record ListingsShowThePages : Type 0 where
  pub done : (r : List ℕ) (d : ℕ) (s k ws : List ℕ) (valid : ℕ) → (list_of r d s k ws).answer ≡ Ok (Pages valid) → ShowsThePages r d s k ws valid
  pub refused : (r : List ℕ) (d : ℕ) (s k ws : List ℕ) → ((valid : ℕ) → (list_of r d s k ws).answer ≡ Ok (Pages valid) → ⊥) → (list_of r d s k ws).words ≡ ws
