-- Request 3/12: the page desk. Four operations: add, remove or protect one guest page, each a change of one host page entry; and list
-- the frames of the guest's pages. Record and keys are only read.
use Rattle.std.specs.Prelude.{ℕ, ◌+◌, ◌-◌, ◌*◌, ◌%◌, ◌^◌, Bool, cond, not, ◌||◌, List, leb, ltb, length, Err, Ok}
use Rattle.std.proofs.lemmas.List.Edits.{sets}
use Rattle.machine.specs.declared.Refusal.TheVariants.{WrongLength, WrongVersion, WrongStorage, WrongKeys, ReservedUsed, OutOfReach, AlreadyValid, NotValid, FrameOutside, Entangled, ShortWorkspace}
use Rattle.machine.specs.declared.Guest.{Guest}
use Rattle.machine.specs.Words.{word_bytes}
use Rattle.machine.specs.Record.{guest_of}
use Rattle.machine.specs.Refusals.{frames_of, refuse, wrong_length, wrong_version, wrong_storage, wrong_keys, reserved_used, Answer, Verdict, no_refusal}
use Rattle.machine.specs.Entry.{entry_good}
use Rattle.machine.specs.Walk.{page_invalid, page_protected}
use Rattle.machine.specs.Frames.{page_place, page_of}
use Rattle.desk.specs.declared.Change.{Change}
use Rattle.desk.specs.declared.Change.TheVariants.{Add, Remove, Protect}
use Rattle.desk.specs.declared.Called.{Called}
use Rattle.desk.specs.declared.Called.TheVariants as called
use Rattle.desk.specs.declared.Listed.{Listed}
use Rattle.desk.specs.declared.Listed.TheVariants as listed
use Rattle.desk.specs.Reach.{page_reached, page_valid}
use Rattle.desk.specs.Extent.{first_page, page_count, valid_pages, listing, entry_in_frame, serves_second_page, serves_as_segment}

-- The change

-- the entry after the change: adding writes the frame, bits 1-19, with all other bits zero; removing sets bit 21, protecting bit 22
unfoldable pub entry_after : Change → ℕ → ℕ
entry_after (Add frame) e = frame * 2 ^ 12
entry_after Remove e = cond (page_invalid e) e (e + 2 ^ 10)
entry_after Protect e = cond (page_protected e) e (e + 2 ^ 9)

-- the storage after the change of a host page's entry
unfoldable pub storage_after : Change → ℕ → List ℕ → ℕ → List ℕ
storage_after c d s page = sets s (page_place d s page) (word_bytes (entry_after c (page_of d s page)))

-- the number of valid pages that the caller keeps, modulo 2^32: one more after adding, one less after removing
unfoldable pub number_after : Change → ℕ → ℕ
number_after (Add frame) number = (number + 1) % 2 ^ 32
number_after Remove number = (number + (2 ^ 32 - 1)) % 2 ^ 32
number_after Protect number = number

-- Refusals, in this order, after an entry failure

-- 10: page outside the extent, or its entry out of reach
unfoldable pub out_of_reach : ℕ → ℕ → ℕ → List ℕ → ℕ → Bool
out_of_reach first pages d s p = leb pages p || not (page_reached d s (first + p))

-- 11: page already valid; 12: page not valid; 13: frame outside storage
unfoldable pub state_verdict : Change → List ℕ → Bool → Verdict → Verdict
state_verdict (Add frame) s valid later = refuse AlreadyValid valid (refuse FrameOutside (leb (frames_of s) frame) later)
state_verdict Remove s valid later = refuse NotValid (not valid) later
state_verdict Protect s valid later = refuse NotValid (not valid) later

-- 14: after the call an entry that describes the extent would lie in a guest frame; or the chosen entry serves a second page of the
-- extent, or as a segment entry that describes it
unfoldable pub entangled : Change → ℕ → ℕ → ℕ → List ℕ → ℕ → Bool
entangled c first pages d s p =
    entry_in_frame first pages d (storage_after c d s (first + p))
    || (serves_second_page first pages d s p || serves_as_segment first pages d s p)

unfoldable pub change_verdict : Change → ℕ → ℕ → ℕ → List ℕ → ℕ → Verdict
change_verdict c first pages d s p =
    refuse OutOfReach (out_of_reach first pages d s p)
    (state_verdict c s (page_valid d s (first + p)) (refuse Entangled (entangled c first pages d s p) no_refusal))

-- 1 to 4, then 7: before an entry failure
unfoldable pub desk_verdict : List ℕ → List ℕ → List ℕ → Verdict
desk_verdict r s k =
    refuse WrongLength (wrong_length r)
    (refuse WrongVersion (wrong_version r)
    (refuse WrongStorage (wrong_storage s) (refuse WrongKeys (wrong_keys s k) (refuse ReservedUsed (reserved_used r) no_refusal))))

-- Add, remove and protect

-- what a call answers, and the storage and the number that it leaves
pub record Result : Type 0 where
  pub answer : Answer Called
  pub storage : List ℕ
  pub number : ℕ

-- a refusal and an entry failure change nothing
abbrev pub unchanged : Answer Called → List ℕ → ℕ → Result
unchanged answer s number = record { answer = answer; storage = s; number = number }

unfoldable pub change_as : Change → ℕ → List ℕ → ℕ → ℕ → Verdict → Result
change_as c d s page number (Err why) = unchanged (Err why) s number
change_as c d s page number (Ok _) = record {
  answer = (Ok called.Done);
  storage = storage_after c d s page;
  number = number_after c number;
}

-- for a guest that entry lets through
unfoldable pub change_of : Change → Guest → ℕ → List ℕ → ℕ → ℕ → Result
change_of c g d s p number = change_as c d s (first_page g + p) number (change_verdict c (first_page g) (page_count g) d s p)

unfoldable pub desk_as : Change → List ℕ → ℕ → List ℕ → ℕ → ℕ → Verdict → Result
desk_as c r d s p number (Err why) = unchanged (Err why) s number
desk_as c r d s p number (Ok _) =
    cond (entry_good (guest_of r)) (change_of c (guest_of r) d s p number) (unchanged (Ok called.Validity) s number)

-- the call on page `p` of the extent
unfoldable pub desk_of : Change → List ℕ → ℕ → List ℕ → List ℕ → ℕ → ℕ → Result
desk_of c r d s k p number = desk_as c r d s p number (desk_verdict r s k)

-- List

pub record Listing : Type 0 where
  pub answer : Answer Listed
  pub words : List ℕ

-- 15: workspace shorter than the extent's pages
unfoldable pub list_for : Guest → ℕ → List ℕ → List ℕ → Listing
list_for g d s ws =
    cond (ltb (length ws) (page_count g)) (record { answer = Err ShortWorkspace; words = ws })
    (record {
      answer = Ok (listed.Pages (valid_pages (first_page g) (page_count g) d s));
      words = listing (first_page g) (page_count g) d s ws;
    })

unfoldable pub list_as : List ℕ → ℕ → List ℕ → List ℕ → Verdict → Listing
list_as r d s ws (Err why) = record { answer = Err why; words = ws }
list_as r d s ws (Ok _) = cond (entry_good (guest_of r)) (list_for (guest_of r) d s ws) (record { answer = (Ok listed.Validity); words = ws })

unfoldable pub list_of : List ℕ → ℕ → List ℕ → List ℕ → List ℕ → Listing
list_of r d s k ws = list_as r d s ws (desk_verdict r s k)
