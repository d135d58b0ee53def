-- Request 4/12: the first unbacked page, the lowest page from A up to but not including B that is not valid, or none. A survey: all pages
-- asked about are looked at. Record, storage and keys are only read.
use Rattle.std.specs.Prelude.{ℕ, zero, suc, ◌+◌, ◌-◌, Bool, cond, ◌||◌, List, [], ◌∷◌, ltb, Err, Ok}
use Rattle.machine.specs.declared.Refusal.TheVariants.{WrongRange}
use Rattle.machine.specs.declared.Guest.{Guest}
use Rattle.machine.specs.Record.{guest_of}
use Rattle.machine.specs.Entry.{entry_good}
use Rattle.desk.specs.declared.Found.{Found}
use Rattle.desk.specs.declared.Found.TheVariants as found
use Rattle.desk.specs.Reach.{page_valid}
use Rattle.desk.specs.Extent.{first_page, page_count}
use Rattle.desk.specs.Desk.{desk_verdict}
use Rattle.machine.specs.Refusals.{Answer, Verdict}

-- the survey: of `n` pages of the extent, from `page` on, those that are not valid, in page order
unfoldable pub unbacked_from : ℕ → ℕ → List ℕ → ℕ → ℕ → List ℕ
unbacked_from first d s page zero = []
unbacked_from first d s page (suc n) =
    cond (page_valid d s (first + page)) (unbacked_from first d s (page + 1) n) (page ∷ unbacked_from first d s (page + 1) n)

-- of the pages from `from` up to but not including `to`
unfoldable pub unbacked_in : ℕ → ℕ → List ℕ → ℕ → ℕ → List ℕ
unbacked_in first d s from to = unbacked_from first d s from (to - from)

-- the first of them, the lowest
unfoldable pub lowest : List ℕ → Answer Found
lowest [] = (Ok found.None)
lowest (page ∷ later) = Ok (found.Page page)

-- 16: A above B, or B past the extent
unfoldable pub wrong_range : ℕ → ℕ → ℕ → Bool
wrong_range pages from to = ltb to from || ltb pages to

-- for a guest that entry lets through
unfoldable pub unbacked_for : Guest → ℕ → List ℕ → ℕ → ℕ → Answer Found
unbacked_for g d s from to =
    cond (wrong_range (page_count g) from to) (Err WrongRange) (lowest (unbacked_in (first_page g) d s from to))

unfoldable pub unbacked_as : List ℕ → ℕ → List ℕ → ℕ → ℕ → Verdict → Answer Found
unbacked_as r d s from to (Err why) = Err why
unbacked_as r d s from to (Ok _) = cond (entry_good (guest_of r)) (unbacked_for (guest_of r) d s from to) (Ok found.Validity)

-- the question for the pages from `from` up to `to`; refusals 1 to 4 and 7 are those of the page desk
unfoldable pub unbacked_of : List ℕ → ℕ → List ℕ → List ℕ → ℕ → ℕ → Answer Found
unbacked_of r d s k from to = unbacked_as r d s from to (desk_verdict r s k)
