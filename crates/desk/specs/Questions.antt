-- What is proved of the question for the first unbacked page. Each statement is a type here; its proof is in proofs/.
use Rattle.std.specs.Prelude.{ℕ, ◌+◌, ◌≤◌, ◌<◌, ◌≡◌, true, List, ◌⊎◌, length, get_or, Err, Ok}
use Rattle.machine.specs.Words.{byte_at}
use Rattle.machine.specs.Record.{guest_of}
use Rattle.machine.specs.Entry.{entry_good}
use Rattle.machine.specs.Frames.{ValidPage, Describes}
use Rattle.machine.specs.Theorems.{GoodInput}
use Rattle.desk.specs.declared.Change.TheVariants.{Add}
use Rattle.desk.specs.declared.Called.TheVariants.{Done}
use Rattle.desk.specs.declared.Listed.TheVariants.{Pages}
use Rattle.desk.specs.declared.Found.{Found}
use Rattle.desk.specs.declared.Found.TheVariants.{Validity, None, Page}
use Rattle.desk.specs.Extent.{first_page, page_count, not_valid}
use Rattle.desk.specs.Desk.{desk_of, list_of}
use Rattle.desk.specs.Unbacked.{unbacked_of}
use Rattle.machine.specs.Refusals.{Answer}

module _ (r : List ℕ) (d : ℕ) (s : List ℕ) (from to : ℕ) where
  -- page `q` of the extent is valid, in the terms of document 01
  abbrev Valid : ℕ → Type 0
  Valid q = ValidPage d s (first_page (guest_of r) + q)

  -- every page asked about is
  abbrev pub AllValid : Type 0
  AllValid = (q : ℕ) → from ≤ q → q < to → Valid q

  -- a page asked about that is not, and every lower one is
  pub record LowestUnbacked (p : ℕ) : Type 0 where
    pub low : from ≤ p
    pub high : p < to
    pub unbacked : Valid p → ⊥
    pub lower : (q : ℕ) → from ≤ q → q < p → Valid q

-- a question that no refusal names, of a guest that entry lets through
pub record GoodQuestion (r s k : List ℕ) (from to : ℕ) : Type 0 where
  pub input : GoodInput r s k
  pub entry : entry_good (guest_of r) ≡ true
  pub order : from ≤ to
  pub inside : to ≤ page_count (guest_of r)

-- (Ok None) is given exactly when every page asked about is valid; the page that is answered is not, and every lower one asked about is.
pub record AnswersAreTheLowest : Type 0 where
  pub none : (r : List ℕ) (d : ℕ) (s k : List ℕ) (from to : ℕ) → unbacked_of r d s k from to ≡ (Ok None) → AllValid r d s from to
  pub page : (r : List ℕ) (d : ℕ) (s k : List ℕ) (from to p : ℕ) → unbacked_of r d s k from to ≡ Ok (Page p) → LowestUnbacked r d s from to p
  pub if_none : (r : List ℕ) (d : ℕ) (s k : List ℕ) (from to : ℕ) → GoodQuestion r s k from to → AllValid r d s from to → unbacked_of r d s k from to ≡ (Ok None)
  pub if_page : (r : List ℕ) (d : ℕ) (s k : List ℕ) (from to p : ℕ) → GoodQuestion r s k from to → LowestUnbacked r d s from to p
      → unbacked_of r d s k from to ≡ Ok (Page p)
  -- such an answer is about pages of the extent
  pub inside : (r : List ℕ) (d : ℕ) (s k : List ℕ) (from to : ℕ) → (unbacked_of r d s k from to ≡ (Ok None)) ⊎ ((p : ℕ) × (unbacked_of r d s k from to ≡ Ok (Page p)))
      → (entry_good (guest_of r) ≡ true) × ((from ≤ to) × (to ≤ page_count (guest_of r)))

-- It agrees with a listing: the page is the first from A on, below B, whose word is FFFFFFFF hex.
pub record AnswersAgreeWithListings : Type 0 where
  pub none : (r : List ℕ) (d : ℕ) (s k ws : List ℕ) (from to valid : ℕ) → (list_of r d s k ws).answer ≡ Ok (Pages valid) → unbacked_of r d s k from to ≡ (Ok None)
      → (q : ℕ) → from ≤ q → q < to → get_or (list_of r d s k ws).words q 0 ≡ not_valid → ⊥
  pub page : (r : List ℕ) (d : ℕ) (s k ws : List ℕ) (from to valid p : ℕ) → (list_of r d s k ws).answer ≡ Ok (Pages valid) → unbacked_of r d s k from to ≡ Ok (Page p)
      → (get_or (list_of r d s k ws).words p 0 ≡ not_valid)
      × ((q : ℕ) → from ≤ q → q < p → get_or (list_of r d s k ws).words q 0 ≡ not_valid → ⊥)

-- an answer after the page `p`: none, or a higher page
unfoldable pub After : ℕ → Answer Found → Type 0
After p (Err number) = ⊥
After p (Ok Validity) = ⊥
After p (Ok None) = Unit {0}
After p (Ok (Page q)) = p < q

-- Once the page that was answered is added, with any frame, the answer to the same question moves up or is none.
abbrev pub AddingMovesUp : Type 0
AddingMovesUp = (frame : ℕ) (r : List ℕ) (d : ℕ) (s k : List ℕ) (from to p number : ℕ) → unbacked_of r d s k from to ≡ Ok (Page p)
    → (desk_of (Add frame) r d s k p number).answer ≡ (Ok Done) → After p (unbacked_of r d (desk_of (Add frame) r d s k p number).storage k from to)

-- DEMAND 3 for the question: two hosts that agree on the lengths and on the entries that describe the guest's extent give the same answer,
-- whatever the rest holds, guest frames and keys too.
abbrev pub IsolationOfQuestions : Type 0
IsolationOfQuestions = (r : List ℕ) (d : ℕ) (s₁ k₁ s₂ k₂ : List ℕ) (from to : ℕ) → (length s₁ ≡ length s₂) × (length k₁ ≡ length k₂)
    → ((at i : ℕ) → Describes (guest_of r) d s₁ at → at ≤ i → i < at + 4 → byte_at s₁ i ≡ byte_at s₂ i)
    → unbacked_of r d s₁ k₁ from to ≡ unbacked_of r d s₂ k₂ from to

-- There are such questions: a page is found; once it is added none is, of the pages asked about before, and a higher one of one page more.
pub record FindsOnePage (r : List ℕ) (d : ℕ) (s k : List ℕ) (from to p q frame number : ℕ) : Type 0 where
  pub found : unbacked_of r d s k from to ≡ Ok (Page p)
  pub added : (desk_of (Add frame) r d s k p number).answer ≡ (Ok Done)
  pub backed : unbacked_of r d (desk_of (Add frame) r d s k p number).storage k from to ≡ (Ok None)
  pub next : unbacked_of r d (desk_of (Add frame) r d s k p number).storage k from (to + 1) ≡ Ok (Page q)

abbrev pub QuestionsExist : Type 0
QuestionsExist = (r : List ℕ) × ((d : ℕ) × ((s : List ℕ) × ((k : List ℕ) × ((p : ℕ) × ((q : ℕ) × ((frame : ℕ) × FindsOnePage r d s k 0 1 p q frame 0))))))
