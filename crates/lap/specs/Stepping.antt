-- One unit of a lap, by numbers: the place of its instruction, the last sum, the general registers.
use Rattle.std.specs.Prelude.{◌≡◌, ℕ, ◌+◌, ◌-◌, ◌/◌, ◌%◌, ◌^◌, ◌<◌, ◌≤◌, Bool, false, cond, ◌&&◌, ◌⊎◌, List, [], ◌∷◌, ◌==◌, nat_lt, slice_index, slice_set}
use Rattle.std.proofs.lemmas.List.Edits.{sets}
use Rattle.machine.specs.declared.Guest.{Guest}
use Rattle.machine.specs.declared.Psw.{Psw}
use Rattle.machine.specs.declared.Registers.{Registers}
use Rattle.machine.specs.Words.{word_at, word_bytes}
use Rattle.machine.specs.Psw.{overflow_enabled, mode31, wrap}
use Rattle.machine.specs.Host.{host}
use Rattle.address.specs.Touching.{seen}
use Rattle.psws.specs.Psws.{state, psw_at, Wrapped}
use Rattle.sums.specs.Summing.{outside, code_in}
use Rattle.blocks.specs.Keeping.{Block, Leads, Keeps, Stands, Inside, HasMarks, Marks}
use Rattle.lap.specs.declared.Landing.{Landing}
use Rattle.lap.specs.declared.Step.{Step}
use Rattle.lap.specs.Lapping.{stance, Turns}

-- where a lap stands: its PSW but for address and condition code, and the block of its text
pub record Spot : Type 0 where
  pub psw : Psw
  pub text : Block

-- the logical address of a place in the text's block
abbrev pub address_in : Spot → ℕ → ℕ
address_in k at = k.text.first + (at - k.text.place)

-- the PSW with the instruction at this place next, and the condition code of this sum
abbrev pub psw_in : Spot → ℕ → ℕ → Psw
psw_in k at sum = psw_at k.psw (address_in k at) (code_in sum)

-- what a step wants: nothing, for it is done; nothing, and it branched out of reach; a block to fetch from, one to store into; an
-- instruction that changes more, or that is for unit to do

abbrev pub done : ℕ
done = 0

abbrev pub jumped : ℕ
jumped = 1

abbrev pub wants_fetch : ℕ
wants_fetch = 2

abbrev pub wants_store : ℕ
wants_store = 3

abbrev pub other : ℕ
other = 4

abbrev pub special : ℕ
special = 8

-- no register
abbrev pub no_register : ℕ
no_register = 16

-- no sum of an address's parts
abbrev pub nowhere : ℕ
nowhere = 1099511627776

abbrev pub step_to : ℕ → ℕ → ℕ → ℕ → Step
step_to at sum register value = record { want = done; a = 0; at = at; sum = sum; register = register; value = value }

abbrev pub step_wants : ℕ → ℕ → ℕ → ℕ → Step
step_wants want a at sum = record { want = want; a = a; at = at; sum = sum; register = no_register; value = 0 }

-- what a base or index register's content is multiplied by: register 0 stands for zero
abbrev pub flags : List ℕ
flags = 0 ∷ 1 ∷ 1 ∷ 1 ∷ 1 ∷ 1 ∷ 1 ∷ 1 ∷ 1 ∷ 1 ∷ 1 ∷ 1 ∷ 1 ∷ 1 ∷ 1 ∷ 1 ∷ []

-- the content of a base or index register
abbrev pub part_of : List ℕ → ℕ → ℕ
part_of words r = cond (r == 0) 0 (slice_index words r)

-- the sum of the parts D2, X2 and B2 of an address, by the second halfword
abbrev pub total_of : List ℕ → ℕ → ℕ → ℕ
total_of words x second = part_of words x + part_of words (second / 4096) + second % 4096

-- an address, cut to the addressing mode
abbrev pub cut : Bool → ℕ → ℕ
cut long total = cond long (total % 2147483648) (total % 16777216)

-- an add or a subtract: an overflow that is a program exception is for unit to do
unfoldable pub sum_step : ℕ → ℕ → ℕ → ℕ → Bool → Step
sum_step at old sum register trap = cond (trap && outside sum) (step_wants other 0 at old) (step_to (at + 2) sum register (sum % 2 ^ 32))

-- a branch to a sum of parts: where the last one went, or elsewhere
unfoldable pub branch_step : ℕ → ℕ → ℕ → ℕ → ℕ → Step
branch_step at sum to top target = cond (to == top) (step_to target sum no_register 0) (step_wants jumped to at sum)

-- how far an address lies behind the first one of a block
abbrev pub behind : ℕ → ℕ → ℕ
behind a first = (a + (2 ^ 64 - first)) % 2 ^ 64

-- the entry of an address's block
abbrev pub entry_of : ℕ → ℕ
entry_of a = a / 2048 % 8

-- LOAD (L)
unfoldable pub load_step : List ℕ → List ℕ → ℕ → ℕ → ℕ → ℕ → Step
load_step storage kept at sum register a =
    cond (nat_lt 2044 (behind a (slice_index kept (entry_of a)))) (step_wants wants_fetch a at sum)
    (step_to (at + 4) sum register (word_at storage (slice_index kept (8 + entry_of a) + behind a (slice_index kept (entry_of a)))))

-- how far the address of a word that is stored lies behind the first one of the block in its entry
abbrev pub store_reach : List ℕ → ℕ → ℕ
store_reach kept a = behind a (slice_index kept (16 + entry_of a))

-- STORE (ST): the addresses 0-511 are for unit to do, as low-address protection is
unfoldable pub store_step : List ℕ → ℕ → ℕ → ℕ → Step
store_step kept at sum a =
    cond (nat_lt 2044 (store_reach kept a)) (step_wants wants_store a at sum) (cond (nat_lt a 512) (step_wants other a at sum) (step_to (at + 4) sum no_register 0))

-- the storage behind it
unfoldable pub stored_step : List ℕ → List ℕ → ℕ → ℕ → List ℕ
stored_step storage kept a value =
    cond (nat_lt 2044 (store_reach kept a)) storage
    (cond (nat_lt a 512) storage (sets storage (slice_index kept (24 + entry_of a) + store_reach kept a) (word_bytes value)))

-- the text's block, and the place of an instruction whose four bytes lie in it
pub record Ground (storage keys kept : List ℕ) (k : Spot) (at : ℕ) : Type 0 where
  pub left : k.psw.left < 2 ^ 32
  pub right : k.psw.right < 2 ^ 32
  pub inside : Inside storage kept
  pub marks : Marks keys kept
  pub text : Stands storage k.text
  pub text_marks : HasMarks keys false k.text
  pub low : k.text.first < 2147483648
  pub wrapped : Wrapped k.psw k.text.first
  pub from : k.text.place ≤ at
  pub whole : at + 4 ≤ k.text.place + 2048
  pub even : (at - k.text.place) % 2 ≡ 0

-- a sum of parts leads to a place in the text's block
pub record Top (k : Spot) (top target : ℕ) : Type 0 where
  pub leads : top < nowhere → wrap (state k.psw) top ≡ address_in k target
  pub from : top < nowhere → k.text.place ≤ target
  pub within : top < nowhere → target < k.text.place + 2048
  pub even : top < nowhere → (target - k.text.place) % 2 ≡ 0

-- the PSW that a completed step leaves
unfoldable pub psw_after : Spot → Step → Psw
psw_after k s = psw_at k.psw (cond (s.want == jumped) s.a (address_in k s.at)) (code_in s.sum)

-- the place of the next instruction: behind this one, or where the last branch went
abbrev pub Onward : ℕ → ℕ → ℕ → ℕ → Type 0
Onward at top target next = (next ≡ at + 2) ⊎ ((next ≡ at + 4) ⊎ ((next ≡ target) × (top < nowhere)))

-- a step is the unit of the definition, for every guest and host that keep the blocks
abbrev pub Steps : List ℕ → List ℕ → List ℕ → Spot → ℕ → ℕ → List ℕ → Step → List ℕ → Type 0
Steps storage keys kept k at sum words s storage' =
    (g : Guest) (designation : ℕ) (control : Registers) → Keeps g (host designation storage keys) (seen (psw_in k at sum) control) kept
    → Leads g (host designation storage keys) (seen (psw_in k at sum) control) false k.text
    → Turns g designation keys control (stance (psw_in k at sum) words storage) (stance (psw_after k s) (slice_set words s.register s.value) storage')

-- a completed step
pub record Stepped (storage kept : List ℕ) (at sum : ℕ) (words : List ℕ) (trap long : Bool) (top target : ℕ) (s : Step) (storage' : List ℕ) : Type 0 where
  pub unit : (keys : List ℕ) (k : Spot) → Ground storage keys kept k at → Top k top target → trap ≡ overflow_enabled (state k.psw) → long ≡ mode31 (state k.psw)
      → Steps storage keys kept k at sum words s storage'
  pub onward : s.want ≡ done → Onward at top target s.at
  pub far : s.want ≡ jumped → s.a < nowhere
  pub stays : s.want ≡ jumped → (s.sum ≡ sum) × (s.register ≡ no_register)

-- where the text at a logical address stands: an entry of the table that holds it, at an even address
pub record Lands (kept : List ℕ) (a : ℕ) (l : Landing) : Type 0 where
  pub entry : ℕ
  pub few : entry < 8
  pub page : l.page ≡ slice_index kept entry
  pub base : l.base ≡ slice_index kept (8 + entry)
  pub from : l.page ≤ a
  pub within : a < l.page + 2048
  pub at : l.at ≡ l.base + (a - l.page)
  pub even : (a - l.page) % 2 ≡ 0
