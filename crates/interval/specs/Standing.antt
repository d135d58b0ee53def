-- Where the interval timer's word stands when a unit begins.
use Rattle.std.specs.Prelude.{◌≡◌, ℕ, ◌+◌, ◌*◌, ◌<◌, ◌≤◌, cond, List, length, Err, Ok, Result}
use Rattle.std.proofs.lemmas.List.Edits.{sets}
use Rattle.machine.specs.declared.Guest.{Guest}
use Rattle.machine.specs.declared.Numbers.{Numbers}
use Rattle.machine.specs.Words.{word_at, word_bytes}
use Rattle.machine.specs.Sizes.{page_bytes, frame_bytes}
use Rattle.machine.specs.Failures.{protection, host_fault}
use Rattle.machine.specs.Interval.{word_place}
use Rattle.machine.specs.Host.{Located, host_virtual, stored}
use Rattle.machine.specs.Addresses.{all, stopped}
use Rattle.machine.specs.Interruptions.{with_bytes}
use Rattle.machine.specs.Run.{Machine, behind_of, word_accesses, word_in}
use Rattle.machine.specs.Walk.{Walk}
use Rattle.machine.specs.declared.Failure.{Failure}

-- where the word stands in host storage, or why it cannot be stored into
abbrev pub Word : Type 0
Word = Result ℕ Failure

-- the word's guest absolute address
abbrev pub word_address : Guest → ℕ
word_address g = g.prefix * page_bytes + word_place

-- where it stands, by the host page behind it
abbrev pub word_on : Guest → Walk → Word
word_on g (Err f) = Err f
word_on g (Ok page) = cond page.protected (Err (host_fault (host_virtual g (word_address g)) protection)) (Ok (page.frame * frame_bytes + word_place))

-- a frame number of 19 bits
abbrev pub Short : Walk → Type 0
Short (Err f) = Unit {0}
Short (Ok page) = page.frame < 524288

-- the word is reached at a host absolute address: it is read and stored there
pub record StandsAt (n : Numbers) (m : Machine) (p : ℕ) : Type 0 where
  pub at : List Located
  pub reached : word_accesses n m ≡ all at
  pub read : (after : Machine) → word_in n m at after ≡ word_at after.storage p
  pub put : (w : ℕ) (s : List ℕ) → stored (behind_of n m) (with_bytes at (word_bytes w)) s ≡ sets s p (word_bytes w)

abbrev pub Stands : Numbers → Machine → Word → Type 0
Stands n m (Ok p) = StandsAt n m p
Stands n m (Err f) = word_accesses n m ≡ stopped f

-- a word that is reached lies in the storage
abbrev pub InStorage : List ℕ → Word → Type 0
InStorage storage (Ok p) = p + 4 ≤ length storage
InStorage storage (Err f) = Unit {0}
