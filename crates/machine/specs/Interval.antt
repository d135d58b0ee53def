-- Request 1/12: the interval timer of a System/370 guest, as numbers. The word at guest real 80 falls by 256 for each period of residue.
use Rattle.std.specs.Prelude.{ℕ, ◌+◌, ◌-◌, ◌*◌, ◌%◌, ◌^◌, Bool, cond, not, ◌&&◌, leb}
use Rattle.machine.specs.declared.Guest.{Guest}
use Rattle.machine.specs.Words.{bit}
use Rattle.machine.specs.Record.{system370_mode}

-- the timer's word, a guest real address
abbrev pub word_place : ℕ
word_place = 80

-- the timer is active: mode bits 4-5 are 01, and bit 7 is zero
unfoldable pub active : Guest → Bool
active g = system370_mode g.mode && not (bit 8 7 g.mode)

-- the residue stays below this
abbrev pub period : ℕ
period = 40960000

-- by what the word falls
abbrev pub fall : ℕ
fall = 256

-- the residue and three times a unit's time
abbrev pub risen : ℕ → ℕ → ℕ
risen residue time = residue + 3 * time

-- a period is full: the word falls
unfoldable pub falls : ℕ → ℕ → Bool
falls residue time = leb period (risen residue time)

-- the residue after a unit
unfoldable pub residue_after : ℕ → ℕ → ℕ
residue_after residue time = cond (falls residue time) (risen residue time - period) (risen residue time)

-- the word after a fall, with wrap
unfoldable pub word_after : ℕ → ℕ
word_after w = (w + (2 ^ 32 - fall)) % 2 ^ 32

-- the fall takes the signed word from nonnegative to negative
unfoldable pub turns_negative : ℕ → Bool
turns_negative w = not (bit 32 0 w) && bit 32 0 (word_after w)

-- T, bit 0 of the request byte, whose other bits mean nothing: T is one, T set, T cleared

abbrev pub pending : ℕ → Bool
pending request = bit 8 0 request

abbrev pub with_t : ℕ → ℕ
with_t request = cond (pending request) request (request + 128)

abbrev pub without_t : ℕ → ℕ
without_t request = request % 128

-- the request byte after a fall of the word
unfoldable pub request_after : ℕ → ℕ → ℕ
request_after request w = cond (turns_negative w) (with_t request) request
