-- A part of machine's entry: the mode, with the record and the prefix that it can have.
use Rattle.std.specs.Prelude.{ℕ, Bool, not, ◌&&◌, ◌||◌, eqb, ltb}
use Rattle.machine.specs.Words.{bits, bit}
use Rattle.machine.specs.Record.{system370_mode}

-- mode bits 4-6 are 100, 370-XA's
abbrev pub xa_mode : ℕ → Bool
xa_mode mode = eqb (bits 8 4 6 mode) 4

-- they are, or are 010 where the record is the longer one and prefix bits 1-7 are zero
unfoldable pub mode_good : ℕ → Bool → ℕ → Bool
mode_good mode long prefix = xa_mode mode || (system370_mode mode && not (bit 8 6 mode) && long && ltb prefix 4096)
