-- Document 01, "Entry", and request 1/12 on mode 01. An entry that fails is code 32.
use Rattle.std.specs.Prelude.{ℕ, ◌+◌, ◌*◌, Bool, not, ◌&&◌, ◌||◌, eqb, leb, ltb}
use Rattle.machine.specs.declared.Guest.{Guest}
use Rattle.machine.specs.Sizes.{page_bytes, block_bytes}
use Rattle.machine.specs.Words.{bits, bit}
use Rattle.machine.specs.Record.{system370_mode}

-- the extent counts blocks
abbrev pub extent_bytes : Guest → ℕ
extent_bytes g = g.extent * block_bytes

-- mode bits 4-5 are 10 (370-XA), or in a record of version 2 also 01 (System/370); bit 6 (preferred) is zero
unfoldable pub mode_installed : Guest → Bool
mode_installed g = (eqb (bits 8 4 5 g.mode) 2 || (system370_mode g.mode && eqb g.version 2)) && not (bit 8 6 g.mode)

-- origin at most 32,767, extent not 0, and their sum at most 32,768
unfoldable pub extent_fits : Guest → Bool
extent_fits g = leb g.origin 32767 && ltb 0 g.extent && leb (g.origin + g.extent) 32768

-- the prefixed page wholly below the extent
unfoldable pub prefix_fits : Guest → Bool
prefix_fits g = leb (g.prefix * page_bytes + page_bytes) (extent_bytes g)

-- in mode 01 prefix bits 1-7 are zero, so that its block has a 24-bit address
unfoldable pub prefix_short : Guest → Bool
prefix_short g = ltb g.prefix 4096 || not (system370_mode g.mode)

-- in this order, though each failure is the same code
unfoldable pub entry_good : Guest → Bool
entry_good g = mode_installed g && extent_fits g && prefix_fits g && prefix_short g
