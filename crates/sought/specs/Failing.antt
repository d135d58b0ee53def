-- How a lookup fails: what is known of the guest's walk where an access is an exception of the guest.
use Rattle.std.specs.Prelude.{ℕ, ◌^◌, ◌≤◌, ◌<◌, ◌≡◌, true, false, Err, Ok}
use Rattle.machine.specs.declared.Cpu.{Cpu}
use Rattle.machine.specs.declared.Guest.{Guest}
use Rattle.machine.specs.Failures.{addressing}
use Rattle.machine.specs.Psw.{dat_on, control}
use Rattle.machine.specs.Host.{Cell}
use Rattle.machine.specs.Addresses.{guest_entry, format_good}
use Rattle.machine.specs.Sought.{Way, leads, stops, unread, way}
use Rattle.machine.specs.Walk.{TableEntry}

-- an entry as a number: its word, or a number from 2^32 on where it cannot be read
abbrev pub ReadAs : TableEntry → ℕ → Type 0
ReadAs (Ok e) r = (r ≡ e) × (e < 2 ^ 32)
ReadAs (Err f) r = 2 ^ 32 ≤ r

-- a walk that ends so makes an exception with this code: its own; addressing, where an entry, or the byte behind a page that is found,
-- lies past the extent
abbrev pub ExceptsBy : Way → ℕ → Type 0
ExceptsBy (leads at e) code = code ≡ addressing
ExceptsBy (stops table at own) code = code ≡ own
ExceptsBy (unread table f) code = (f.host ≡ false) × (code ≡ addressing)

-- the guest's walk for a logical address, with DAT on and the format good, makes an exception with this code
abbrev pub Excepts : Guest → (ℕ → Cell) → Cpu → ℕ → ℕ → Type 0
Excepts g v c a code = dat_on c ≡ true → format_good c ≡ true → ExceptsBy (way (guest_entry g v) (control c 1) a) code
