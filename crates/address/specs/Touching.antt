-- One byte's access by page: what machine's Addresses says of a byte, as the code goes about it.
use Rattle.std.specs.Prelude.{ℕ, ◌+◌, ◌*◌, ◌%◌, ◌≤◌, ◌<◌, ◌≡◌, Bool, cond, ◌&&◌, ◌||◌, List, [], length, get_or, Err, Ok, Result}
use Rattle.machine.specs.declared.Cpu.{Cpu}
use Rattle.machine.specs.declared.Guest.{Guest}
use Rattle.machine.specs.declared.Psw.{Psw}
use Rattle.machine.specs.declared.Registers.{Registers}
use Rattle.machine.specs.Words.{word_at}
use Rattle.machine.specs.Sizes.{frame_bytes, page_bytes}
use Rattle.machine.specs.Entry.{extent_bytes}
use Rattle.machine.specs.Failures.{protection, host_fault, exception_of}
use Rattle.machine.specs.Host.{Host, host_virtual, in_frame, backing, view}
use Rattle.machine.specs.Addresses.{prefixed, key_protects, Access, reached, denied, access}
use Rattle.machine.specs.Walk.{TableEntry, Walk}
use Rattle.machine.specs.declared.Failure.{Failure}

-- where a byte stands in host storage, or why it cannot be reached
abbrev pub Place : Type 0
Place = Result ℕ Failure

-- the CPU as far as addressing looks at it
abbrev pub seen : Psw → Registers → Cpu
seen psw control = record { psw = psw; timer = 0; control = control; general = record { words = [] } }

-- an address of a table entry is a multiple of 4
abbrev pub Aligned : TableEntry → Type 0
Aligned (Err f) = Unit {0}
Aligned (Ok at) = at % 4 ≡ 0

-- a page that is found lies in the storage
abbrev pub Inside : List ℕ → Walk → Type 0
Inside storage (Err f) = Unit {0}
Inside storage (Ok page) = page.frame * frame_bytes + frame_bytes ≤ length storage

-- a page of an address of 32 bits
abbrev pub Small : Walk → Type 0
Small (Err f) = Unit {0}
Small (Ok page) = page.frame < 1048576

-- a page that is found behind a guest absolute address has a key and a frame number of 19 bits, and the address is below the extent
abbrev pub Backed : Guest → List ℕ → ℕ → Walk → Type 0
Backed g keys a (Err f) = Unit {0}
Backed g keys a (Ok page) = (page.frame < length keys) × (page.frame < 524288) × (a < extent_bytes g)

-- the guest table entry at a guest absolute address, by the host page behind it
unfoldable pub entry_behind : List ℕ → ℕ → Walk → TableEntry
entry_behind storage a (Err f) = Err f
entry_behind storage a (Ok page) = Ok (word_at storage (in_frame page.frame a))

-- the last tests of a byte at a guest absolute address, by the host page behind it
unfoldable pub settled : Guest → List ℕ → Bool → (ℕ → Bool) → ℕ → Walk → Place
settled g keys store protects a (Err f) = Err f
settled g keys store protects a (Ok page) =
    cond (protects (get_or keys page.frame 0)) (Err (exception_of protection))
    (cond (store && page.protected) (Err (host_fault (host_virtual g a) protection)) (Ok (in_frame page.frame a)))

-- guest page protection, then key protection
abbrev pub guest_protects : Cpu → Bool → Bool → ℕ → Bool
guest_protects c store protected key = (store && protected) || key_protects c store key

-- a byte of a real page
unfoldable pub touched : Guest → Host → Cpu → Bool → ℕ → Walk → Place
touched g h c store a (Err f) = Err f
touched g h c store a (Ok page) =
    settled g h.keys store (guest_protects c store page.protected) absolute (backing g h absolute)
  where
    absolute : ℕ
    absolute = prefixed g (page.frame * page_bytes + a % page_bytes)

-- where the definition's access to a byte leads in host storage
unfoldable pub placed : ℕ → Walk → Place
placed a (Err f) = Err f
placed a (Ok page) = Ok (in_frame page.frame a)

unfoldable pub touched_by : Guest → Host → Access → Place
touched_by g h (denied f) = Err f
touched_by g h (reached l) = placed l.absolute (backing g h l.absolute)

abbrev pub touch_of : Guest → Host → Cpu → Bool → ℕ → Place
touch_of g h c store a = touched_by g h (access g (view g h) c store a)
