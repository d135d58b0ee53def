-- Document 01, "Addresses": from a logical address to the byte that the guest reaches, for each byte in turn.
use Rattle.std.specs.Prelude.{ℕ, zero, suc, ◌+◌, ◌*◌, ◌/◌, ◌%◌, Bool, cond, not, ◌&&◌, ◌||◌, List, [], ◌∷◌, eqb, ltb, Err, Ok}
use Rattle.machine.specs.declared.Cpu.{Cpu}
use Rattle.machine.specs.declared.Failure.{Failure}
use Rattle.machine.specs.declared.Guest.{Guest}
use Rattle.machine.specs.Words.{bits, bit, word_at}
use Rattle.machine.specs.Sizes.{page_bytes}
use Rattle.machine.specs.Psw.{dat_on, access_key, wrap, control}
use Rattle.machine.specs.Failures.{protection, translation_specification, host_fault, exception_of, walk_exception}
use Rattle.machine.specs.Walk.{walk, TableEntry, Walk, at_frame}
use Rattle.machine.specs.Host.{Cell, absent, present, Located, host_virtual}

-- prefixing exchanges real block 0 and the prefix block
unfoldable pub prefixed : Guest → ℕ → ℕ
prefixed g a =
    cond (eqb (a / page_bytes) 0) (g.prefix * page_bytes + a % page_bytes)
    (cond (eqb (a / page_bytes) g.prefix) (a % page_bytes) a)

-- the byte of a cell, zero where there is none
unfoldable pub byte_of : Cell → ℕ
byte_of (absent f) = 0
byte_of (present byte key protected) = byte

-- the word of a guest table that starts at a guest absolute address, its first byte's cell given. Keys do not guard table reads.
unfoldable pub entry_of : (ℕ → Cell) → ℕ → Cell → TableEntry
entry_of v a (absent f) = Err f
entry_of v a (present byte key protected) = Ok (word_at (byte ∷ byte_of (v (a + 1)) ∷ byte_of (v (a + 2)) ∷ byte_of (v (a + 3)) ∷ []) 0)

-- the entry at a guest real address: past the extent it is addressing, with no wrap
unfoldable pub guest_entry : Guest → (ℕ → Cell) → ℕ → TableEntry
guest_entry g v real = entry_of v (prefixed g real) (v (prefixed g real))

-- CR0 bits 8-12 are 10110
unfoldable pub format_good : Cpu → Bool
format_good c = eqb (bits 32 8 12 (control c 0)) 0b10110

-- the real page of a logical address. CR1 is the guest's designation.
unfoldable pub real_page : Guest → (ℕ → Cell) → Cpu → ℕ → Walk
real_page g v c a =
    cond (not (dat_on c)) (at_frame (a / page_bytes) Bool.false)
    (cond (not (format_good c)) (Err (exception_of translation_specification))
    (walk (guest_entry g v) (walk_exception a) (control c 1) a))

-- one byte: reached, with what stands there; or why not
pub data Access : Type 0 where
  reached : Located → Access
  denied : Failure → Access

-- the last tests of a byte at a guest absolute address: guest protection, by the byte's key; host page protection
unfoldable pub settle : Guest → Bool → (ℕ → Bool) → ℕ → Cell → Access
settle g store protects a (absent f) = denied f
settle g store protects a (present byte key hostProtected) =
    cond (protects key) (denied (exception_of protection))
    (cond (store && hostProtected) (denied (host_fault (host_virtual g a) protection))
    (reached (record { absolute = a; byte = byte })))

-- a byte of an interruption area, at a real address: no key and no low-address protection
unfoldable pub real_access : Guest → (ℕ → Cell) → Bool → ℕ → Access
real_access g v store real = settle g store (λ key. Bool.false) (prefixed g real) (v (prefixed g real))

-- access key nonzero and different from key bits 0-3: stores, and fetches if bit 4 is one
unfoldable pub key_protects : Cpu → Bool → ℕ → Bool
key_protects c store key =
    not (eqb (access_key c) 0) && not (eqb (access_key c) (bits 8 0 3 key)) && (store || bit 8 4 key)

-- a byte of a real page: guest page protection, then key protection
unfoldable pub in_page : Guest → (ℕ → Cell) → Cpu → Bool → ℕ → Walk → Access
in_page g v c store a (Err f) = denied f
in_page g v c store a (Ok page) =
    settle g store (λ key. (store && page.protected) || key_protects c store key) absolute (v absolute)
  where
    absolute : ℕ
    absolute = prefixed g (page.frame * page_bytes + a % page_bytes)

-- stores to 0-511 with CR0 bit 3 one
unfoldable pub low_protected : Cpu → ℕ → Bool
low_protected c a = ltb a 512 && bit 32 3 (control c 0)

-- one byte at a logical address that is wrapped
unfoldable pub access : Guest → (ℕ → Cell) → Cpu → Bool → ℕ → Access
access g v c store a =
    cond (store && low_protected c a) (denied (exception_of protection)) (in_page g v c store a (real_page g v c a))

-- bytes in turn: all reached; or why the first that is not reached is not
pub data Accesses : Type 0 where
  all : List Located → Accesses
  stopped : Failure → Accesses

unfoldable pub and_then : Access → Accesses → Accesses
and_then (denied f) later = stopped f
and_then (reached l) (stopped f) = stopped f
and_then (reached l) (all ls) = all (l ∷ ls)

unfoldable pub accesses : (ℕ → Access) → List ℕ → Accesses
accesses one [] = all []
accesses one (a ∷ more) = and_then (one a) (accesses one more)

-- the logical addresses of `n` bytes from `a` on, each wrapped
unfoldable pub span : Cpu → ℕ → ℕ → List ℕ
span c a zero = []
span c a (suc n) = wrap c a ∷ span c (a + 1) n

-- the addresses from `a` on, with no wrap
unfoldable pub up_from : ℕ → ℕ → List ℕ
up_from a zero = []
up_from a (suc n) = a ∷ up_from (a + 1) n

-- what follows where all bytes are reached, and what where one is not
unfoldable pub when_reached : {A : Type 0} → Accesses → (Failure → A) → (List Located → A) → A
when_reached (stopped f) otherwise onward = otherwise f
when_reached (all ls) otherwise onward = onward ls
