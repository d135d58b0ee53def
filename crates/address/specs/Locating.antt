-- What addressing finds as one number: a word or an address of 32 bits, or a failure from 2^32 on.
use Rattle.std.specs.Prelude.{ℕ, ◌+◌, ◌*◌, ◌/◌, ◌%◌, ◌^◌, cond, eqb, ltb, Err, Ok}
use Rattle.machine.specs.declared.Failure.{Failure}
use Rattle.machine.specs.Failures.{host_fault, walk_exception}
use Rattle.machine.specs.Walk.{page_protected, Walk, at_frame}
use Rattle.address.specs.Touching.{Place}

-- a host fault: its code from bit 33 on, as that of an exception (`exception_number`), with 2^32 and its host virtual address
abbrev pub fault_number : ℕ → ℕ → ℕ
fault_number v code = (code * 2 + 1) * 2 ^ 32 + v

-- the failure that a number says of a logical address
unfoldable pub failure_in : ℕ → ℕ → Failure
failure_in a w = cond (eqb (w / 2 ^ 32 % 2) 1) (host_fault (w % 2 ^ 32) (w / 2 ^ 33)) (walk_exception a (w / 2 ^ 33))

-- the real page of a logical address, as a page entry
unfoldable pub page_in : ℕ → ℕ → Walk
page_in a w = cond (ltb w (2 ^ 32)) (at_frame (w / 4096) (page_protected w)) (Err (failure_in a w))

-- where the byte at a logical address stands, or the address of a guest table entry
unfoldable pub place_in : ℕ → ℕ → Place
place_in a w = cond (ltb w (2 ^ 32)) (Ok w) (Err (failure_in a w))
