-- What addressing looks at, and prefixing by number: an address of 32 bits, or an exception from 2^33 on.
use Rattle.std.specs.Prelude.{ℕ, ◌*◌, ◌^◌, ◌≡◌, cond, ltb}
use Rattle.machine.specs.declared.Cpu.{Cpu}
use Rattle.machine.specs.declared.Guest.{Guest}
use Rattle.machine.specs.Words.{bits, bit}
use Rattle.machine.specs.Sizes.{page_bytes, block_bytes}
use Rattle.machine.specs.Entry.{extent_bytes}
use Rattle.machine.specs.Psw.{dat_on, access_key, control}
use Rattle.machine.specs.Failures.{addressing}
use Rattle.machine.specs.Host.{host_virtual}
use Rattle.prefixing.specs.declared.space.Space.{Space}

-- the space is that of a guest and a CPU; of the PSW's left word addressing asks DAT and the access key
pub record Sees (s : Space) (g : Guest) (c : Cpu) : Type 0 where
  pub origin : s.origin ≡ g.origin * block_bytes
  pub extent : s.extent ≡ extent_bytes g
  pub prefix : s.prefix ≡ g.prefix * page_bytes
  pub dat : bit 32 5 s.left ≡ dat_on c
  pub key : bits 32 8 11 s.left ≡ access_key c
  pub cr0 : s.cr0 ≡ control c 0
  pub cr1 : s.cr1 ≡ control c 1

-- a guest program exception: its code from bit 33 on, counted from the right
abbrev pub exception_number : ℕ → ℕ
exception_number code = code * 2 ^ 33

-- the host virtual address of a guest absolute one
unfoldable pub virtual_in : Guest → ℕ → ℕ
virtual_in g a = cond (ltb a (extent_bytes g)) (host_virtual g a) (exception_number addressing)
