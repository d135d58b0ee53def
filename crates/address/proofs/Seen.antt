-- Addressing looks at the PSW and the control registers alone.
-- Assumes nothing.
use Rattle.std.specs.Prelude.{Err, Ok}
use Prim.Native.Nat.{ℕ}
use mathlib.Core.Path.{◌≡◌, refl, ap}
use mathlib.Core.Bool.{Bool, cond, ◌&&◌}
use Rattle.machine.specs.declared.Cpu.{Cpu}
use Rattle.machine.specs.declared.Guest.{Guest}
use Rattle.machine.specs.Failures.{protection, exception_of}
use Rattle.machine.specs.Host.{Cell}
use Rattle.machine.specs.Addresses.{denied, format_good, real_page, key_protects, in_page, low_protected, access}
use Rattle.address.specs.Touching.{seen}
use Rattle.machine.specs.Walk.{Walk}

pub access-seen : (g : Guest) (v : ℕ → Cell) (c : Cpu) (store : Bool) (a : ℕ) → access g v c store a ≡ access g v (seen c.psw c.control) store a
unfolding access real_page format_good in_page key_protects low_protected
access-seen g v c store a =
    ap (λ x. cond (store && low_protected c a) (denied (exception_of protection)) x) (in_page_lem (real_page g v c a))
  where
    in_page_lem : (w : Walk) → in_page g v c store a w ≡ in_page g v (seen c.psw c.control) store a w
    in_page_lem (Err f) = refl
    in_page_lem (Ok page) = refl
