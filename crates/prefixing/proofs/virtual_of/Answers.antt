-- `prefixing::virtual_of` meets its contract.
use Prim.Native.Nat.{◌+◌, ◌*◌, ◌/◌, ◌%◌, ◌≤◌, ◌<◌}
use native.Mathlib.Omega.{arith}
use borrow.Author.Tests.{eq-eqb, ne_eqb, lt-ltb, le-ltb}
use Rattle.machine.specs.Entry.{extent_bytes}
use Rattle.machine.specs.Addresses.{prefixed}
use Rattle.prefixing.specs.Prefixing.{virtual_in}
use Rattle.prefixing.proofs.virtual_of.Goals as goal

pub returns-then-real-eq0 : goal.returns-then-real-eq0
unfolding virtual_in prefixed
returns-then-real-eq0 c =
    λ g x sees.
    let below : g.prefix * 4096 + c.args.real % 4096 < extent_bytes g = omega arith in
    rw (eq-eqb (c.args.real / 4096) 0 c.if-real-eq0.true, lt-ltb _ _ below) (omega arith)

pub returns-then-real-space : goal.returns-then-real-space
unfolding virtual_in prefixed
returns-then-real-space c =
    λ g x sees.
    let below : c.args.real % 4096 < extent_bytes g = omega arith in
    rw (ne_eqb (c.args.real / 4096) 0 c.if-real-eq0.false, eq-eqb (c.args.real / 4096) g.prefix (omega arith), lt-ltb _ _ below) (omega arith)

pub returns-then-absolute-space : goal.returns-then-absolute-space
unfolding virtual_in prefixed
returns-then-absolute-space c =
    λ g x sees.
    let below : c.args.real < extent_bytes g = omega arith in
    rw (ne_eqb (c.args.real / 4096) 0 c.if-real-eq0.false, ne_eqb (c.args.real / 4096) g.prefix (λ own. c.if-real-space.false (omega arith)), lt-ltb _ _ below) (omega arith)

pub returns-else-absolute-space : goal.returns-else-absolute-space
unfolding virtual_in prefixed
returns-else-absolute-space c =
    λ g x sees.
    let past : extent_bytes g ≤ c.args.real = omega arith in
    rw (ne_eqb (c.args.real / 4096) 0 c.if-real-eq0.false, ne_eqb (c.args.real / 4096) g.prefix (λ own. c.if-real-space.false (omega arith)), le-ltb _ _ past) c.excepted.ensures
