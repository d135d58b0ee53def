-- `sought::sought` meets its contract.
use mathlib.Core.Path.{sym}
use Rattle.machine.specs.Host.{host}
use Rattle.sought.proofs.Failing.{sought-protected, sought-by_host, sought-by_guest, number_excepts}
use Rattle.sought.proofs.sought.Goals as goal

pub returns-then-code-eq-PROTECTION : goal.returns-then-code-eq-PROTECTION
returns-then-code-eq-PROTECTION c =
    λ g x sees k store found. rw c.nowhere.ensures (sym (sought-protected g (host c.args.space.designation c.args.storage.now k) x c.args.a c.args.w c.if-code-eq-PROTECTION.true))

pub returns-then-w-eq1 : goal.returns-then-w-eq1
returns-then-w-eq1 c =
    λ g x sees k store found. rw c.host_sought.ensures (sym (sought-by_host g (host c.args.space.designation c.args.storage.now k) x c.args.a c.args.w c.if-code-eq-PROTECTION.false c.if-w-eq1.true))

pub returns-else-w-eq1 : goal.returns-else-w-eq1
returns-else-w-eq1 c =
    λ g x sees k store found.
    rw (c.guest_sought.ensures g x sees k (number_excepts g c.args.space.designation c.args.storage.now k x store c.args.a c.args.w c.requires c.if-code-eq-PROTECTION.false c.if-w-eq1.false found))
    (sym (sought-by_guest g (host c.args.space.designation c.args.storage.now k) x c.args.a c.args.w c.if-code-eq-PROTECTION.false c.if-w-eq1.false))
