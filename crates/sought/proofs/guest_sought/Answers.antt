-- `sought::guest_sought` meets its contract.
use Prim.Native.Nat.{◌/◌}
use native.Mathlib.Omega.{arith}
use mathlib.Core.Path.{sym, ap, subst, ◌∙◌}
use borrow.Author.Tests.{lt-ltb, le-ltb}
use Rattle.machine.specs.Words.{bits}
use Rattle.machine.specs.Walk.{segment_index, page_index, segment_entry_at}
use Rattle.machine.specs.Host.{host, view}
use Rattle.machine.specs.Addresses.{guest_entry}
use Rattle.machine.specs.Sought.{way_of_segment, guest_sought_by, guest_sought}
use Rattle.sought.specs.Failing.{ExceptsBy}
use Rattle.sought.proofs.Failing.{segment_by_code, dat_is_on, format-good, format_bad, sought_past, sought_within, excepts_within, read_word, read_none}
use Rattle.sought.proofs.guest_sought.Goals as goal
use Rattle.sought.proofs.guest_sought.Goals.{then-not-dat_on-via-then-not-dat_on, then-not-dat_on-via-else-not-dat_on+then-space-ne22}

pub returns-then-not-dat_on : goal.returns-then-not-dat_on
unfolding guest_sought
returns-then-not-dat_on c =
    λ g x sees k by.
    rw c.nowhere.ensures
    (elim c.then-not-dat_on.branch [
      | then-not-dat_on-via-then-not-dat_on w ↦ rw (← sees.dat, ← c.dat_on.ensures, w.if-not-dat_on.true)
      | then-not-dat_on-via-else-not-dat_on+then-space-ne22 w ↦ rw (← sees.dat, ← c.dat_on.ensures, w.if-not-dat_on.false, format_bad x c.args.space.cr0 sees.cr0 w.if-space-ne22.true)
    ])

pub returns-then-space-index : goal.returns-then-space-index
returns-then-space-index c =
    λ g x sees k by.
    let on = dat_is_on x c.args.space.left c.dat_on.result sees.dat c.dat_on.ensures c.if-not-dat_on.false in
    let good = format-good x c.args.space.cr0 sees.cr0 c.if-space-ne22.false in
    rw c.sought_at.ensures (sym (sought_past g (view g (host c.args.space.designation c.args.storage.now k)) x c.args.a c.args.space.cr1 c.args.code on good sees.cr1 (lt-ltb (bits 32 25 31 c.args.space.cr1) (segment_index c.args.a / 16) (omega (arith, c.if-space-index.true)))))

pub returns-then-code-eq-SEGMENT : goal.returns-then-code-eq-SEGMENT
returns-then-code-eq-SEGMENT c =
    λ g x sees k by.
    let on = dat_is_on x c.args.space.left c.dat_on.result sees.dat c.dat_on.ensures c.if-not-dat_on.false in
    let good = format-good x c.args.space.cr0 sees.cr0 c.if-space-ne22.false in
    let within = le-ltb (bits 32 25 31 c.args.space.cr1) (segment_index c.args.a / 16) (omega (arith, c.if-space-index.false)) in
    rw c.sought_at-then-code-eq-SEGMENT.ensures
    (sym (sought_within g (view g (host c.args.space.designation c.args.storage.now k)) x c.args.a c.args.space.cr1 c.args.code on good sees.cr1 within
    ∙ segment_by_code (guest_entry g (view g (host c.args.space.designation c.args.storage.now k))) (segment_entry_at c.args.space.cr1 (segment_index c.args.a)) (page_index c.args.a) ((guest_entry g (view g (host c.args.space.designation c.args.storage.now k))) (segment_entry_at c.args.space.cr1 (segment_index c.args.a)))
    (subst (ExceptsBy (way_of_segment (guest_entry g (view g (host c.args.space.designation c.args.storage.now k))) (segment_entry_at c.args.space.cr1 (segment_index c.args.a)) (page_index c.args.a) ((guest_entry g (view g (host c.args.space.designation c.args.storage.now k))) (segment_entry_at c.args.space.cr1 (segment_index c.args.a))))) c.if-code-eq-SEGMENT.true (excepts_within g (view g (host c.args.space.designation c.args.storage.now k)) x c.args.a c.args.space.cr1 c.args.code on good sees.cr1 within by))))

pub returns-then-word-ge-STOPPED : goal.returns-then-word-ge-STOPPED
unfolding way_of_segment guest_sought_by
returns-then-word-ge-STOPPED c =
    let word = c.guest_word-word in
    λ g x sees k by.
    let on = dat_is_on x c.args.space.left c.dat_on.result sees.dat c.dat_on.ensures c.if-not-dat_on.false in
    let good = format-good x c.args.space.cr0 sees.cr0 c.if-space-ne22.false in
    let within = le-ltb (bits 32 25 31 c.args.space.cr1) (segment_index c.args.a / 16) (omega (arith, c.if-space-index.false)) in
    let none = read_none ((guest_entry g (view g (host c.args.space.designation c.args.storage.now k))) (segment_entry_at c.args.space.cr1 (segment_index c.args.a))) word.result (word.ensures g x sees k) c.if-word-ge-STOPPED.true in
    rw c.sought_at-then-word-ge-STOPPED.ensures
    (sym (sought_within g (view g (host c.args.space.designation c.args.storage.now k)) x c.args.a c.args.space.cr1 c.args.code on good sees.cr1 within
    ∙ ap (λ e. guest_sought_by (way_of_segment (guest_entry g (view g (host c.args.space.designation c.args.storage.now k))) (segment_entry_at c.args.space.cr1 (segment_index c.args.a)) (page_index c.args.a) e)) none.1))

pub returns : goal.returns
returns c =
    let word = c.guest_word-word in
    λ g x sees k by.
    let on = dat_is_on x c.args.space.left c.dat_on.result sees.dat c.dat_on.ensures c.if-not-dat_on.false in
    let good = format-good x c.args.space.cr0 sees.cr0 c.if-space-ne22.false in
    let within = le-ltb (bits 32 25 31 c.args.space.cr1) (segment_index c.args.a / 16) (omega (arith, c.if-space-index.false)) in
    let read = read_word ((guest_entry g (view g (host c.args.space.designation c.args.storage.now k))) (segment_entry_at c.args.space.cr1 (segment_index c.args.a))) word.result (word.ensures g x sees k) c.if-word-ge-STOPPED.false in
    let other = excepts_within g (view g (host c.args.space.designation c.args.storage.now k)) x c.args.a c.args.space.cr1 c.args.code on good sees.cr1 within by in
    rw
    (c.guest_by_segment.ensures g x sees c.args.space.designation c.args.storage.now k
    (subst (λ e. ExceptsBy (way_of_segment (guest_entry g (view g (host c.args.space.designation c.args.storage.now k))) (segment_entry_at c.args.space.cr1 (segment_index c.args.a)) (page_index c.args.a) e) c.args.code) read other))
    (sym (sought_within g (view g (host c.args.space.designation c.args.storage.now k)) x c.args.a c.args.space.cr1 c.args.code on good sees.cr1 within
    ∙ ap (λ e. guest_sought_by (way_of_segment (guest_entry g (view g (host c.args.space.designation c.args.storage.now k))) (segment_entry_at c.args.space.cr1 (segment_index c.args.a)) (page_index c.args.a) e)) read))
