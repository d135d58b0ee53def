-- `text::fetch_third` meets its contract.
use Prim.Native.Nat.{◌+◌}
use native.Mathlib.Omega.{arith}
use Rattle.machine.specs.Opcodes.{opcode_of}
use Rattle.text.specs.Fetching.{and_frame}
use Rattle.text.proofs.Halfwords.{below, wrap_even, same_offset, fits, further, next, shut, small_code, opened, keyed, one_page, and_keyed, marked_once, marked_next}
use Rattle.text.proofs.Texts.{third_spare, third_open, third_shut}
use Rattle.text.proofs.fetch_third.Goals as goal

pub returns-then-text-lt3 : goal.returns-then-text-lt3
returns-then-text-lt3 c =
    let a = c.args in
    let (keys, few, ends) = c.requires.with_keys in
    rw c.whole.ensures (record { fetches = third_spare a.text a.frames c.if-text-lt3.true; usable = (keys, few, tt) })

pub overflow_add-place : goal.overflow_add-place
overflow_add-place c = omega (arith, same_offset c.requires.halfword)

pub with_third-requires : goal.with_third-requires
with_third-requires c = omega (arith, fits (further c.requires.halfword c.if-at-lt4094.true))

pub returns-then-at-lt4094 : goal.returns-then-at-lt4094
returns-then-at-lt4094 c =
    let a = c.args in
    let (keys, few, ends) = c.requires.with_keys in
    let found = c.requires.halfword in
    rw (c.whole-then-at-lt4094.ensures, c.with_third.ensures) (record {
      fetches = third_open a.text a.frames (a.place + 2) a.frames
          (marked_once a.frames a.at a.place ends (a.place + 2) (omega (arith, same_offset found))) (omega arith) (further found c.if-at-lt4094.true);
      usable = (keys, few, tt);
    })

pub overflow_add-at : goal.overflow_add-at
overflow_add-at c = omega (arith, below c.requires.halfword)

pub find_half-requires : goal.find_half-requires
find_half-requires c =
    (c.requires.entered.0, c.requires.entered.1, rw (c.wrapped-next.ensures c.args.by.control) (wrap_even _ _ (omega (arith, c.requires.halfword.even))))

pub with_third-requires-in-Ok : goal.with_third-requires-in-Ok
with_third-requires-in-Ok c =
    fits (opened (next c.requires.halfword (c.wrapped-next.ensures c.args.by.control) c.find_half.ensures) c.in-Ok.is)

pub returns-in-Err : goal.returns-in-Err
returns-in-Err c =
    let a = c.args in
    let (keys, few, ends) = c.requires.with_keys in
    let found = shut (next c.requires.halfword (c.wrapped-next.ensures a.by.control) c.find_half.ensures) c.in-Err.is in
    rw c.cut_short.ensures
    (record { fetches = third_shut a.text a.frames (opcode_of a.by.psw.system370 a.text.first) c.in-Err.failure (omega arith) found; usable = (keys, few, small_code found) })

pub returns-in-Ok : goal.returns-in-Ok
returns-in-Ok c =
    let a = c.args in
    let place = c.in-Ok.field-0.first in
    let (keys, few, ends) = c.requires.with_keys in
    let one = one_page a.frames a.at a.place ends (omega (arith, c.if-at-lt4094.false)) in
    let found = opened (next c.requires.halfword (c.wrapped-next.ensures a.by.control) c.find_half.ensures) c.in-Ok.is in
    rw (c.whole-in-Ok.ensures, c.with_third-in-Ok.ensures, c.and_frame.ensures) (record {
      fetches = third_open a.text a.frames place (and_frame a.frames place) (marked_next a.frames place one) (omega arith) found;
      usable = (and_keyed _ a.frames place keys one (keyed c.requires.entered.1 found), few, tt);
    })
