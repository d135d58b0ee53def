-- `text::fetch_second` meets its contract.
use Prim.Native.Nat.{◌+◌}
use native.Mathlib.Omega.{arith}
use mathlib.Core.Path.{refl}
use Rattle.machine.specs.Opcodes.{opcode_of}
use Rattle.text.specs.Fetching.{one_frame}
use Rattle.text.proofs.Halfwords.{below, wrap_even, same_offset, fits, further, next, next-page, shut, small_code, opened, keyed, marked_once, marked_next}
use Rattle.text.proofs.Texts.{second_spare, second_open, second_shut}
use Rattle.text.proofs.fetch_second.Goals as goal

pub returns-then-text-lt2 : goal.returns-then-text-lt2
returns-then-text-lt2 c =
    let a = c.args in
    let (entered, each, few) = c.requires.entered in
    rw c.whole.ensures (record { fetches = second_spare a.text (one_frame a.place) c.if-text-lt2.true; usable = (keyed each c.requires.halfword, few, tt) })

pub overflow_add-place : goal.overflow_add-place
overflow_add-place c = omega (arith, same_offset c.requires.halfword)

pub with_second-more-requires : goal.with_second-more-requires
with_second-more-requires c = fits (further c.requires.halfword c.if-at-lt4094.true)

pub overflow_add-place-then-at-lt4094 : goal.overflow_add-place-then-at-lt4094
overflow_add-place-then-at-lt4094 c = omega (arith, same_offset c.requires.halfword)

pub fetch_third-requires : goal.fetch_third-requires
fetch_third-requires c =
    let (entered, each, few) = c.requires.entered in
    let found = c.requires.halfword in
    rw c.with_second-more.ensures (record {
      entered = (entered, each);
      with_keys = (keyed each found, few, omega (arith, same_offset found));
      halfword = further found c.if-at-lt4094.true;
    })

pub returns-then-at-lt4094 : goal.returns-then-at-lt4094
returns-then-at-lt4094 c =
    let a = c.args in
    let found = c.requires.halfword in
    let one = one_frame a.place in record {
      fetches = second_open a.text one (a.place + 2) one (marked_once one a.at a.place refl (a.place + 2) (omega (arith, same_offset found)))
          c.with_second-more.result c.fetch_third.result (omega arith) (further found c.if-at-lt4094.true) c.with_second-more.ensures
          c.fetch_third.ensures.fetches;
      usable = c.fetch_third.ensures.usable;
    }

pub overflow_add-at-2 : goal.overflow_add-at-2
overflow_add-at-2 c = omega (arith, below c.requires.halfword)

pub find_half-requires : goal.find_half-requires
find_half-requires c =
    (c.requires.entered.0, c.requires.entered.1, rw (c.wrapped-next.ensures c.args.by.control) (wrap_even _ _ (omega (arith, c.requires.halfword.even))))

pub with_second-more-requires-in-Ok : goal.with_second-more-requires-in-Ok
with_second-more-requires-in-Ok c =
    fits (opened (next c.requires.halfword (c.wrapped-next.ensures c.args.by.control) c.find_half.ensures) c.in-Ok.is)

pub fetch_third-requires-in-Ok : goal.fetch_third-requires-in-Ok
fetch_third-requires-in-Ok c =
    let a = c.args in
    let (entered, each, few) = c.requires.entered in
    let first = c.requires.halfword in
    let wrapped = c.wrapped-next.ensures a.by.control in
    let found = opened (next first wrapped c.find_half.ensures) c.in-Ok.is in
    rw (c.with_second-more-in-Ok.ensures, c.and_frame.ensures) (record {
      entered = (entered, each);
      with_keys = ((keyed each first, keyed each found), few, (refl, omega (arith, next-page first wrapped c.if-at-lt4094.false)));
      halfword = found;
    })

pub returns-in-Err : goal.returns-in-Err
returns-in-Err c =
    let a = c.args in
    let (entered, each, few) = c.requires.entered in
    let found = shut (next c.requires.halfword (c.wrapped-next.ensures a.by.control) c.find_half.ensures) c.in-Err.is in
    rw c.cut_short.ensures (record {
      fetches = second_shut a.text (one_frame a.place) (opcode_of a.by.psw.system370 a.text.first) c.in-Err.f (omega arith) found;
      usable = (keyed each c.requires.halfword, few, small_code found);
    })

pub returns-in-Ok : goal.returns-in-Ok
returns-in-Ok c =
    let a = c.args in
    let place = c.in-Ok.field-0.first in
    let one = one_frame a.place in
    let found = opened (next c.requires.halfword (c.wrapped-next.ensures a.by.control) c.find_half.ensures) c.in-Ok.is in record {
      fetches = second_open a.text one place c.and_frame.result (rw c.and_frame.ensures (marked_next one place tt))
          c.with_second-more-in-Ok.result c.fetch_third-in-Ok.result (omega arith) found c.with_second-more-in-Ok.ensures c.fetch_third-in-Ok.ensures.fetches;
      usable = c.fetch_third-in-Ok.ensures.usable;
    }
