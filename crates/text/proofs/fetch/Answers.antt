-- `text::fetch` meets its contract.
use Prim.Native.Nat.{◌%◌}
use native.Mathlib.Omega.{arith}
use mathlib.Core.Path.{refl, sym, ap, ◌∙◌}
use Rattle.machine.specs.Psw.{wrap}
use Rattle.machine.specs.Units.{first_text}
use Rattle.decode.proofs.Table.{length_at_most, alignment_some}
use Rattle.address.specs.Touching.{seen}
use Rattle.text.specs.Fetching.{no_text, no_frames, no_opcode, one_frame}
use Rattle.text.proofs.Halfwords.{wrap_even, initial, shut, small_code, opened, fits, marked_first}
use Rattle.text.proofs.Texts.{standing_started, first_odd, first_shut, first_open}
use Rattle.text.proofs.fetch.Goals as goal

pub returns-then-address-eq1 : goal.returns-then-address-eq1
returns-then-address-eq1 c =
    let a = c.args in
    let address = c.instruction_address-address.ensures (seen a.psw a.control) refl in
    rw c.unfetched.ensures (record {
      fetched_as = λ k clock of_psw of_control.
          first_odd no_text no_frames no_opcode (ap (λ n. n % 2) (sym address) ∙ c.if-address-eq1.true) _ clock k of_psw of_control (standing_started _ _ clock k 1 refl);
      usable = ((tt, omega arith, omega arith), omega arith);
    })

pub find_half-requires : goal.find_half-requires
find_half-requires c =
    (c.requires.0, c.requires.1, rw (c.wrapped-at.ensures c.args.control) (wrap_even _ _ (omega (arith, c.if-address-eq1.false))))

pub half_at-half-requires : goal.half_at-half-requires
half_at-half-requires c =
    let a = c.args in
    let address = c.instruction_address-address.ensures (seen a.psw a.control) refl in
    let first = initial (c.wrapped-at.ensures a.control ∙ ap (wrap (seen a.psw a.control)) address) (omega (arith, c.if-address-eq1.false, address)) c.find_half.ensures in
    fits (opened first c.in-Ok.is)

pub fetch_second-reading-requires : goal.fetch_second-reading-requires
fetch_second-reading-requires c =
    let a = c.args in
    let address = c.instruction_address-address.ensures (seen a.psw a.control) refl in
    let first = initial (c.wrapped-at.ensures a.control ∙ ap (wrap (seen a.psw a.control)) address) (omega (arith, c.if-address-eq1.false, address)) c.find_half.ensures in
    let (entered, each) = c.requires in
    record { entered = (entered, each, rw c.decode-opcode.ensures (length_at_most _ _)); halfword = opened first c.in-Ok.is }

pub returns-in-Err : goal.returns-in-Err
returns-in-Err c =
    let a = c.args in
    let address = c.instruction_address-address.ensures (seen a.psw a.control) refl in
    let first = initial (c.wrapped-at.ensures a.control ∙ ap (wrap (seen a.psw a.control)) address) (omega (arith, c.if-address-eq1.false, address)) c.find_half.ensures in
    let found = shut first c.in-Err.is in
    rw c.unfetched-in-Err.ensures (record {
      fetched_as = λ k clock of_psw of_control.
          first_shut no_text no_frames no_opcode c.in-Err.f found _ clock k of_psw of_control (standing_started _ _ clock k 1 refl);
      usable = ((tt, omega arith, small_code found), omega arith);
    })

pub returns-in-Ok : goal.returns-in-Ok
returns-in-Ok c =
    let a = c.args in
    let address = c.instruction_address-address.ensures (seen a.psw a.control) refl in
    let first = initial (c.wrapped-at.ensures a.control ∙ ap (wrap (seen a.psw a.control)) address) (omega (arith, c.if-address-eq1.false, address)) c.find_half.ensures in
    let place = c.in-Ok.field-0.first in
    let half = c.half_at-half.result in
    let code = c.decode-opcode.result in
    let known = c.decode-opcode.ensures in record {
      fetched_as = λ k clock of_psw of_control.
          first_open no_text no_frames place (one_frame place) (marked_first place) (record { ilc = code.length; first = half; second = 0; third = 0 }) code
          c.fetch_second-reading.result (opened first c.in-Ok.is)
          (ap (λ o. record { ilc = o.length; first = half; second = 0; third = 0 }) known ∙ ap (first_text a.psw.system370) c.half_at-half.ensures.0)
          known c.fetch_second-reading.ensures.fetches _ clock k of_psw of_control (standing_started _ _ clock k 1 refl);
      usable = (c.fetch_second-reading.ensures.usable, rw known (alignment_some _ _));
    }
