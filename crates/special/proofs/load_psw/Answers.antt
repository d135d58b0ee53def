-- `special::load_psw` meets its contract.
use native.Mathlib.Omega.{arith}
use mathlib.Core.Path.{refl}
use Rattle.machine.specs.Record.{psw_of}
use Rattle.special.proofs.Performing.{fetch_within}
use Rattle.special.proofs.Instructions.{psw_performed}
use Rattle.special.proofs.load_psw.Goals as goal

pub word_at-requires : goal.word_at-requires
word_at-requires c =
    let a = c.args in
    omega (arith, fetch_within a.storage.now a.kept.now c.requires.0 a.a 8 c.in-Some.p c.requires.1 (c.fetch_place.ensures c.in-Some.p c.in-Some.is))

pub word_at-requires-2 : goal.word_at-requires-2
word_at-requires-2 c =
    let a = c.args in
    omega (arith, fetch_within a.storage.now a.kept.now c.requires.0 a.a 8 c.in-Some.p c.requires.1 (c.fetch_place.ensures c.in-Some.p c.in-Some.is))

pub returns-clause-performs : goal.returns-clause-performs
unfolding psw_of
returns-clause-performs c =
    let a = c.args in
    let p = c.in-Some.p in
    let spot = c.fetch_place.ensures p c.in-Some.is in
    rw c.leaving.ensures (
      psw_performed a.kept.now a.storage.now a.psw a.a c.requires.1 p spot
          (fetch_within a.storage.now a.kept.now c.requires.0 a.a 8 p c.requires.1 spot) _
          (λ i. record { left = c.word_at.ensures i; right = c.word_at-2.ensures i; system370 = a.psw.system370 }),
      refl,
      tt,
    )
