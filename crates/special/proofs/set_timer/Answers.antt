-- `special::set_timer` meets its contract.
use Prim.Native.Nat.{◌+◌, ◌*◌, ◌^◌}
use native.Mathlib.Omega.{arith}
use mathlib.Core.Path.{◌≡◌, refl, ◌∙◌}
use Rattle.machine.specs.Words.{double_at}
use Rattle.special.specs.declared.Done.{Done}
use Rattle.special.specs.declared.Change.TheVariants.{Changed}
use Rattle.special.specs.Performing.{psw_in}
use Rattle.special.proofs.Performing.{fetch_within}
use Rattle.special.proofs.Leaving.{past_psw}
use Rattle.special.proofs.Instructions.{timer_performed}
use Rattle.special.proofs.set_timer.Goals as goal

pub word_at-high-requires : goal.word_at-high-requires
word_at-high-requires c =
    let a = c.args in
    omega (arith, fetch_within a.storage.now a.kept.now c.requires.0 a.a 8 c.in-Some.p c.requires.1 (c.fetch_place.ensures c.in-Some.p c.in-Some.is))

pub word_at-low-requires : goal.word_at-low-requires
word_at-low-requires c =
    let a = c.args in
    omega (arith, fetch_within a.storage.now a.kept.now c.requires.0 a.a 8 c.in-Some.p c.requires.1 (c.fetch_place.ensures c.in-Some.p c.in-Some.is))

pub returns-clause-performs : goal.returns-clause-performs
unfolding double_at
returns-clause-performs c =
    let a = c.args in
    let p = c.in-Some.p in
    let past = c.advanced in
    let spot = c.fetch_place.ensures p c.in-Some.is in
    let d : Done = record { change = Changed; left = past.result.left; right = past.result.right; timer = c.word_at-high.result * 4294967296 + c.word_at-low.result } in
    let left : psw_in d a.psw ≡ past.result = past_psw a.psw past.result 2 past.ensures d refl refl in
    rw c.leaving.ensures (
      timer_performed a.kept.now a.storage.now a.psw a.a c.requires.1 p spot
          (fetch_within a.storage.now a.kept.now c.requires.0 a.a 8 p c.requires.1 spot) (psw_in d a.psw) d.timer
          (λ k same. left ∙ past.ensures k same) (λ i. c.word_at-high.ensures i * 2 ^ 32 + c.word_at-low.ensures i),
      tt,
    )
