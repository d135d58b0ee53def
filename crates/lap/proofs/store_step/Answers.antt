-- `lap::store_step` meets its contract.
use Rattle.std.proofs.Common.{◌+◌, ◌∙◌, ◌^◌, ◌<◌, get_or, le-ltb, lt-ltb, rules}
use Rattle.words.proofs.Numbers.{word_of_part}
use Rattle.lap.specs.Stepping.{entry_of, store_reach, store_step, stored_step}
use Rattle.lap.proofs.Reaching.{store-inside}
use Rattle.lap.proofs.store_step.Goals as goal

pub returns-then-d-gt2044 : goal.returns-then-d-gt2044
unfolding store_step stored_step
returns-then-d-gt2044 c = (rw (lt-ltb 2044 _ c.if-d-gt2044.true) c.wanting.ensures, rw (lt-ltb 2044 _ c.if-d-gt2044.true), search rules)

pub returns-then-a-lt512 : goal.returns-then-a-lt512
unfolding store_step stored_step
returns-then-a-lt512 c =
    let close = le-ltb 2044 _ c.if-d-gt2044.false in
    let low = lt-ltb _ 512 c.if-a-lt512.true in
    (rw (close, low) c.wanting-then-a-lt512.ensures, rw (close, low), search rules)

pub returns : goal.returns
unfolding store_step stored_step
returns c =
    let a = c.args in
    let close = le-ltb 2044 _ c.if-d-gt2044.false in
    let high = le-ltb _ 512 c.if-a-lt512.false in
    let word : get_or a.kept.now (16 + entry_of a.a) 0 < 2 ^ 32 = search rules in
    let inside = store-inside a.storage.now a.kept.now c.requires.0 a.a c.requires.1 word c.if-d-gt2044.false in (
      rw (close, high) c.stepped.ensures,
      rw (close, high) (word_of_part a.storage.now c.put_part.new.part (get_or a.kept.now (24 + entry_of a.a) 0 + store_reach a.kept.now a.a) a.value inside (c.put_part.ensures ∙ c.to_be_bytes.ensures)),
      word,
    )
