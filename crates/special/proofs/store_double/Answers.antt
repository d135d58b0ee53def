-- `special::store_double` meets its contract.
use mathlib.Core.Path.{refl, ◌∙◌}
use Rattle.words.proofs.Numbers.{double_of_part}
use Rattle.special.proofs.Performing.{store_within}
use Rattle.special.proofs.store_double.Goals as goal

pub slice_bounds-put_part-end : goal.slice_bounds-put_part-end
slice_bounds-put_part-end c =
    let a = c.args in
    store_within a.storage.now a.kept.now c.requires.0 a.a 8 c.in-Some.from c.requires.1 (c.store_place.ensures c.in-Some.from c.in-Some.is)

pub returns-clause-stored : goal.returns-clause-stored
returns-clause-stored c =
    let a = c.args in
    let p = c.in-Some.from in
    let spot = c.store_place.ensures p c.in-Some.is in
    rw c.leaving.ensures (
      record {
        place = p;
        spot = spot;
        high = c.if-a-lt512.false;
        put = double_of_part a.storage.now _ p a.value (store_within a.storage.now a.kept.now c.requires.0 a.a 8 p c.requires.1 spot) (c.put_part.ensures ∙ c.to_be_bytes.ensures);
        left = refl;
        right = refl;
      },
      refl,
    )
