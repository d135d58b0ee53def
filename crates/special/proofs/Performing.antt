-- Instructions whose operand stands on a kept block, as their text does.
-- Assumes nothing.
use Prim.Native.Nat.{ℕ, ◌+◌, ◌-◌, ◌/◌, ◌%◌, ◌≤◌, ◌<◌}
use native.Mathlib.Omega.{arith}
use mathlib.Core.Path.{◌≡◌, ap, sym, subst, ◌∙◌}
use mathlib.Core.List.{List, ◌++◌}
use lib.ListN.{length, take, drop}
use lib.Seq.{sets}
use Rattle.machine.specs.declared.Cpu.{Cpu}
use Rattle.machine.specs.declared.Guest.{Guest}
use Rattle.machine.specs.declared.Psw.{Psw}
use Rattle.machine.specs.Psw.{wrap}
use Rattle.machine.specs.Host.{Host}
use Rattle.machine.specs.Outcomes.{Progress}
use Rattle.machine.specs.Execute.{operand_address, fetching, storing}
use Rattle.interruptions.specs.declared.Done.{Done}
use Rattle.interruptions.specs.declared.Event.TheVariants as event
use Rattle.interruptions.specs.After.{left_by, Left}
use Rattle.guard.specs.Guarding.{Alike}
use Rattle.blocks.specs.Keeping.{Block, fetch_block, store_block, Inside}
use Rattle.blocks.proofs.Holding.{alike_same, kept_free}
use Rattle.places.specs.Placing.{Spot}
use Rattle.steps.proofs.Operating.{fetched_here, stored_here}
use Rattle.special.specs.Performing.{Begun}

-- n bytes on a kept block stand in storage
module _ (storage kept : List ℕ) (inside : Inside storage kept) (a n p : ℕ) (small : a < 2147483648) where
  pub fetch_within : Spot (fetch_block kept (a / 2048 % 8)) a n p → p + n ≤ length storage
  fetch_within spot =
      omega (arith, (inside.fetch (a / 2048 % 8) (omega arith) (omega (arith, spot.from))).inside, spot.within, spot.at)

  pub store_within : Spot (store_block kept (a / 2048 % 8)) a n p → p + n ≤ length storage
  store_within spot =
      omega (arith, (inside.store (a / 2048 % 8) (omega arith) (omega (arith, spot.from))).inside, spot.within, spot.at)

module _ (kept storage guard : List ℕ) (psw : Psw) (a : ℕ) (h : Host) (g : Guest) (x : Progress) (clock : ℕ) (c : Cpu) (text : Block) (first second : ℕ)
    (begun : Begun kept storage guard psw a h g x clock c text first second) (small : a < 2147483648) (n p : ℕ) (some : 0 < n) where
  -- the instruction's own length m of its operand is n
  pub performs_fetched : Spot (fetch_block kept (a / 2048 % 8)) a n p → {m : ℕ} → n ≡ m → (after : List ℕ → Cpu) (done : Done) → done.event ≡ event.Completed
      → left_by c done ≡ after (take n (drop p storage) ++ take (n - n) (drop 0 storage))
      → Left h g c (fetching x (operand_address x) m after) done storage h.keys × Alike guard storage storage
  performs_fetched spot {m} as_many after done ended left =
      let i = a / 2048 % 8 in
      let b = fetch_block kept i in
      let few : i < 8 = omega arith in
      let from : b.first ≤ a = spot.from in
      let holding : b.first < 2147483648 = omega arith in
      let d = a - b.first in
      let whole : b.first + d ≡ a = omega arith in
      let stands = (subst (λ s. Inside s kept) (sym begun.bytes) begun.inside).fetch i few holding in
      let own : wrap c (b.first + d) ≡ b.first + d = ap (wrap c) whole ∙ begun.wrapped ∙ sym whole in (
        subst (λ s. Left h g c (fetching x (operand_address x) m after) done s h.keys) begun.bytes
            (subst (λ o. Left h g c o done h.storage h.keys) (λ j. fetching x ((whole ∙ sym begun.address) j) (as_many j) after)
            (fetched_here h g c b stands holding d n spot.within some x text first second begun.standing begun.text_marks own
            (begun.keeps.fetch i few) (begun.marks.fetch i few holding) after done ended
            (left ∙ (λ j. after (take n (drop (spot.at j) (sym begun.bytes j)) ++ take (n - n) (drop 0 (sym begun.bytes j))))))),
        alike_same guard storage,
      )

  -- the instruction's own bytes are these
  pub performs-stored : Spot (store_block kept (a / 2048 % 8)) a n p → 512 ≤ a → (bytes : List ℕ) {stored : List ℕ} → length bytes ≡ n → bytes ≡ stored → (to : Cpu) (done : Done)
      → done.event ≡ event.Completed → left_by c done ≡ to
      → Left h g c (storing x (operand_address x) stored to) done (sets storage p bytes) h.keys × Alike guard storage (sets storage p bytes)
  performs-stored spot high bytes long same to done ended left =
      let i = a / 2048 % 8 in
      let b = store_block kept i in
      let few : i < 8 = omega arith in
      let from : b.first ≤ a = spot.from in
      let holding : b.first < 2147483648 = omega arith in
      let d = a - b.first in
      let whole : b.first + d ≡ a = omega arith in
      let stands = begun.inside.store i few holding in
      let own : wrap c (b.first + d) ≡ b.first + d = ap (wrap c) whole ∙ begun.wrapped ∙ sym whole in (
        subst (λ o. Left h g c o done (sets storage p bytes) h.keys) (λ j. storing x ((whole ∙ sym begun.address) j) (same j) to)
            (subst (λ s. Left h g c (storing x (b.first + d) bytes to) done s h.keys) (λ j. sets (begun.bytes j) (sym spot.at j) bytes)
            (stored_here h g c b ((subst (λ s. Inside s kept) (sym begun.bytes) begun.inside).store i few holding) holding d n spot.within some x text first second
            begun.standing begun.text_marks own (begun.keeps.store i few) (begun.marks.store i few holding) (omega arith) bytes long to done ended left)),
        subst (λ q. Alike guard storage (sets storage q bytes)) (sym spot.at)
            (kept_free guard storage bytes b (begun.free i few holding) stands d (omega (arith, spot.within, long))),
      )
