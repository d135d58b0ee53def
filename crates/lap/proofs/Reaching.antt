-- How far an address lies behind the first one of its block, as the code works it out, and what LOAD and STORE come to by that.
-- Assumes nothing.
use Rattle.std.proofs.Common.{◌≡◌, ℕ, ◌+◌, ◌%◌, ◌^◌, ◌<◌, ◌≤◌, List, length, get_or, arith, le-ltb, lt-ltb}
use lib.Seq.{sets}
use Rattle.machine.specs.Words.{word_at, word_bytes}
use Rattle.blocks.specs.Keeping.{Inside}
use Rattle.lap.specs.Stepping.{behind, entry_of, store_reach, wants_fetch, wants_store, other, no_register, step_to, step_wants, load_step, store_step, stored_step}
use Rattle.lap.proofs.Words.{near}

-- a difference that wraps, from the first address in an entry
pub behind_is : (kept : List ℕ) (i a first d : ℕ) → a < 2147483648 → first ≡ get_or kept i 0 → first < 2 ^ 32 → d < 2 ^ 64 → (d + first) % 2 ^ 64 ≡ a
    → d ≡ behind a (get_or kept i 0)
behind_is kept i a first d small is word long wraps = omega arith

-- a word so near lies in its block
module _ (storage kept : List ℕ) (inside : Inside storage kept) (a : ℕ) (small : a < 2147483648) where
  pub fetch_inside : get_or kept (entry_of a) 0 < 2 ^ 32 → behind a (get_or kept (entry_of a) 0) ≤ 2044
      → get_or kept (8 + entry_of a) 0 + behind a (get_or kept (entry_of a) 0) + 4 ≤ length storage
  fetch_inside word close =
      let (from, _) = near a (get_or kept (entry_of a) 0) small word close in
      let stands = inside.fetch (entry_of a) (omega arith) (omega (arith, from, small)) in
      omega (arith, close, stands.inside)

  pub store-inside : get_or kept (16 + entry_of a) 0 < 2 ^ 32 → store_reach kept a ≤ 2044
      → get_or kept (24 + entry_of a) 0 + store_reach kept a + 4 ≤ length storage
  store-inside word close =
      let (from, _) = near a (get_or kept (16 + entry_of a) 0) small word close in
      let stands = inside.store (entry_of a) (omega arith) (omega (arith, from, small)) in
      omega (arith, close, stands.inside)

-- LOAD (L)
module _ (storage kept : List ℕ) (at sum register a : ℕ) where
  abbrev reach : ℕ
  reach = behind a (get_or kept (entry_of a) 0)

  pub load_far : 2044 < reach → load_step storage kept at sum register a ≡ step_wants wants_fetch a at sum
  unfolding load_step
  load_far far = rw (lt-ltb 2044 reach far)

  pub load_near : reach ≤ 2044 → load_step storage kept at sum register a ≡ step_to (at + 4) sum register (word_at storage (get_or kept (8 + entry_of a) 0 + reach))
  unfolding load_step
  load_near close = rw (le-ltb 2044 reach close)

-- STORE (ST)
module _ (kept : List ℕ) (a : ℕ) where
  module _ (far : 2044 < store_reach kept a) where
    pub store_far : (at sum : ℕ) → store_step kept at sum a ≡ step_wants wants_store a at sum
    unfolding store_step
    store_far at sum = rw (lt-ltb 2044 (store_reach kept a) far)

    pub stored_far : (storage : List ℕ) (value : ℕ) → stored_step storage kept a value ≡ storage
    unfolding stored_step
    stored_far storage value = rw (lt-ltb 2044 (store_reach kept a) far)

  module _ (close : store_reach kept a ≤ 2044) where
    module _ (low : a < 512) where
      pub store_low : (at sum : ℕ) → store_step kept at sum a ≡ step_wants other a at sum
      unfolding store_step
      store_low at sum = rw (le-ltb 2044 (store_reach kept a) close, lt-ltb a 512 low)

      pub stored_low : (storage : List ℕ) (value : ℕ) → stored_step storage kept a value ≡ storage
      unfolding stored_step
      stored_low storage value = rw (le-ltb 2044 (store_reach kept a) close, lt-ltb a 512 low)

    module _ (high : 512 ≤ a) where
      pub store_near : (at sum : ℕ) → store_step kept at sum a ≡ step_to (at + 4) sum no_register 0
      unfolding store_step
      store_near at sum = rw (le-ltb 2044 (store_reach kept a) close, le-ltb a 512 high)

      pub stored_near : (storage : List ℕ) (value : ℕ)
          → stored_step storage kept a value ≡ sets storage (get_or kept (24 + entry_of a) 0 + store_reach kept a) (word_bytes value)
      unfolding stored_step
      stored_near storage value = rw (le-ltb 2044 (store_reach kept a) close, le-ltb a 512 high)
