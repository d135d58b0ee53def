-- The part of a verdict on storage and keys.
-- Assumes nothing.
use Prim.Native.Nat.{ℕ, ◌*◌, ◌%◌, ◌≤◌}
use native.Mathlib.Omega.{arith}
use mathlib.Core.Path.{◌≡◌}
use mathlib.Core.List.{List}
use lib.ListN.{length}
use borrow.Author.Tests.{le-ltb, eq-eqb, ne_eqb}
use Rattle.machine.specs.Sizes.{frame_bytes}
use Rattle.machine.specs.Refusals.{most_frames, frames_of, wrong_storage, wrong_keys, no_refusal}
use Rattle.limits.specs.Parts.{storage_verdict}

-- refusals 3 and 4 of a storage of whole frames, one for each key
pub storage_framed : (storage keys : List ℕ) → length keys ≤ most_frames → length storage ≡ length keys * frame_bytes → (length storage ≡ 0 → ⊥)
    → storage_verdict storage keys ≡ no_refusal
unfolding storage_verdict wrong_storage wrong_keys
storage_framed storage keys few whole some =
    rw (
      ne_eqb (length storage) 0 some,
      le-ltb (most_frames * frame_bytes) (length storage) (omega (arith, few, whole)),
      eq-eqb (length storage % frame_bytes) 0 (omega (arith, whole)),
      eq-eqb (length keys) (frames_of storage) (omega (arith, whole)),
    )
