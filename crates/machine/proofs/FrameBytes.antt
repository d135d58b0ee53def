-- The bytes of frames.
-- Assumes nothing.
use Prim.Native.Nat.{ℕ, ◌+◌, ◌*◌, ◌/◌, ◌%◌, ◌<◌}
use native.Mathlib.Nat.{div-add-mod'}
use native.Mathlib.Omega.{arith}
use mathlib.Core.Path.{◌≡◌, subst}
use mathlib.Core.List.{List}
use Rattle.machine.specs.Words.{byte_at}
use Rattle.machine.specs.Sizes.{frame_bytes}

-- the host absolute addresses of the bytes of the frames P
abbrev pub In : (ℕ → Type 0) → ℕ → Type 0
In P i = P (i / frame_bytes)

pub in_frame_lem : (P : ℕ → Type 0) (frame i : ℕ) → i < frame_bytes → P frame → In P (frame * frame_bytes + i)
in_frame_lem P frame i small h =
    let e : frame ≡ (frame * frame_bytes + i) / frame_bytes = omega arith in
    subst P e h

pub same_bytes : (P : ℕ → Type 0) (s₁ s₂ : List ℕ)
    → ((frame i : ℕ) → P frame → i < frame_bytes → byte_at s₁ (frame * frame_bytes + i) ≡ byte_at s₂ (frame * frame_bytes + i))
    → (i : ℕ) → In P i → byte_at s₁ i ≡ byte_at s₂ i
same_bytes P s₁ s₂ same i h = rw div-add-mod' at (same (i / frame_bytes) (i % frame_bytes) h (omega arith))
