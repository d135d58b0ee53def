-- Demand 3 for translate, which changes nothing: the answer alone, the table that was bad in it. Check is given no host.
use Rattle.std.specs.Prelude.{ℕ, ◌+◌, ◌*◌, ◌≤◌, ◌<◌, ◌≡◌, List, length, get_or}
use Rattle.machine.specs.Words.{byte_at}
use Rattle.machine.specs.Record.{guest_of}
use Rattle.machine.specs.Sizes.{frame_bytes}
use Rattle.machine.specs.Refusals.{translate_verdict, no_refusal}
use Rattle.machine.specs.Host.{host}
use Rattle.machine.specs.Frames.{Describes, GuestFrame}
use Rattle.machine.specs.Operations.{translate}

-- Two translations with one record, access kind and host designation, on storages and keys of the same lengths, that agree on the entries
-- that describe the extent, the guest frames and the keys of those frames. Nothing is stored, so an entry may lie in a guest frame.
pub record TranslationsAgree (r : List ℕ) (kind d : ℕ) (s₁ k₁ s₂ k₂ : List ℕ) : Type 0 where
  pub lengths : (length s₁ ≡ length s₂) × (length k₁ ≡ length k₂)
  pub entries : translate_verdict r s₁ k₁ kind ≡ no_refusal
      → (at i : ℕ) → Describes (guest_of r) d s₁ at → at ≤ i → i < at + 4 → byte_at s₁ i ≡ byte_at s₂ i
  pub frames : translate_verdict r s₁ k₁ kind ≡ no_refusal
      → (frame i : ℕ) → GuestFrame (guest_of r) d s₁ frame → i < frame_bytes → byte_at s₁ (frame * frame_bytes + i) ≡ byte_at s₂ (frame * frame_bytes + i)
  pub keys : translate_verdict r s₁ k₁ kind ≡ no_refusal → (frame : ℕ) → GuestFrame (guest_of r) d s₁ frame → get_or k₁ frame 0 ≡ get_or k₂ frame 0

abbrev pub IsolationOfTranslations : Type 0
IsolationOfTranslations = (r : List ℕ) (a kind d : ℕ) (s₁ k₁ s₂ k₂ : List ℕ) → TranslationsAgree r kind d s₁ k₁ s₂ k₂
    → translate r (host d s₁ k₁) a kind ≡ translate r (host d s₂ k₂) a kind
