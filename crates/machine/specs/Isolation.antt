-- DEMAND 3: isolation. One statement about two whole runs; its proof is `isolation` in proofs/.
use Rattle.std.specs.Prelude.{ℕ, ◌+◌, ◌*◌, ◌/◌, ◌≤◌, ◌<◌, ◌≡◌, List, length, get_or}
use Rattle.machine.specs.declared.Numbers.{Numbers}
use Rattle.machine.specs.Words.{byte_at}
use Rattle.machine.specs.Record.{guest_of}
use Rattle.machine.specs.Sizes.{frame_bytes}
use Rattle.machine.specs.Refusals.{run_verdict, no_refusal}
use Rattle.machine.specs.Frames.{Describes, GuestFrame}
use Rattle.machine.specs.Operations.{run_of}

-- The entries that describe the guest's extent, by host absolute address, and the guest frames, as a run starts. A refused run has none.
module _ (n : Numbers) (r storage keys : List ℕ) where
  pub record RunEntry (at : ℕ) : Type 0 where
    pub accepted : run_verdict n r storage keys ≡ no_refusal
    pub describes : Describes (guest_of r) n.designation storage at

  pub record RunFrame (frame : ℕ) : Type 0 where
    pub accepted : run_verdict n r storage keys ≡ no_refusal
    pub guest : GuestFrame (guest_of r) n.designation storage frame

-- Two runs with the same record and numbers, on storages and keys of the same lengths.
module _ (n : Numbers) (r storage₁ keys₁ storage₂ keys₂ : List ℕ) where
  -- As they start, they agree on the entries, the guest frames and the keys of those frames.
  pub record AgreeButApart : Type 0 where
    pub lengths : (length storage₁ ≡ length storage₂) × (length keys₁ ≡ length keys₂)
    pub entries : (at i : ℕ) → RunEntry n r storage₁ keys₁ at → at ≤ i → i < at + 4 → byte_at storage₁ i ≡ byte_at storage₂ i
    pub frames : (frame i : ℕ) → RunFrame n r storage₁ keys₁ frame → i < frame_bytes
        → byte_at storage₁ (frame * frame_bytes + i) ≡ byte_at storage₂ (frame * frame_bytes + i)
    pub keys : (frame : ℕ) → RunFrame n r storage₁ keys₁ frame → get_or keys₁ frame 0 ≡ get_or keys₂ frame 0

  -- And no such entry lies in such a frame.
  pub record Agree : Type 0 where
    pub alike : AgreeButApart
    pub apart : (at frame : ℕ) → RunEntry n r storage₁ keys₁ at → RunFrame n r storage₁ keys₁ frame → at / frame_bytes ≡ frame → ⊥

  -- Both give the same answer, unit count (in the answer), table that was bad and record, and leave the same bytes and keys in those
  -- frames; each leaves every other byte and key, and the lengths, as they came.
  pub record Isolated : Type 0 where
    pub answer : (run_of n r storage₁ keys₁).answer ≡ (run_of n r storage₂ keys₂).answer
    pub table : (run_of n r storage₁ keys₁).table ≡ (run_of n r storage₂ keys₂).table
    pub description : (run_of n r storage₁ keys₁).description ≡ (run_of n r storage₂ keys₂).description
    pub frames : (frame i : ℕ) → RunFrame n r storage₁ keys₁ frame → i < frame_bytes
        → byte_at (run_of n r storage₁ keys₁).storage (frame * frame_bytes + i) ≡ byte_at (run_of n r storage₂ keys₂).storage (frame * frame_bytes + i)
    pub keys : (frame : ℕ) → RunFrame n r storage₁ keys₁ frame
        → get_or (run_of n r storage₁ keys₁).keys frame 0 ≡ get_or (run_of n r storage₂ keys₂).keys frame 0
    pub lengths₁ : (length (run_of n r storage₁ keys₁).storage ≡ length storage₁) × (length (run_of n r storage₁ keys₁).keys ≡ length keys₁)
    pub lengths₂ : (length (run_of n r storage₂ keys₂).storage ≡ length storage₂) × (length (run_of n r storage₂ keys₂).keys ≡ length keys₂)
    pub rest_of_storage₁ : (i : ℕ) → (RunFrame n r storage₁ keys₁ (i / frame_bytes) → ⊥) → byte_at (run_of n r storage₁ keys₁).storage i ≡ byte_at storage₁ i
    pub rest_of_keys₁ : (frame : ℕ) → (RunFrame n r storage₁ keys₁ frame → ⊥) → get_or (run_of n r storage₁ keys₁).keys frame 0 ≡ get_or keys₁ frame 0
    pub rest_of_storage₂ : (i : ℕ) → (RunFrame n r storage₁ keys₁ (i / frame_bytes) → ⊥) → byte_at (run_of n r storage₂ keys₂).storage i ≡ byte_at storage₂ i
    pub rest_of_keys₂ : (frame : ℕ) → (RunFrame n r storage₁ keys₁ frame → ⊥) → get_or (run_of n r storage₂ keys₂).keys frame 0 ≡ get_or keys₂ frame 0

abbrev pub Isolation : Type 0
Isolation = (n : Numbers) (r storage₁ keys₁ storage₂ keys₂ : List ℕ) → Agree n r storage₁ keys₁ storage₂ keys₂ → Isolated n r storage₁ keys₁ storage₂ keys₂
