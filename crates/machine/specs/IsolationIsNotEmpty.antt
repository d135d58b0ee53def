-- What `Isolation` assumes can be met by two hosts that differ, and its part `apart` cannot be left out. The proofs are in crate witnesses.
use Rattle.std.specs.Prelude.{ℕ, ◌/◌, ◌<◌, ◌≡◌, List, get_or}
use Rattle.machine.specs.declared.End.{End}
use Rattle.machine.specs.declared.Numbers.{Numbers}
use Rattle.machine.specs.Words.{byte_at}
use Rattle.machine.specs.Sizes.{frame_bytes}
use Rattle.machine.specs.Operations.{run_of}
use Rattle.machine.specs.Isolation.{RunFrame, AgreeButApart, Agree}
use Rattle.machine.specs.Answers.{run_answer}

module _ (n : Numbers) (r storage₁ keys₁ storage₂ keys₂ : List ℕ) where
  -- The hosts agree, and the run completes a unit and changes a byte of a guest frame. They differ in a byte and in the key of its frame,
  -- which is no guest frame.
  pub record AgreeAndDiffer : Type 0 where
    pub agree : Agree n r storage₁ keys₁ storage₂ keys₂
    pub end : End
    pub units : ℕ
    pub ended : (run_of n r storage₁ keys₁).answer ≡ run_answer end units
    pub some : 0 < units
    pub stored : ℕ
    pub inside : RunFrame n r storage₁ keys₁ (stored / frame_bytes)
    pub changed : byte_at (run_of n r storage₁ keys₁).storage stored ≡ byte_at storage₁ stored → ⊥
    pub place : ℕ
    pub outside : RunFrame n r storage₁ keys₁ (place / frame_bytes) → ⊥
    pub other_byte : byte_at storage₁ place ≡ byte_at storage₂ place → ⊥
    pub other_key : get_or keys₁ (place / frame_bytes) 0 ≡ get_or keys₂ (place / frame_bytes) 0 → ⊥

abbrev pub AgreeingHostsExist : Type 0
AgreeingHostsExist = (n : Numbers) × (r storage₁ keys₁ storage₂ keys₂ : List ℕ) × AgreeAndDiffer n r storage₁ keys₁ storage₂ keys₂

-- Where an entry lies in a guest frame, the guest can change it and so reach another frame: the answers can differ.
abbrev pub EntriesMustBeApart : Type 0
EntriesMustBeApart = (n : Numbers) × (r storage₁ keys₁ storage₂ keys₂ : List ℕ) × AgreeButApart n r storage₁ keys₁ storage₂ keys₂
    × ((run_of n r storage₁ keys₁).answer ≡ (run_of n r storage₂ keys₂).answer → ⊥)
