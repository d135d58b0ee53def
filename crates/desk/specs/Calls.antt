-- DEMAND 3 over a sequence of calls, desk calls, questions and runs in any order: the frames of each run are those of the tables as it starts, so
-- a call between two runs counts for the second. Two hosts that agree at the start and are given the same calls give the same answers
-- throughout. The record of a later call may be what an earlier run left: the runs of both hosts leave the same.
use Rattle.std.specs.Prelude.{ℕ, ◌+◌, ◌*◌, ◌/◌, ◌≤◌, ◌<◌, ◌≡◌, true, List, [], ◌∷◌, length, get_or}
use Rattle.machine.specs.declared.Guest.{Guest}
use Rattle.machine.specs.declared.Numbers.{Numbers}
use Rattle.machine.specs.declared.Sought.{Sought}
use Rattle.machine.specs.Words.{byte_at}
use Rattle.machine.specs.Sizes.{frame_bytes}
use Rattle.machine.specs.Entry.{entry_good}
use Rattle.machine.specs.Frames.{Describes, GuestFrame}
use Rattle.machine.specs.Operations.{run_of}
use Rattle.desk.specs.declared.Change.{Change}
use Rattle.desk.specs.declared.Change.TheVariants.{Add, Remove, Protect}
use Rattle.desk.specs.declared.Called.{Called}
use Rattle.desk.specs.declared.Listed.{Listed}
use Rattle.desk.specs.declared.Found.{Found}
use Rattle.desk.specs.Desk.{desk_of, list_of}
use Rattle.desk.specs.Unbacked.{unbacked_of}
use Rattle.desk.specs.Theorems.{OfExtent}
use Rattle.machine.specs.Refusals.{Answer, RunAnswer}

-- a call, with all that is handed in beside the host's storage and keys: a change of a page (record, page, number of valid pages), a
-- listing (record, workspace), a question for the first unbacked page (record, A and B), a run (numbers, record)
pub data Call : Type 0 where
  changes : Change → List ℕ → ℕ → ℕ → Call
  lists : List ℕ → List ℕ → Call
  asks : List ℕ → ℕ → ℕ → Call
  runs : Numbers → List ℕ → Call

-- all that comes back beside them
pub data Reply : Type 0 where
  changed : Answer Called → ℕ → Reply
  listed : Answer Listed → List ℕ → Reply
  found : Answer Found → Reply
  ran : RunAnswer → Sought → List ℕ → Reply

-- the host between two calls
pub record Store : Type 0 where
  pub storage : List ℕ
  pub keys : List ℕ

unfoldable pub reply_to : ℕ → Call → Store → Reply
reply_to d (changes c r p number) h =
    changed (desk_of c r d h.storage h.keys p number).answer (desk_of c r d h.storage h.keys p number).number
reply_to d (lists r ws) h = listed (list_of r d h.storage h.keys ws).answer (list_of r d h.storage h.keys ws).words
reply_to d (asks r from to) h = found (unbacked_of r d h.storage h.keys from to)
reply_to d (runs n r) h =
    ran (run_of n r h.storage h.keys).answer (run_of n r h.storage h.keys).table (run_of n r h.storage h.keys).description

unfoldable pub after : ℕ → Call → Store → Store
after d (changes c r p number) h = record { storage = (desk_of c r d h.storage h.keys p number).storage; keys = h.keys }
after d (lists r ws) h = h
after d (asks r from to) h = h
after d (runs n r) h = record { storage = (run_of n r h.storage h.keys).storage; keys = (run_of n r h.storage h.keys).keys }

-- the replies to calls, one after the other, and the host after all of them
unfoldable pub replies : ℕ → List Call → Store → List Reply
replies d [] h = []
replies d (call ∷ calls) h = reply_to d call h ∷ replies d calls (after d call h)

unfoldable pub after_all : ℕ → List Call → Store → Store
after_all d [] h = h
after_all d (call ∷ calls) h = after_all d calls (after d call h)

module _ (g : Guest) (d : ℕ) (Frames : ℕ → Type 0) where
  -- calls for guests of one origin and extent, on one designation; a frame that is added is one of `Frames`
  unfoldable pub Serves : Call → Type 0
  Serves (changes (Add frame) r p number) = OfExtent g.origin g.extent r × Frames frame
  Serves (changes Remove r p number) = OfExtent g.origin g.extent r
  Serves (changes Protect r p number) = OfExtent g.origin g.extent r
  Serves (lists r ws) = OfExtent g.origin g.extent r
  Serves (asks r from to) = OfExtent g.origin g.extent r
  Serves (runs n r) = OfExtent g.origin g.extent r × (n.designation ≡ d)

  unfoldable pub AllServe : List Call → Type 0
  AllServe [] = Unit {0}
  AllServe (call ∷ calls) = Serves call × AllServe calls

  -- Two hosts agree: on the lengths, on the entries that describe the extent, and on `Frames` with their keys, the guest frames among
  -- them; no such entry lies in a guest frame.
  pub record HostsAgree (h₁ h₂ : Store) : Type 0 where
    pub lengths : (length h₁.storage ≡ length h₂.storage) × (length h₁.keys ≡ length h₂.keys)
    pub entries : (at i : ℕ) → Describes g d h₁.storage at → at ≤ i → i < at + 4 → byte_at h₁.storage i ≡ byte_at h₂.storage i
    pub frames : (f i : ℕ) → Frames f → i < frame_bytes → byte_at h₁.storage (f * frame_bytes + i) ≡ byte_at h₂.storage (f * frame_bytes + i)
    pub marks : (f : ℕ) → Frames f → get_or h₁.keys f 0 ≡ get_or h₂.keys f 0
    pub guest : (f : ℕ) → GuestFrame g d h₁.storage f → Frames f
    pub apart : (at f : ℕ) → Describes g d h₁.storage at → GuestFrame g d h₁.storage f → at / frame_bytes ≡ f → ⊥

  -- what a host leaves alone: every byte that is in none of `Frames` and in no entry that describes the extent, and every other key
  pub record LeavesTheRest (h h' : Store) : Type 0 where
    pub bytes : (i : ℕ) → (Frames (i / frame_bytes) → ⊥) → ((at : ℕ) → Describes g d h.storage at → at ≤ i → i < at + 4 → ⊥)
        → byte_at h'.storage i ≡ byte_at h.storage i
    pub marks : (f : ℕ) → (Frames f → ⊥) → get_or h'.keys f 0 ≡ get_or h.keys f 0

  -- the answers are the same throughout, the hosts agree at the end as they did at the start, and each has left the rest alone
  pub record SameThroughout (calls : List Call) (h₁ h₂ : Store) : Type 0 where
    pub answers : replies d calls h₁ ≡ replies d calls h₂
    pub agree : HostsAgree (after_all d calls h₁) (after_all d calls h₂)
    pub rest₁ : LeavesTheRest h₁ (after_all d calls h₁)
    pub rest₂ : LeavesTheRest h₂ (after_all d calls h₂)

abbrev pub IsolationOfCalls : Type 1
IsolationOfCalls = (g : Guest) (d : ℕ) (Frames : ℕ → Type 0) (calls : List Call) (h₁ h₂ : Store) → entry_good g ≡ true
    → AllServe g d Frames calls → HostsAgree g d Frames h₁ h₂ → SameThroughout g d Frames calls h₁ h₂
