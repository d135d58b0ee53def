-- DEMAND 3 over a sequence of calls: the proof of `IsolationOfCalls`.
use Rattle.std.specs.Prelude.{Err, Ok}
use Prim.Native.Nat.{ℕ, ◌*◌, ◌+◌, ◌/◌, ◌<◌}
use native.Mathlib.Omega.{arith}
use mathlib.Core.Path.{◌≡◌, refl, sym, ap, ◌∙◌}
use mathlib.Core.Bool.{true}
use mathlib.Core.List.{List, [], ◌∷◌}
use lib.ListN.{get_or}
use Rattle.machine.specs.declared.Guest.{Guest}
use Rattle.machine.specs.declared.Numbers.{Numbers}
use Rattle.machine.specs.Words.{byte_at}
use Rattle.machine.specs.Record.{guest_of}
use Rattle.machine.specs.Sizes.{frame_bytes}
use Rattle.machine.specs.Refusals.{run_verdict, Verdict}
use Rattle.machine.specs.Entry.{entry_good}
use Rattle.machine.specs.Frames.{InExtent}
use Rattle.machine.specs.Operations.{run_of}
use Rattle.machine.specs.Isolation.{RunFrame, Isolated}
use Rattle.machine.proofs.FrameBytes.{same_bytes}
use Rattle.machine.proofs.Isolation.{isolation}
use Rattle.desk.specs.Extent.{first_page, page_count, guest_frame}
use Rattle.desk.specs.Theorems.{OfExtent}
use Rattle.desk.specs.Calls.{Call, changes, lists, asks, runs, changed, listed, found, ran, Store, reply_to, after, replies, after_all, Serves, AllServe, HostsAgree, LeavesTheRest, SameThroughout, IsolationOfCalls}
use Rattle.desk.proofs.Tables.{true_or_false, never_both, SameEntriesOf, same_tables}
use Rattle.desk.proofs.Changes.{host_of}
use Rattle.desk.proofs.Terms.{tests_are_the_terms}
use Rattle.desk.proofs.Describing.{in_extent, segment-describes, page-describes, inside_for}
use Rattle.desk.proofs.Replies.{same_desk, same_list, same_question}
use Rattle.desk.proofs.Kept.{Sound, Kept, sound_of_tables, of_record_lem, entry_of-run, frame_of-run, extent_of, keeps}

-- a frame is a guest frame as a run starts, or it is none
frame_or_not : {P : Type 0} (n : Numbers) (r s k : List ℕ) (f : ℕ) → (RunFrame n r s k f → P) → ((RunFrame n r s k f → ⊥) → P) → P
frame_or_not {P} n r s k f is isNot = by_verdict (run_verdict n r s k) refl
  where
    by_verdict : (v : Verdict) → run_verdict n r s k ≡ v → P
    by_verdict (Err refusal) e = isNot λ h. let accepted = h.accepted in let z : ◌≡◌ {A = ℕ} 0 1 = cc in omega arith
    by_verdict (Ok _) accepted =
        true_or_false P (entry_good (guest_of r))
        (λ good.
        let frame = tests_are_the_terms.frame (guest_of r) n.designation s f good in
        true_or_false P (guest_frame (first_page (guest_of r)) (page_count (guest_of r)) n.designation s f)
        (λ e. is (record { accepted = accepted; guest = frame.0 e }))
        (λ e. isNot λ h. never_both (frame.1 h.guest) e))
        (λ e. isNot λ h. never_both h.guest.good e)

-- what a call makes of two hosts: it answers alike, and leaves each byte and key alike that it found alike
record Alike (d : ℕ) (call : Call) (h₁ h₂ : Store) : Type 0 where
  reply : reply_to d call h₁ ≡ reply_to d call h₂
  bytes : (i : ℕ) → byte_at h₁.storage i ≡ byte_at h₂.storage i → byte_at (after d call h₁).storage i ≡ byte_at (after d call h₂).storage i
  marks : (f : ℕ) → get_or h₁.keys f 0 ≡ get_or h₂.keys f 0 → get_or (after d call h₁).keys f 0 ≡ get_or (after d call h₂).keys f 0

module _ (g : Guest) (Frames : ℕ → Type 0) (good : entry_good g ≡ true) (n : Numbers) (r : List ℕ) (of : OfExtent g.origin g.extent r)
    (h₁ h₂ : Store) (agree : HostsAgree g n.designation Frames h₁ h₂) where
  isolated : Isolated n r h₁.storage h₁.keys h₂.storage h₂.keys
  isolated = isolation n r h₁.storage h₁.keys h₂.storage h₂.keys (record {
    alike = record {
      lengths = agree.lengths;
      entries = λ at i entry low high. agree.entries at i (entry_of-run g Frames good n r of h₁ at entry) low high;
      frames = λ f i frame small. agree.frames f i (agree.guest f (frame_of-run g Frames good n r of h₁ f frame)) small;
      keys = λ f frame. agree.marks f (agree.guest f (frame_of-run g Frames good n r of h₁ f frame));
    };
    apart = λ at f entry frame. agree.apart at f (entry_of-run g Frames good n r of h₁ at entry) (frame_of-run g Frames good n r of h₁ f frame);
  })

  runs-alike : Alike n.designation (runs n r) h₁ h₂
  unfolding reply_to after
  runs-alike = record {
    reply = λ i. ran (isolated.answer i) (isolated.table i) (isolated.description i);
    bytes = λ i same. frame_or_not n r h₁.storage h₁.keys (i / frame_bytes)
        (same_bytes (RunFrame n r h₁.storage h₁.keys) (run_of n r h₁.storage h₁.keys).storage (run_of n r h₂.storage h₂.keys).storage isolated.frames i)
        (λ out. isolated.rest_of_storage₁ i out ∙ same ∙ sym (isolated.rest_of_storage₂ i out));
    marks = λ f same. frame_or_not n r h₁.storage h₁.keys f (isolated.keys f)
        (λ out. isolated.rest_of_keys₁ f out ∙ same ∙ sym (isolated.rest_of_keys₂ f out));
  }

module _ (g : Guest) (d : ℕ) (Frames : ℕ → Type 0) (good : entry_good g ≡ true) where
  module _ (h₁ h₂ : Store) (agree : HostsAgree g d Frames h₁ h₂) where
    same_entries : (page : ℕ) → InExtent g page → SameEntriesOf d h₁.storage h₂.storage page
    same_entries page inside = record {
      lengths = agree.lengths.0;
      segment = λ reached i low high. agree.entries _ i (segment-describes g d h₁.storage page inside reached good) low high;
      own = λ reached i low high. agree.entries _ i (page-describes g d h₁.storage page inside reached good) low high;
    }

    sound₁ : Sound g d Frames h₁.storage
    sound₁ = record { guest = agree.guest; apart = agree.apart }

    sound₂ : Sound g d Frames h₂.storage
    sound₂ =
        sound_of_tables g d Frames h₁.storage h₂.storage agree.lengths.0 (λ page inside. same_tables d _ _ page (same_entries page inside)) sound₁

    entries_for : (r : List ℕ) → OfExtent g.origin g.extent r → (p : ℕ) → p < page_count (guest_of r)
        → SameEntriesOf d h₁.storage h₂.storage (host_of r p)
    entries_for r of p below = same_entries (host_of r p) (inside_for (of_record_lem of) (in_extent (guest_of r) p below))

    alike : (call : Call) → Serves g d Frames call → Alike d call h₁ h₂
    unfolding Serves reply_to after
    alike (changes c r p number) serves =
        let entries = entries_for r (extent_of g d Frames c r p number serves) in
        let same = same_desk r d h₁.storage h₁.keys h₂.storage h₂.keys agree.lengths entries c p number in
        record { reply = λ i. changed (same.answer i) (same.number i); bytes = same.bytes; marks = λ f e. e }
    alike (lists r ws) of =
        let same = same_list r d h₁.storage h₁.keys h₂.storage h₂.keys agree.lengths (entries_for r of) ws in
        record { reply = ap (λ shown. listed shown.answer shown.words) same; bytes = λ i e. e; marks = λ f e. e }
    alike (asks r from to) of =
        let same = same_question r d h₁.storage h₁.keys h₂.storage h₂.keys agree.lengths from to (λ _. entries_for r of) in
        record { reply = ap found same; bytes = λ i e. e; marks = λ f e. e }
    alike (runs n r) (of, on) = rw (← on) (runs-alike g Frames good n r of h₁ h₂ (rw on agree))

  agree_after : (call : Call) (h₁ h₂ : Store) → HostsAgree g d Frames h₁ h₂ → Alike d call h₁ h₂ → Kept g d Frames h₁ (after d call h₁)
      → Kept g d Frames h₂ (after d call h₂) → HostsAgree g d Frames (after d call h₁) (after d call h₂)
  agree_after call h₁ h₂ agree same kept₁ kept₂ = record {
    lengths = (
      kept₁.storage.long ∙ agree.lengths.0 ∙ sym kept₂.storage.long,
      kept₁.long ∙ agree.lengths.1 ∙ sym kept₂.long,
    );
    entries = λ at i entry low high. same.bytes i (agree.entries at i (kept₁.storage.entries at entry) low high);
    frames = λ f i frame small. same.bytes (f * frame_bytes + i) (agree.frames f i frame small);
    marks = λ f frame. same.marks f (agree.marks f frame);
    guest = kept₁.storage.sound.guest;
    apart = kept₁.storage.sound.apart;
  }

  rest-after : (h h' h'' : Store) → Kept g d Frames h h' → LeavesTheRest g d Frames h' h'' → LeavesTheRest g d Frames h h''
  rest-after h h' h'' kept rest = record {
    bytes = λ i out none. rest.bytes i out (λ at entry. none at (kept.storage.entries at entry)) ∙ kept.storage.bytes i out none;
    marks = λ f out. rest.marks f out ∙ kept.marks f out;
  }

  no_call : (h : Store) → LeavesTheRest g d Frames h h
  no_call h = record { bytes = λ i out none. refl; marks = λ f out. refl }

  same_throughout : (calls : List Call) (h₁ h₂ : Store) → AllServe g d Frames calls → HostsAgree g d Frames h₁ h₂ → SameThroughout g d Frames calls h₁ h₂
  unfolding AllServe replies after_all
  same_throughout [] h₁ h₂ all agree = record { answers = refl; agree = agree; rest₁ = no_call h₁; rest₂ = no_call h₂ }
  same_throughout (call ∷ calls) h₁ h₂ (serves, all) agree =
      let same = alike h₁ h₂ agree call serves in
      let kept₁ = keeps g d Frames good call serves h₁ (sound₁ h₁ h₂ agree) in
      let kept₂ = keeps g d Frames good call serves h₂ (sound₂ h₁ h₂ agree) in
      let later = same_throughout calls (after d call h₁) (after d call h₂) all (agree_after call h₁ h₂ agree same kept₁ kept₂) in
      record {
        answers = λ i. same.reply i ∷ later.answers i;
        agree = later.agree;
        rest₁ = rest-after h₁ _ _ kept₁ later.rest₁;
        rest₂ = rest-after h₂ _ _ kept₂ later.rest₂;
      }

pub isolation_of_calls : IsolationOfCalls
isolation_of_calls g d Frames calls h₁ h₂ good = same_throughout g d Frames good calls h₁ h₂
