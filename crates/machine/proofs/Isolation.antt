-- DEMAND 3: the proof of `Isolation`.
use Rattle.std.specs.Prelude.{Err, Ok}
use Prim.Native.Nat.{ℕ, ◌+◌, ◌*◌}
use mathlib.Core.Path.{◌≡◌, refl, sym, ap, ◌∙◌}
use mathlib.Core.Bool.{Bool, true, false, cond, ◌&&◌}
use mathlib.Core.List.{List}
use mathlib.Core.Logic.{◌↔◌}
use Rattle.machine.specs.declared.Cpu.{Cpu}
use Rattle.machine.specs.declared.End.{End}
use Rattle.machine.specs.declared.End.TheVariants.{Intercepted, HostFault, BudgetUsed}
use Rattle.machine.specs.declared.Failure.{Failure}
use Rattle.machine.specs.declared.Guest.{Guest}
use Rattle.machine.specs.declared.Numbers.{Numbers}
use Rattle.machine.specs.declared.Reason.TheVariants.{Validity}
use Rattle.machine.specs.declared.Translated.TheVariants as translated
use Rattle.machine.specs.Record.{guest_of, cpu_of, with_results}
use Rattle.machine.specs.Sizes.{frame_bytes}
use Rattle.machine.specs.Refusals.{wrong_storage, wrong_keys, translate_verdict, run_verdict, Verdict, no_refusal}
use Rattle.machine.specs.Entry.{entry_good}
use Rattle.machine.specs.Host.{Host, host, backing, view}
use Rattle.machine.specs.Frames.{GuestFrame}
use Rattle.machine.specs.Addresses.{Access, reached, denied, access}
use Rattle.machine.specs.Sought.{exception_sought, sought, end_sought}
use Rattle.machine.specs.Run.{Machine, Ended, run}
use Rattle.machine.specs.Operations.{address_in, translated_to, translates, translated_as, translate, Result, result_of, machine_of, run_as, run_of}
use Rattle.machine.specs.Answers.{end_results, run_answer}
use Rattle.machine.specs.Isolation.{RunFrame, Agree, Isolation}
use Rattle.machine.specs.IsolationOfAnswers.{TranslationsAgree, IsolationOfTranslations}
use Rattle.machine.proofs.Laws.{guest_of-with_results}
use Rattle.machine.proofs.FrameBytes.{In, in_frame_lem, same_bytes}
use Rattle.machine.proofs.Backing.{SameEntries, same_test, same_sought, same_backing, backed_by_guest_frame, same_frames-behind, same_view}
use Rattle.machine.proofs.Backed.{access_faults, run_faults}
use Rattle.machine.proofs.Effects.{Outside, Alike}
use Rattle.machine.proofs.Twins.{Twins, SameEnd, same_start, same_table, same_run}

-- a list that has not changed
unchanged : (Q : ℕ → Type 0) (l : List ℕ) → Outside Q l l
unchanged Q l = record { kept = refl; rest = λ _ _. refl }

-- the end of a run that fails at entry
abbrev not_entered : Machine → Ended
not_entered m = record { end = Intercepted Validity; units = 0; machine = m }

module _ (n : Numbers) (r s₁ k₁ s₂ k₂ : List ℕ) where
  -- what two runs answer and leave behind
  record SameResult (x₁ x₂ : Result) : Type 0 where
    answer : x₁.answer ≡ x₂.answer
    table : x₁.table ≡ x₂.table
    description : x₁.description ≡ x₂.description
    storage : Alike (In (RunFrame n r s₁ k₁)) s₁ s₂ x₁.storage x₂.storage
    keys : Alike (RunFrame n r s₁ k₁) k₁ k₂ x₁.keys x₂.keys

  result_of_same_end : (e₁ e₂ : Ended) → SameEnd n r s₁ k₁ s₂ k₂ e₁ e₂
      → end_sought n.designation e₁.machine.storage e₁.end ≡ end_sought n.designation e₂.machine.storage e₂.end
      → SameResult (result_of n e₁) (result_of n e₂)
  unfolding result_of
  result_of_same_end e₁ e₂ s table = record {
    answer = λ i. run_answer (s.end i) (s.units i);
    table = table;
    description = λ i. with_results (end_results (s.end i)) (s.machine.description i);
    storage = s.machine.storage;
    keys = s.machine.keys;
  }

  module _ (agree : Agree n r s₁ k₁ s₂ k₂) where
    same_verdict : run_verdict n r s₁ k₁ ≡ run_verdict n r s₂ k₂
    unfolding run_verdict wrong_storage wrong_keys
    same_verdict = simp (agree.alike.lengths.0, agree.alike.lengths.1)

    start_storage : Alike (In (RunFrame n r s₁ k₁)) s₁ s₂ s₁ s₂
    start_storage = record {
      outside₁ = unchanged _ s₁;
      outside₂ = unchanged _ s₂;
      lengths = agree.alike.lengths.0;
      inside = same_bytes _ s₁ s₂ agree.alike.frames;
    }

    start-keys : Alike (RunFrame n r s₁ k₁) k₁ k₂ k₁ k₂
    start-keys = record {
      outside₁ = unchanged _ k₁;
      outside₂ = unchanged _ k₂;
      lengths = agree.alike.lengths.1;
      inside = agree.alike.keys;
    }

    pub start_twins : Twins n r s₁ k₁ s₂ k₂ (machine_of n r s₁ k₁) (machine_of n r s₂ k₂)
    unfolding machine_of
    start_twins = record {
      guest = guest_of-with_results _ r;
      description = refl;
      clock = refl;
      storage = start_storage;
      keys = start-keys;
    }

    -- two runs from there name the same table
    same_table_of_ends : run_verdict n r s₁ k₁ ≡ no_refusal → entry_good (guest_of r) ≡ true → (b : ℕ) (m₁ m₂ : Machine)
        → Twins n r s₁ k₁ s₂ k₂ m₁ m₂ → SameEnd n r s₁ k₁ s₂ k₂ (run b n m₁) (run b n m₂)
        → end_sought n.designation (run b n m₁).machine.storage (run b n m₁).end
        ≡ end_sought n.designation (run b n m₂).machine.storage (run b n m₂).end
    unfolding end_sought
    same_table_of_ends accepted good b m₁ m₂ t s =
        by_end (run b n m₁).end refl ∙ ap (end_sought n.designation (run b n m₂).machine.storage) s.end
      where
        by_end : (e : End) → (run b n m₁).end ≡ e
            → end_sought n.designation (run b n m₁).machine.storage e ≡ end_sought n.designation (run b n m₂).machine.storage e
        by_end (Intercepted reason) is = refl
        by_end (HostFault f) is =
            same_table n r s₁ k₁ s₂ k₂ agree accepted good _ _ s.machine f (run_faults (guest_of r) good b n m₁ t.guest f is).place
        by_end BudgetUsed is = refl

    result_by_verdict : (v : Verdict) → run_verdict n r s₁ k₁ ≡ v → SameResult (run_as n r s₁ k₁ v) (run_as n r s₂ k₂ v)
    unfolding run_as end_sought
    result_by_verdict (Err number) e = record {
      answer = refl;
      table = refl;
      description = refl;
      storage = start_storage;
      keys = start-keys;
    }
    result_by_verdict (Ok _) accepted = go (entry_good (guest_of r)) refl
      where
        go : (b : Bool) → entry_good (guest_of r) ≡ b
            → SameResult (cond b (result_of n (run n.budget n (machine_of n r s₁ k₁))) (result_of n (not_entered (machine_of n r s₁ k₁))))
            (cond b (result_of n (run n.budget n (machine_of n r s₂ k₂))) (result_of n (not_entered (machine_of n r s₂ k₂))))
        go true good =
            let same = same_run n r s₁ k₁ s₂ k₂ agree accepted good n.budget _ _ start_twins in
            result_of_same_end _ _ same (same_table_of_ends accepted good n.budget _ _ start_twins same)
        go false bad = result_of_same_end _ _ (record { end = refl; units = refl; machine = start_twins }) refl

    same_result : SameResult (run_of n r s₁ k₁) (run_of n r s₂ k₂)
    unfolding run_of
    same_result = rw (← same_verdict) (result_by_verdict (run_verdict n r s₁ k₁) refl)

pub isolation : Isolation
isolation n r s₁ k₁ s₂ k₂ agree =
    let same = same_result n r s₁ k₁ s₂ k₂ agree in
    record {
      answer = same.answer;
      table = same.table;
      description = same.description;
      frames = λ frame i h small. same.storage.inside (frame * frame_bytes + i) (in_frame_lem (RunFrame n r s₁ k₁) frame i small h);
      keys = same.keys.inside;
      lengths₁ = (sym same.storage.outside₁.kept, sym same.keys.outside₁.kept);
      lengths₂ = (sym same.storage.outside₂.kept, sym same.keys.outside₂.kept);
      rest_of_storage₁ = same.storage.outside₁.rest;
      rest_of_keys₁ = same.keys.outside₁.rest;
      rest_of_storage₂ = same.storage.outside₂.rest;
      rest_of_keys₂ = same.keys.outside₂.rest;
    }

-- Under `Agree` both runs have the same guest frames.
pub same_frames : (n : Numbers) (r s₁ k₁ s₂ k₂ : List ℕ) → Agree n r s₁ k₁ s₂ k₂ → (f : ℕ) → RunFrame n r s₁ k₁ f ↔ RunFrame n r s₂ k₂ f
same_frames n r s₁ k₁ s₂ k₂ agree f = (
  λ h. record {
    accepted = sym verdict ∙ h.accepted;
    guest = same_frames-behind (guest_of r) n.designation s₁ k₁ s₂ k₂ (pages h.accepted h.guest.good) f h.guest;
  },
  λ h. record {
    accepted = verdict ∙ h.accepted;
    guest = same_frames-behind (guest_of r) n.designation s₂ k₂ s₁ k₁ (sym (pages (verdict ∙ h.accepted) h.guest.good)) f h.guest;
  },
)
  where
    verdict : run_verdict n r s₁ k₁ ≡ run_verdict n r s₂ k₂
    verdict = same_verdict n r s₁ k₁ s₂ k₂ agree

    pages : run_verdict n r s₁ k₁ ≡ no_refusal → entry_good (guest_of r) ≡ true
        → backing (guest_of r) (host n.designation s₁ k₁) ≡ backing (guest_of r) (host n.designation s₂ k₂)
    pages accepted good = same_backing (guest_of r) n.designation s₁ s₂ (same_start n r s₁ k₁ s₂ k₂ agree accepted) good k₁ k₂

-- what two hosts answer for an access that both deny or both let through
same_translated : (g : Guest) (h₁ h₂ : Host) (c : Cpu) (a : ℕ) → backing g h₁ ≡ backing g h₂ → (x : Access)
    → ((f : Failure) → x ≡ denied f → sought g h₁ c a f ≡ sought g h₂ c a f) → translated_to g h₁ c a x ≡ translated_to g h₂ c a x
unfolding translated_to
same_translated g h₁ h₂ c a pages (denied f) tables = ap (λ s. Ok (translated.Failed f s)) (tables f refl)
same_translated g h₁ h₂ c a pages (reached l) tables = ap (λ behind. address_in l.absolute (behind l.absolute)) pages

module _ (r : List ℕ) (kind d : ℕ) (s₁ k₁ s₂ k₂ : List ℕ) (agree : TranslationsAgree r kind d s₁ k₁ s₂ k₂) where
  module _ (accepted : translate_verdict r s₁ k₁ kind ≡ no_refusal) (good : entry_good (guest_of r) ≡ true) where
    entries : SameEntries (guest_of r) d s₁ s₂
    entries = record { lengths = agree.lengths.0; entries = agree.entries accepted }

    pages : backing (guest_of r) (host d s₁ k₁) ≡ backing (guest_of r) (host d s₂ k₂)
    pages = same_backing (guest_of r) d s₁ s₂ entries good k₁ k₂

    views : view (guest_of r) (host d s₁ k₁) ≡ view (guest_of r) (host d s₂ k₂)
    views =
        same_view (GuestFrame (guest_of r) d s₁) _ _ _ _ pages (λ a f p e. backed_by_guest_frame (guest_of r) d s₁ k₁ good a e)
        (same_bytes _ s₁ s₂ (agree.frames accepted)) (agree.keys accepted)

    tables : (store : Bool) (a : ℕ) (f : Failure) → access (guest_of r) (view (guest_of r) (host d s₂ k₂)) (cpu_of r) store a ≡ denied f
        → sought (guest_of r) (host d s₁ k₁) (cpu_of r) a f ≡ sought (guest_of r) (host d s₂ k₂) (cpu_of r) a f
    unfolding sought
    tables store a f denies =
        same_test f.host
        (λ by_host_lem. same_sought (guest_of r) d s₁ s₂ entries good f (access_faults (guest_of r) (host d s₂ k₂) good (cpu_of r) store a f denies by_host_lem))
        (λ _. ap (λ v. exception_sought (guest_of r) v (cpu_of r) a f) views)

  same_translation : (a : ℕ) (v : Verdict) → translate_verdict r s₁ k₁ kind ≡ v → translated_as r (host d s₁ k₁) a kind v ≡ translated_as r (host d s₂ k₂) a kind v
  unfolding translated_as
  same_translation a (Err number) e = refl
  same_translation a (Ok _) accepted =
      same_test (entry_good (guest_of r) && translates (cpu_of r))
      (λ both.
      let good = first (entry_good (guest_of r)) _ both in
      rw (views accepted good) (same_translated (guest_of r) _ _ _ _ (pages accepted good) _ (tables accepted good _ _)))
      (λ _. refl)
    where
      first : (b c : Bool) → (b && c) ≡ true → b ≡ true
      first true c e = refl
      first false c e = e

  same_translate : (a : ℕ) → translate r (host d s₁ k₁) a kind ≡ translate r (host d s₂ k₂) a kind
  unfolding translate translate_verdict wrong_storage wrong_keys
  same_translate a = same_translation a _ refl ∙ ap (translated_as r (host d s₂ k₂) a kind) (simp (agree.lengths.0, agree.lengths.1))

pub isolation_of_translations : IsolationOfTranslations
isolation_of_translations r a kind d s₁ k₁ s₂ k₂ agree = same_translate r kind d s₁ k₁ s₂ k₂ agree a
