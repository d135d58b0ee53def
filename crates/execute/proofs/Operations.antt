-- The instructions that fetch or store an operand, by where the operand stands.
-- Assumes nothing.
use Rattle.std.specs.Prelude.{Err}
use Prim.Native.Nat.{ℕ, ◌-◌, ◌≤◌, ◌<◌}
use mathlib.Core.Path.{◌≡◌, refl, ap, sym, ◌∙◌}
use mathlib.Core.Bool.{true, false}
use mathlib.Core.List.{List, [], ◌++◌, append-nil}
use lib.ListN.{length, take, drop}
use lib.Seq.{sets}
use Rattle.machine.specs.declared.Cpu.{Cpu}
use Rattle.machine.specs.declared.Failure.{Failure}
use Rattle.machine.specs.Psw.{wrap}
use Rattle.machine.specs.Host.{Host, backing, view, referenced, changed, stored, marked}
use Rattle.machine.specs.Addresses.{when_reached}
use Rattle.machine.specs.Outcomes.{Progress}
use Rattle.machine.specs.Interruptions.{exception}
use Rattle.machine.specs.Execute.{finish, fetching, storing}
use Rattle.machine.specs.Run.{marked_by}
use Rattle.laws.proofs.PageBytes.{marked_append, referenced_twice, changed_twice}
use Rattle.marks.specs.Marks.{mark_operand}
use Rattle.operands.specs.Operands.{operand_of, in_pieces}
use Rattle.operands.proofs.Operands.{operand_shut, operand_open}
use Rattle.interruptions.specs.After.{event_of, cpu_after, storage_after, keys_after, Completes}
use Rattle.interruptions.proofs.Areas.{places-with_bytes}

-- an instruction that fetches and stores nothing but its text
pub finish_completes : (h : Host) (x : Progress) (c : Cpu)
    → Completes (backing x.guest h) (finish x c [] []) c (λ t. t) (λ k. marked (backing x.guest h) referenced x.fetched k)
unfolding finish event_of cpu_after storage_after keys_after marked_by stored marked
finish_completes h x c = record {
  event = refl;
  cpu = λ before. refl;
  storage = λ t. refl;
  keys = λ k. rw (append-nil, append-nil) refl;
}

module _ (h : Host) (x : Progress) (viewed : x.view ≡ view x.guest h) (a n : ℕ) (wrapped : wrap x.cpu a ≡ a) (some : 0 < n) (few : n ≤ 4096) where
  pub fetching_shut : (f : Failure) (after : List ℕ → Cpu) → operand_of x.guest h x.cpu false a n ≡ Err f
      → fetching x a n after ≡ exception x x.cpu f
  unfolding fetching when_reached
  fetching_shut f after shut = rw (viewed, operand_shut x.guest h x.cpu false a n wrapped some few shut)

  -- an operand that is fetched gives the state, and its frames are marked after the text's
  pub fetching_open : (p m q : ℕ) (after : List ℕ → Cpu) → operand_of x.guest h x.cpu false a n ≡ in_pieces p m q
      → Completes (backing x.guest h) (fetching x a n after)
      (after (take m (drop p h.storage) ++ take (n - m) (drop q h.storage)))
      (λ t. t)
      (λ k. mark_operand referenced n p m q (marked (backing x.guest h) referenced x.fetched k))
  unfolding fetching when_reached finish event_of cpu_after storage_after keys_after marked_by stored marked
  fetching_open p m q after found =
      let (ls, reached, opened) = operand_open x.guest h x.cpu false a n wrapped some few found in
      rw (viewed, reached)
      (record {
        event = refl;
        cpu = λ before. ap after opened.fetched;
        storage = λ t. refl;
        keys = λ k. rw (append-nil, marked_append) (opened.marks referenced referenced_twice _);
      })

  pub storing_shut : (f : Failure) (bytes : List ℕ) (c : Cpu) → length bytes ≡ n → operand_of x.guest h x.cpu true a n ≡ Err f
      → storing x a bytes c ≡ exception x x.cpu f
  unfolding storing when_reached
  storing_shut f bytes c long shut = rw (long, viewed, operand_shut x.guest h x.cpu true a n wrapped some few shut)

  -- an operand that is stored leaves the state, and its frames are marked after the text's
  pub storing_open : (p m q : ℕ) (bytes : List ℕ) (c : Cpu) → length bytes ≡ n → operand_of x.guest h x.cpu true a n ≡ in_pieces p m q
      → Completes (backing x.guest h) (storing x a bytes c) c (λ t. sets (sets t p (take m bytes)) q (drop m bytes))
      (λ k. mark_operand changed n p m q (mark_operand referenced n p m q (marked (backing x.guest h) referenced x.fetched k)))
  unfolding storing when_reached finish event_of cpu_after storage_after keys_after marked_by
  storing_open p m q bytes c long found =
      let (ls, reached, opened) = operand_open x.guest h x.cpu true a n wrapped some few found in
      rw (long, viewed, reached)
      (record {
        event = refl;
        cpu = λ before. refl;
        storage = λ t. opened.stores bytes t long;
        keys =
            λ k.
            rw (places-with_bytes ls bytes (opened.count ∙ sym long), append-nil, marked_append, opened.marks referenced referenced_twice)
            (opened.marks changed changed_twice _);
      })
