-- A run leaves the tables of its extent as they were: no entry that describes the extent lies in a guest frame, and a run changes
-- nothing in storage but guest frames. So the number of valid pages stays.
use Prim.Native.Nat.{ℕ, ◌+◌, ◌/◌, ◌%◌}
use native.Mathlib.Omega.{arith}
use mathlib.Core.Path.{◌≡◌, refl, sym}
use mathlib.Core.Bool.{true}
use mathlib.Core.List.{List}
use Rattle.machine.specs.declared.Numbers.{Numbers}
use Rattle.machine.specs.Record.{guest_of}
use Rattle.machine.specs.Sizes.{frame_bytes}
use Rattle.machine.specs.Entry.{entry_good}
use Rattle.machine.specs.Frames.{InExtent, segment_place, page_place, Describes}
use Rattle.machine.specs.Operations.{run_of}
use Rattle.machine.specs.Isolation.{RunEntry, RunFrame, Isolated}
use Rattle.machine.proofs.Laws.{SameBytes}
use Rattle.machine.proofs.Isolation.{isolation}
use Rattle.desk.specs.Extent.{first_page, page_count}
use Rattle.desk.specs.Theorems.{OfExtent, valid_in, NumberStaysTrue}
use Rattle.desk.proofs.Tables.{SameTables, same_tables}
use Rattle.desk.proofs.Number.{number-over_calls}
use Rattle.desk.proofs.Extents.{same_valid_pages}
use Rattle.desk.proofs.Describing.{in_extent, segment-describes, page-describes}

-- no entry that describes the extent lies in a guest frame as the run starts
abbrev pub ApartInRun : Numbers → List ℕ → List ℕ → List ℕ → Type 0
ApartInRun n r s k = (at frame : ℕ) → RunEntry n r s k at → RunFrame n r s k frame → at / frame_bytes ≡ frame → ⊥

module _ (n : Numbers) (r s k : List ℕ) (apart : ApartInRun n r s k) where
  -- the run beside itself
  pub alone : Isolated n r s k s k
  alone = isolation n r s k s k (record {
    alike = record { lengths = (refl, refl); entries = λ at i e l h. refl; frames = λ f i e h. refl; keys = λ f e. refl };
    apart = apart;
  })

  -- an entry lies in one frame
  entry_stays : (at : ℕ) → at % 4 ≡ 0 → (entry_good (guest_of r) ≡ true → Describes (guest_of r) n.designation s at)
      → SameBytes s (run_of n r s k).storage at (at + 4)
  entry_stays at whole describes i low high = sym (alone.rest_of_storage₁ i λ frame.
      apart at (i / frame_bytes) (record { accepted = frame.accepted; describes = describes frame.guest.good }) frame (omega arith))

  -- of each page of the extent
  pub tables_over-run : (page : ℕ) → InExtent (guest_of r) page → SameTables n.designation s (run_of n r s k).storage page
  tables_over-run page inside = same_tables n.designation s (run_of n r s k).storage page (record {
    lengths = sym alone.lengths₁.0;
    segment = λ reached. entry_stays (segment_place n.designation page) (omega arith) (segment-describes (guest_of r) n.designation s page inside reached);
    own = λ reached. entry_stays (page_place n.designation s page) (omega arith) (page-describes (guest_of r) n.designation s page inside reached);
  })

pub number-over-runs : (origin extent : ℕ) (n : Numbers) (r s k : List ℕ) → OfExtent origin extent r → ApartInRun n r s k
    → valid_in origin extent n.designation (run_of n r s k).storage ≡ valid_in origin extent n.designation s
number-over-runs origin extent n r s k of apart =
    rw (← of.begins, ← of.counts)
    (sym (same_valid_pages (first_page (guest_of r)) (page_count (guest_of r)) n.designation s (run_of n r s k).storage
    (sym (alone n r s k apart).lengths₁.0)
    λ p below. tables_over-run n r s k apart (first_page (guest_of r) + p) (in_extent (guest_of r) p below)))

pub number_stays_true : NumberStaysTrue
number_stays_true = record { over_calls = number-over_calls; over_runs = number-over-runs }
