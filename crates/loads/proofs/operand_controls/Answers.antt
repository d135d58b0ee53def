-- `loads::operand_controls` meets its contract. The words are read from the operand's bytes, which stand in the front of a local array.
use Prim.Native.Nat.{ℕ, ◌-◌, ◌*◌}
use native.Mathlib.Nat.{le_of_eq}
use native.Mathlib.Omega.{arith}
use mathlib.Core.Path.{sym, ap, ◌∙◌}
use mathlib.Core.List.{List, ◌++◌}
use lib.ListN.{take, drop, replicate}
use lib.Seq.{length-take-le}
use Rattle.machine.specs.Words.{words_at}
use Rattle.machine.specs.Execute.{with_controls}
use Rattle.reader.proofs.Parts.{front_within, front_count, front_is}
use Rattle.loads.proofs.operand_controls.Goals as goal

-- the local array, as it was made
abbrev zeros : List ℕ
zeros = replicate 64 0

pub slice_bounds-get_operand-end : goal.slice_bounds-get_operand-end
slice_bounds-get_operand-end c = sym (length-take-le (4 * c.args.n) zeros (omega arith))

pub get_operand-requires : goal.get_operand-requires
get_operand-requires c =
    rw (length-take-le (4 * c.args.n) zeros (omega arith)) record {
      count_bound = c.requires.i_bound.2;
      first_in_bounds = c.requires.first_in_bounds;
      second_in_bounds = c.requires.second_in_bounds;
    }

pub slice_bounds-bytes-end-2 : goal.slice_bounds-bytes-end-2
slice_bounds-bytes-end-2 c = front_within zeros c.get_operand.new.bytes (4 * c.args.n) (omega arith) c.bytes-2-1.given

pub slice_bounds-load_words-end : goal.slice_bounds-load_words-end
slice_bounds-load_words-end c = front_count zeros c.get_operand.new.bytes (4 * c.args.n) (omega arith) c.bytes-2-1.given

pub load_words-requires : goal.load_words-requires
load_words-requires c = (
  c.requires.i_bound.0,
  c.requires.i_bound.1,
  le_of_eq (front_count zeros c.get_operand.new.bytes (4 * c.args.n) (omega arith) c.bytes-2-1.given),
)

pub returns : goal.returns
returns c =
    let a = c.args in
    let parts : ℕ → List ℕ = λ n. take a.p.count (drop a.p.first a.storage.now) ++ take (n - a.p.count) (drop a.p.second a.storage.now) in
    let got = c.get_operand in
    let read = front_is zeros got.new.bytes (4 * a.n) (omega arith) c.bytes-2-1.given ∙ got.ensures in
    λ k same. c.load_words.ensures k (ap (λ r. r.words) same) ∙ ap (λ bytes. with_controls k a.i (words_at bytes 0 a.n)) (read ∙ ap parts (length-take-le (4 * a.n) zeros (omega arith)))
