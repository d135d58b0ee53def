-- `case::run_parts` meets its contract.
use native.Mathlib.Omega.{arith}
use mathlib.Core.Path.{ap, sym, ◌∙◌}
use lib.ListN.{take}
use lib.Seq.{length-take-le}
use Rattle.cases.proofs.CaseFiles.{size_least, size_most, good_length, good_case, few, run_of_parts}
use Rattle.case.proofs.run_parts.Goals as goal

pub record_size-size-requires : goal.record_size-size-requires
record_size-size-requires c =
    let file = c.args.file.now in
    omega (arith, good_length file (good_case file _ c.requires).0, size_least file)

pub record_of-record-requires : goal.record_of-record-requires
record_of-record-requires c = (good_case _ _ c.requires).0

pub keys_of-keys-requires : goal.keys_of-keys-requires
keys_of-keys-requires c = let good = good_case _ _ c.requires in record { file_value = good.0; count_value = good.2 }

pub storage_of-frames-requires : goal.storage_of-frames-requires
storage_of-frames-requires c = let good = good_case _ _ c.requires in record { file_value = good.0; count_value = good.2 }

pub overflow_mul-frames : goal.overflow_mul-frames
overflow_mul-frames c = omega (arith, few _ _ c.requires)

pub slice_bounds-record-end : goal.slice_bounds-record-end
slice_bounds-record-end c = omega (arith, c.record_size-size.ensures, size_most c.args.file.now, c.record_of-record.ensures.0)

pub slice_bounds-drevokas_run-end : goal.slice_bounds-drevokas_run-end
slice_bounds-drevokas_run-end c = sym (length-take-le _ _ (omega (arith, c.record_size-size.ensures, size_most c.args.file.now, c.record_of-record.ensures.0)))

pub slice_bounds-frames-end : goal.slice_bounds-frames-end
slice_bounds-frames-end c = omega (arith, few _ _ c.requires, c.storage_of-frames.ensures.0)

pub slice_bounds-drevokas_run-end-2 : goal.slice_bounds-drevokas_run-end-2
slice_bounds-drevokas_run-end-2 c = sym (length-take-le _ _ (omega (arith, few _ _ c.requires, c.storage_of-frames.ensures.0)))

pub slice_bounds-keys-end : goal.slice_bounds-keys-end
slice_bounds-keys-end c = omega (arith, few _ _ c.requires, c.keys_of-keys.ensures.0)

pub slice_bounds-drevokas_run-end-3 : goal.slice_bounds-drevokas_run-end-3
slice_bounds-drevokas_run-end-3 c = sym (length-take-le _ _ (omega (arith, few _ _ c.requires, c.keys_of-keys.ensures.0)))

pub returns : goal.returns
returns c =
    let same = run_of_parts _ _ c.requires (ap (λ n. take n c.record_of-record.result) c.record_size-size.ensures ∙ c.record_of-record.ensures.1) c.storage_of-frames.ensures.1 c.keys_of-keys.ensures.1 in
    rw (← same.0, ← same.1) c.drevokas_run.ensures.answer
