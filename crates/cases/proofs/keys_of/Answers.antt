-- `cases::keys_of` meets its contract.
use native.Mathlib.Omega.{arith}
use lib.ListN.{length-take, length-drop}
use Rattle.cases.proofs.CaseFiles.{size_least, size_most, good_length, good_most}
use Rattle.cases.proofs.keys_of.Goals as goal

pub record_size-requires : goal.record_size-requires
record_size-requires c = omega (arith, good_length c.args.file.now c.requires.file_value, size_least c.args.file.now)

pub overflow_add-at : goal.overflow_add-at
overflow_add-at c = omega (arith, c.record_size.ensures, size_most c.args.file.now)

pub overflow_add-at-2 : goal.overflow_add-at-2
overflow_add-at-2 c = omega (arith, c.record_size.ensures, size_most c.args.file.now)

pub overflow_add-end : goal.overflow_add-end
overflow_add-end c =
    omega (arith, c.record_size.ensures, size_most c.args.file.now, c.requires.count_value, good_most _ c.requires.file_value)

pub slice_bounds-part-end : goal.slice_bounds-part-end
slice_bounds-part-end c = omega (arith, c.requires.count_value, good_most _ c.requires.file_value)

pub slice_bounds-copy_from_slice-end : goal.slice_bounds-copy_from_slice-end
slice_bounds-copy_from_slice-end c = simp length-take (omega (arith, c.requires.count_value, good_most _ c.requires.file_value))

pub slice_bounds-copy_from_slice-end-2 : goal.slice_bounds-copy_from_slice-end-2
slice_bounds-copy_from_slice-end-2 c =
    omega (arith, c.record_size.ensures, c.requires.count_value, good_length c.args.file.now c.requires.file_value)

pub copy_from_slice-requires : goal.copy_from_slice-requires
copy_from_slice-requires c =
    simp (length-take, length-drop) (omega (arith, c.record_size.ensures, c.requires.count_value, good_most _ c.requires.file_value, good_length _ c.requires.file_value))
