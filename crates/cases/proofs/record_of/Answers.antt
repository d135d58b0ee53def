-- `cases::record_of` meets its contract.
use native.Mathlib.Omega.{arith}
use lib.ListN.{length-take, length-drop}
use Rattle.cases.proofs.CaseFiles.{size_least, size_most, good_length}
use Rattle.cases.proofs.record_of.Goals as goal

pub record_size-end-requires : goal.record_size-end-requires
record_size-end-requires c = omega (arith, good_length c.args.file.now c.requires, size_least c.args.file.now)

pub overflow_add-end : goal.overflow_add-end
overflow_add-end c = omega (arith, c.record_size-end.ensures, size_most c.args.file.now)

pub slice_bounds-part-end : goal.slice_bounds-part-end
slice_bounds-part-end c = omega (arith, c.record_size-end.ensures, size_most c.args.file.now)

pub slice_bounds-copy_from_slice-length : goal.slice_bounds-copy_from_slice-length
slice_bounds-copy_from_slice-length c = simp length-take (omega (arith, c.record_size-end.ensures, size_most c.args.file.now))

pub slice_bounds-copy_from_slice-end : goal.slice_bounds-copy_from_slice-end
slice_bounds-copy_from_slice-end c = omega (arith, c.record_size-end.ensures, good_length c.args.file.now c.requires)

pub copy_from_slice-requires : goal.copy_from_slice-requires
copy_from_slice-requires c =
    simp (length-take, length-drop) (omega (arith, c.record_size-end.ensures, size_most c.args.file.now, good_length c.args.file.now c.requires))
