-- The answers of the page desk and to the question for the first unbacked page, packed as those of the other operations are.
-- include/drevokas.h says the same to C.
use Rattle.std.specs.Prelude.{ℕ, Err, Ok}
use Rattle.machine.specs.declared.Reason.TheVariants.{Validity}
use Rattle.desk.specs.declared.Called.{Called}
use Rattle.desk.specs.declared.Called.TheVariants as called
use Rattle.desk.specs.declared.Found.{Found}
use Rattle.desk.specs.declared.Found.TheVariants as found
use Rattle.desk.specs.declared.Listed.{Listed}
use Rattle.desk.specs.declared.Listed.TheVariants as listed
use Rattle.machine.specs.Answers.{refusal_number, reason_code}
use Rattle.machine.specs.Sought.{nowhere}
use Rattle.packing.specs.Packing.{packed, refused_kind, intercepted_kind, good_kind, none_kind}
use Rattle.machine.specs.Refusals.{Answer}

-- the answer of a call that adds, removes or protects a page
unfoldable pub packed_call : Answer Called → ℕ
packed_call (Err refusal) = packed refused_kind (refusal_number refusal) nowhere 0
packed_call (Ok called.Validity) = packed intercepted_kind (reason_code Validity) nowhere 0
packed_call (Ok called.Done) = packed good_kind 0 nowhere 0

-- the answer of a listing: the number of valid pages stands where a run has its units
unfoldable pub packed_listing : Answer Listed → ℕ
packed_listing (Err refusal) = packed refused_kind (refusal_number refusal) nowhere 0
packed_listing (Ok listed.Validity) = packed intercepted_kind (reason_code Validity) nowhere 0
packed_listing (Ok (listed.Pages valid)) = packed good_kind 0 nowhere valid

-- the answer to the question for the first unbacked page
unfoldable pub packed_found : Answer Found → ℕ
packed_found (Err refusal) = packed refused_kind (refusal_number refusal) nowhere 0
packed_found (Ok found.Validity) = packed intercepted_kind (reason_code Validity) nowhere 0
packed_found (Ok found.None) = packed none_kind 0 nowhere 0
packed_found (Ok (found.Page page)) = packed good_kind 0 nowhere 0

-- the page, else zero; a refusal leaves what stood there
unfoldable pub place_after_found : Answer Found → ℕ → ℕ
place_after_found (Err number) before = before
place_after_found (Ok found.Validity) before = 0
place_after_found (Ok found.None) before = 0
place_after_found (Ok (found.Page page)) before = page
