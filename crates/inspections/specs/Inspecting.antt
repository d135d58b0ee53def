-- The answers of check and translate packed into a number of 64 bits, and what stands at the caller's place after a translation.
-- include/drevokas.h says the same to C.
use Rattle.std.specs.Prelude.{ℕ, cond, Err, Ok}
use Rattle.machine.specs.declared.Checked.{Checked}
use Rattle.machine.specs.declared.Checked.TheVariants as checked
use Rattle.machine.specs.declared.Failure.{Failure}
use Rattle.machine.specs.declared.Reason.TheVariants.{Validity}
use Rattle.machine.specs.declared.Sought.{Sought}
use Rattle.machine.specs.declared.Translated.{Translated}
use Rattle.machine.specs.declared.Translated.TheVariants as translated
use Rattle.machine.specs.Answers.{refusal_number, reason_code}
use Rattle.machine.specs.Sought.{nowhere}
use Rattle.packing.specs.Packing.{packed, placed, refused_kind, intercepted_kind, host_fault_kind, exception_kind, good_kind}
use Rattle.machine.specs.Refusals.{Answer}

unfoldable pub packed_check : Answer Checked → ℕ
packed_check (Err refusal) = packed refused_kind (refusal_number refusal) nowhere 0
packed_check (Ok checked.Good) = packed good_kind 0 nowhere 0
packed_check (Ok checked.Validity) = packed intercepted_kind (reason_code Validity) nowhere 0

unfoldable pub packed_failure : Failure → Sought → ℕ
packed_failure f s = cond f.host (packed host_fault_kind f.code s 0) (packed exception_kind f.code s 0)

unfoldable pub packed_translation : Answer Translated → ℕ
packed_translation (Err refusal) = packed refused_kind (refusal_number refusal) nowhere 0
packed_translation (Ok (translated.Address a)) = packed good_kind 0 nowhere 0
packed_translation (Ok translated.Validity) = packed intercepted_kind (reason_code Validity) nowhere 0
packed_translation (Ok (translated.Failed f s)) = packed_failure f s

-- the host absolute address of a translation, the host virtual address of a host fault, else zero; a refusal leaves what stood there
unfoldable pub place_after : Answer Translated → ℕ → ℕ
place_after (Err number) before = before
place_after (Ok (translated.Address a)) before = a
place_after (Ok translated.Validity) before = 0
place_after (Ok (translated.Failed f s)) before = placed s (cond f.host f.address 0)
