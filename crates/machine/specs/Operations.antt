-- Three of the public operations: check a record, translate one guest address, run; those of the page desk are desk's. Document 01, "What is built", "The record", "Entry".
-- Request 1/12: a System/370 guest has no DAT. Request 2/12: an answer that fails has the table that was bad.
use Rattle.std.specs.Prelude.{ℕ, Bool, cond, not, ◌&&◌, List, eqb, Err, Ok}
use Rattle.machine.specs.declared.Checked.{Checked}
use Rattle.machine.specs.declared.Checked.TheVariants as checked
use Rattle.machine.specs.declared.Cpu.{Cpu}
use Rattle.machine.specs.declared.End.TheVariants.{Intercepted, BudgetUsed}
use Rattle.machine.specs.declared.Guest.{Guest}
use Rattle.machine.specs.declared.Numbers.{Numbers}
use Rattle.machine.specs.declared.Reason.TheVariants.{Validity}
use Rattle.machine.specs.declared.Sought.{Sought}
use Rattle.machine.specs.declared.Translated.{Translated}
use Rattle.machine.specs.declared.Translated.TheVariants as translated
use Rattle.machine.specs.Record.{guest_of, cpu_of, with_results}
use Rattle.machine.specs.Refusals.{check_verdict, translate_verdict, run_verdict, Answer, RunAnswer, Verdict}
use Rattle.machine.specs.Entry.{entry_good}
use Rattle.machine.specs.Psw.{dat_on, wrap}
use Rattle.machine.specs.Host.{Host, in_frame, backing, view}
use Rattle.machine.specs.Addresses.{Access, reached, denied, access}
use Rattle.machine.specs.Sought.{nowhere, sought, end_sought}
use Rattle.machine.specs.Run.{Machine, Ended, run}
use Rattle.machine.specs.Answers.{end_results, run_answer}
use Rattle.machine.specs.Walk.{Walk}

-- check

unfoldable pub checked_as : List ℕ → Verdict → Answer Checked
checked_as r (Err number) = Err number
checked_as r (Ok _) = cond (entry_good (guest_of r)) (Ok checked.Good) (Ok checked.Validity)

-- answers good or code 32
unfoldable pub check : List ℕ → Answer Checked
check r = checked_as r (check_verdict r)

-- translate

-- the host absolute address of a guest absolute one
unfoldable pub address_in : ℕ → Walk → Answer Translated
address_in a (Err f) = Ok (translated.Failed f nowhere)
address_in a (Ok page) = Ok (translated.Address (in_frame page.frame a))

-- for a wrapped logical address: a byte that is reached lies in a frame, or its access would have failed
unfoldable pub translated_to : Guest → Host → Cpu → ℕ → Access → Answer Translated
translated_to g h c a (denied f) = Ok (translated.Failed f (sought g h c a f))
translated_to g h c a (reached l) = address_in l.absolute (backing g h l.absolute)

-- DAT is off, or the guest is a 370-XA one
unfoldable pub translates : Cpu → Bool
translates c = not (dat_on c && c.psw.system370)

-- kind 1 is a store; kinds 0 and 2, fetches, are tested alike
unfoldable pub translated_as : List ℕ → Host → ℕ → ℕ → Verdict → Answer Translated
translated_as r h a kind (Err number) = Err number
translated_as r h a kind (Ok _) =
    cond (entry_good (guest_of r) && translates (cpu_of r))
    (translated_to (guest_of r) h (cpu_of r) (wrap (cpu_of r) a) (access (guest_of r) (view (guest_of r) h) (cpu_of r) (eqb kind 1) (wrap (cpu_of r) a)))
    (Ok translated.Validity)

-- takes any 32-bit address
unfoldable pub translate : List ℕ → Host → ℕ → ℕ → Answer Translated
translate r h a kind = translated_as r h a kind (translate_verdict r h.storage h.keys kind)

-- run

-- what a run answers, with the table of its host fault, and what it leaves behind
pub record Result : Type 0 where
  pub answer : RunAnswer
  pub table : Sought
  pub description : List ℕ
  pub storage : List ℕ
  pub keys : List ℕ

-- bytes 52-65 are zero except as the end says
unfoldable pub result_of : Numbers → Ended → Result
result_of n e = record {
  answer = run_answer e.end e.units;
  table = end_sought n.designation e.machine.storage e.end;
  description = with_results (end_results e.end) e.machine.description;
  storage = e.machine.storage;
  keys = e.machine.keys;
}

-- the machine as a run finds it, bytes 52-65 cleared
unfoldable pub machine_of : Numbers → List ℕ → List ℕ → List ℕ → Machine
machine_of n r storage keys = record {
  description = with_results (end_results BudgetUsed) r;
  clock = n.clock;
  storage = storage;
  keys = keys;
}

-- entry comes first, once; a refusal and an entry failure change nothing else
unfoldable pub run_as : Numbers → List ℕ → List ℕ → List ℕ → Verdict → Result
run_as n r storage keys (Err number) = record {
  answer = Err number;
  table = nowhere;
  description = r;
  storage = storage;
  keys = keys;
}
run_as n r storage keys (Ok _) =
    cond (entry_good (guest_of r)) (result_of n (run n.budget n (machine_of n r storage keys)))
    (result_of n (record { end = Intercepted Validity; units = 0; machine = machine_of n r storage keys }))

unfoldable pub run_of : Numbers → List ℕ → List ℕ → List ℕ → Result
run_of n r storage keys = run_as n r storage keys (run_verdict n r storage keys)
