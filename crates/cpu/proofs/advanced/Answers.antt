-- `cpu::advanced` meets its contract: an instruction address has 31 bits.
use Rattle.std.proofs.Common.{[], refl, arith}
use Rattle.std.proofs.lemmas.Bool.Decides.{nat_tests}
use Rattle.machine.specs.declared.Cpu.{Cpu}
use Rattle.cpu.proofs.advanced.Goals as goal

pub overflow_add-instruction_address : goal.overflow_add-instruction_address
overflow_add-instruction_address c =
    let k : Cpu = record { psw = c.args.psw; timer = 0; control = record { words = [] }; general = record { words = [] } } in
    grind (arith, nat_tests, c.instruction_address.ensures k refl)
