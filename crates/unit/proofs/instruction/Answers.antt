-- `unit::instruction` meets its contract.
use mathlib.Core.Path.{refl}
use Rattle.machine.specs.Host.{host}
use Rattle.text.proofs.Order.{fetch_failed}
use Rattle.unit.proofs.Order.{fetch_halts}
use Rattle.unit.proofs.Foretelling.{comes_left, fetch_comes}
use Rattle.unit.proofs.instruction.Goals as goal

pub returns-in-Some : goal.returns-in-Some
returns-in-Some c =
    let a = c.args in
    let fetched = c.fetch-fetched in
    let text = fetched.ensures.fetched_as a.cpu a.clock refl refl in
    comes_left a.shut (host a.designation _ _) a.guest a.cpu _ c.excepted.result
    (λ f word. fetch_halts a.guest (host a.designation _ _) word a.clock a.cpu fetched.result.opcode fetched.result.reading text c.in-Some.f c.in-Some.is)
    (fetch_failed (host a.designation _ _) a.guest a.clock a.cpu fetched.result.opcode fetched.result.reading c.excepted.result
    text c.in-Some.f c.in-Some.is (λ x standing. c.excepted.ensures a.clock x standing))

pub returns-in-None : goal.returns-in-None
returns-in-None c =
    let a = c.args in
    let fetched = c.fetch-fetched in
    fetch_comes a.shut (host a.designation _ _) a.guest a.clock a.cpu fetched.result.opcode fetched.result.reading c.decoded.result
    (fetched.ensures.fetched_as a.cpu a.clock refl refl) c.in-None.is (λ x standing. c.decoded.ensures x standing)
