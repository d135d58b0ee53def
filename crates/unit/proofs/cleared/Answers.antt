-- `unit::cleared` meets its contract.
use Rattle.machine.specs.Host.{host}
use Rattle.unit.proofs.Foretelling.{cleared_told, cleared-done}
use Rattle.unit.proofs.cleared.Goals as goal

pub returns-then-foretells : goal.returns-then-foretells
returns-then-foretells c =
    let told = c.foretells in
    let a = c.args in
    λ x standing.
    cleared_told a.shut (host a.designation _ _) a.guest a.cpu a.class c.with_psw.result x standing told.ensures.0 told.ensures.1
    c.if-foretells.true c.with_psw.ensures.0

pub returns : goal.returns
returns c =
    let told = c.foretells in
    let a = c.args in
    λ x standing.
    cleared-done a.shut (host a.designation _ _) a.guest a.cpu a.class c.perform.result x standing told.ensures.0 told.ensures.1
    c.if-foretells.false (c.perform.ensures x standing)
