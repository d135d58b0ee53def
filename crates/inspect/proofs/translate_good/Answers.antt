-- `inspect::translate_good` meets its contract: the byte is looked for.
use mathlib.Core.Path.{ap, ◌∙◌}
use borrow.Author.Tests.{lt-ltb}
use Rattle.std.specs.Prelude.{Ok}
use Rattle.machine.specs.Record.{cpu_of}
use Rattle.machine.specs.Entry.{entry_good}
use Rattle.machine.specs.Operations.{translated_as}
use Rattle.storage.proofs.Entering.{entered}
use Rattle.address.specs.Locating.{place_in}
use Rattle.inspect.specs.Answering.{answered}
use Rattle.inspect.proofs.Accepting.{answered_is, wrapped_is}
use Rattle.inspect.proofs.translate_good.Goals as goal

pub space_of-space-requires : goal.space_of-space-requires
space_of-space-requires c = entered _ (ap entry_good c.requires.guest.0 ∙ c.requires.guest.2)

pub locate-found-requires : goal.locate-found-requires
locate-found-requires c = c.requires.input.1

pub returns-then-found-lt-STOPPED : goal.returns-then-found-lt-STOPPED
unfolding translated_as answered place_in
returns-then-found-lt-STOPPED c =
    let controls = c.table_controls-control in
    let (guest, psw, good, translated) = c.requires.guest in
    let found = c.locate-found.ensures c.args.guest (cpu_of c.args.r.now) (c.space_of-space.ensures.1 _ psw controls.ensures.0 controls.ensures.1) in
    rw (
      good,
      translated,
      ← guest,
      answered_is,
      ← wrapped_is (cpu_of c.args.r.now) c.args.psw c.args.a _ psw c.wrapped-at.ensures,
      ← c.space_of-space.ensures.0,
      found,
      lt-ltb _ _ c.if-found-lt-STOPPED.true,
    )

pub returns : goal.returns
unfolding translated_as
returns c =
    let controls = c.table_controls-control in
    let (guest, psw, good, translated) = c.requires.guest in
    let sees = c.space_of-space.ensures.1 _ psw controls.ensures.0 controls.ensures.1 in
    let found = c.locate-found.ensures c.args.guest (cpu_of c.args.r.now) sees in
    rw (
      good,
      translated,
      ← guest,
      answered_is,
      ← wrapped_is (cpu_of c.args.r.now) c.args.psw c.args.a _ psw c.wrapped-at.ensures,
      ← c.space_of-space.ensures.0,
      found,
    )
    (ap Ok (c.failed.ensures c.args.guest (cpu_of c.args.r.now) sees _ _ found))
