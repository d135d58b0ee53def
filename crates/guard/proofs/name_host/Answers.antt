-- `guard::name_host` meets its contract.
use Rattle.guard.proofs.Guarded.{host-named_one, host-named_two}
use Rattle.guard.proofs.name_host.Goals as goal

pub returns-then-at-storage : goal.returns-then-at-storage
returns-then-at-storage c =
    let both = host-named_two c.args.guard.now c.args.designation c.args.storage.now c.args.a _ c.told-guard c.name_frame.ensures _
    c.word_at-entry.result
    c.word_at-entry.ensures
    c.name_frame-then-at-storage.ensures in record { wider = both.0; by_index = both.1 }

pub returns-else-at-storage : goal.returns-else-at-storage
returns-else-at-storage c =
    let both = host-named_one c.args.guard.now c.args.designation c.args.storage.now c.args.a _ c.told-guard c.name_frame.ensures
    c.if-at-storage.false in record { wider = both.0; by_index = both.1 }
