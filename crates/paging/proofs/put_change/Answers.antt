-- `paging::put_change` meets its contract.
use Rattle.desk.specs.Desk.{storage_after}
use Rattle.tables.specs.Tabling.{PageThere}
use Rattle.paging.proofs.Meeting.{there}
use Rattle.paging.proofs.put_change.Goals as goal

pub unwrap-at-requires : goal.unwrap-at-requires
unwrap-at-requires c = there _ _ c.args.page _ c.entry_at.ensures c.requires.1.0

pub word_at-entry-requires : goal.word_at-entry-requires
word_at-entry-requires c = let told : PageThere c.args.designation c.args.storage.now c.args.page c.unwrap-at.result = rw c.unwrap-at.ensures at c.entry_at.ensures in told.fits

pub put_word-requires : goal.put_word-requires
put_word-requires c = let told : PageThere c.args.designation c.args.storage.now c.args.page c.unwrap-at.result = rw c.unwrap-at.ensures at c.entry_at.ensures in told.fits

pub returns : goal.returns
unfolding storage_after
returns c =
    let told : PageThere c.args.designation c.args.storage.now c.args.page c.unwrap-at.result = rw c.unwrap-at.ensures at c.entry_at.ensures in
    rw (c.put_word.ensures, c.entry_after.ensures, c.word_at-entry.ensures, ← told.place)
