-- `interval::find_word` meets its contract.
use Rattle.std.proofs.Common.{sym, refl, ◌∙◌, subst}
use Rattle.machine.specs.Host.{host, backing, host_page}
use Rattle.machine.specs.Run.{host_of}
use Rattle.interval.specs.Standing.{word_address, Short, Stands, InStorage}
use Rattle.interval.proofs.Behind.{word_stands, short_backing, word-in_storage}
use Rattle.interval.proofs.find_word.Goals as goal

pub word_in-requires : goal.word_in-requires
word_in-requires c =
    (c.requires, subst Short (sym (c.backing-page.ensures c.args.guest refl refl)) (short_backing c.args.guest c.args.designation c.args.storage.now _))

pub returns : goal.returns
unfolding host_of backing host_page
returns c =
    let page = c.backing-page.ensures c.args.guest refl refl in record {
      stands = λ n m designated same here.
          subst (Stands n m) (sym c.word_in.ensures)
          (word_stands n m c.args.guest here _ ((λ i. backing c.args.guest (host (designated i) (same i) m.keys) (word_address c.args.guest)) ∙ sym page));
      in_storage = subst (InStorage c.args.storage.now) (sym c.word_in.ensures) (word-in_storage c.args.guest c.args.designation c.args.storage.now _ (sym page));
    }
