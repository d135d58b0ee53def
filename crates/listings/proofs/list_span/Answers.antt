-- `listings::list_span` meets its contract.
use native.Mathlib.Omega.{arith}
use mathlib.Core.Path.{◌≡◌, refl, sym, ap, ◌∙◌}
use mathlib.Core.Bool.{cond}
use borrow.Author.Count.{below_more}
use lib.ListN.{get_or, length}
use lib.Seq.{get_or-set_same, get_or-set_other}
use Rattle.desk.specs.Extent.{count_below}
use Rattle.tables.specs.Tabling.{entry_at, word_valid, word_shown}
use Rattle.listings.proofs.Listing.{count_more, count_few, count_by_table, words_of_span, counts}
use Rattle.listings.proofs.list_span.Goals as goal

pub loop-k-init : goal.loop-k-init
unfolding count_below
loop-k-init c = (refl, λ j h. absurd (omega arith))

pub overflow_add-valid : goal.overflow_add-valid
overflow_add-valid c =
    let few = count_few c.loop-k.k (λ j. word_valid (entry_at c.entries_of-entries.result.now j)) in
    omega (arith, few, c.loop-k.invariant.0, (counts c.says_valid.result).1, c.from-valid.ensures, c.entries_of-entries.ensures.few)

pub loop-k-preserved : goal.loop-k-preserved
loop-k-preserved c =
    let loop = c.loop-k in
    let entries = c.entries_of-entries.result.now in
    let entry : c.from_be_bytes-entry.result ≡ entry_at entries loop.k = c.from_be_bytes-entry.ensures in
    let valid : c.from-valid.result ≡ cond (word_valid (entry_at entries loop.k)) 1 0 =
    c.from-valid.ensures ∙ (counts c.says_valid.result).0 ∙ ap (λ b. cond b 1 0) (c.says_valid.ensures ∙ ap word_valid entry) in (
      rw (loop.invariant.0, valid) (sym (count_more loop.k (λ j. word_valid (entry_at entries j)))),
      below_more (λ j. get_or _ j 0 ≡ word_shown (entry_at entries j)) loop.k
          (λ j h. get_or-set_other loop.words loop.k j _ 0 (λ e. omega arith) ∙ loop.invariant.1 j h)
          (get_or-set_same loop.words loop.k _ 0 (omega (arith, c.entries_of-entries.ensures.few)) ∙ c.shown.ensures ∙ ap word_shown entry),
    )

pub returns : goal.returns
returns c =
    let s = c.args.host.storage.now in
    let span = c.args.span in
    let entries = c.entries_of-entries.result.now in
    let told = c.entries_of-entries.ensures in
    let loop = c.loop-k in
    let all : loop.k ≡ length entries = omega arith in
    let size : length loop.words ≡ length c.args.words.now = omega arith in (
      loop.invariant.0
          ∙ ap (λ n. count_below n (λ j. word_valid (entry_at entries j))) all
          ∙ count_by_table c.args.host.designation s span.from span.to entries told (length c.args.words.now) c.requires,
      λ k h. words_of_span c.args.host.designation s span.from span.to entries told loop.words c.fill.new.self (omega arith)
          (λ j low. loop.invariant.1 j (omega arith)) (c.fill.ensures.after (λ y e. e)) k (omega arith),
    )
