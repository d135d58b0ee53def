-- `paging::change_verdict` meets its contract.
use native.Mathlib.Omega.{arith}
use mathlib.Core.Path.{refl, sym, ◌∙◌}
use Rattle.std.proofs.lemmas.Result.{err_from_is_err_and}
use Rattle.refusals.specs.Parts.{first_refusal}
use Rattle.paging.proofs.Accepting.{outside_the_extent, not_in_reach, ready_to_change, verdict_by_state}
use Rattle.paging.proofs.change_verdict.Goals as goal

pub returns-then-p-pages : goal.returns-then-p-pages
returns-then-p-pages c = sym (outside_the_extent c.args.c c.args.first c.args.pages c.args.designation c.args.storage.now c.args.p c.if-p-pages.true)

pub returns-in_default : goal.returns-in_default
returns-in_default c = sym (not_in_reach c.args.c c.args.first c.args.pages c.args.designation c.args.storage.now c.args.p (omega arith) c.in_default.ensures)

pub word_at-requires : goal.word_at-requires
word_at-requires c = c.in-Some.ensures.fits

pub returns-in_err-state_verdict : goal.returns-in_err-state_verdict
unfolding first_refusal
returns-in_err-state_verdict c =
    let p = err_from_is_err_and c.from_residual.result c.from_residual.ensures.1 in
    rw (p.1, p.2) (rw (
      verdict_by_state c.args.c c.args.first c.args.pages c.args.designation c.args.storage.now c.args.p c.in-Some.place c.requires (omega arith) c.in-Some.ensures c.state_verdict.result
          (λ later. rw (← c.word_at.ensures, ← c.says_valid-valid.ensures) (c.state_verdict.ensures c.args.storage.now later refl)),
      c.in_err-state_verdict.was,
    ) refl)

pub entangled-requires : goal.entangled-requires
entangled-requires c =
    ready_to_change c.args.c c.args.first c.args.pages c.args.designation c.args.storage.now c.args.p c.in-Some.place c.requires (omega arith) c.in-Some.ensures c.state_verdict.result
    (λ later. rw (← c.word_at.ensures, ← c.says_valid-valid.ensures) (c.state_verdict.ensures c.args.storage.now later refl)) c.in_ok-state_verdict.was

pub returns-then-entangled : goal.returns-then-entangled
unfolding first_refusal
returns-then-entangled c =
    rw (
      verdict_by_state c.args.c c.args.first c.args.pages c.args.designation c.args.storage.now c.args.p c.in-Some.place c.requires (omega arith) c.in-Some.ensures c.state_verdict.result
          (λ later. rw (← c.word_at.ensures, ← c.says_valid-valid.ensures) (c.state_verdict.ensures c.args.storage.now later refl)),
      c.in_ok-state_verdict.was,
      ← c.entangled.ensures,
      c.if-entangled.true,
    ) refl

pub returns : goal.returns
unfolding first_refusal
returns c =
    rw (
      verdict_by_state c.args.c c.args.first c.args.pages c.args.designation c.args.storage.now c.args.p c.in-Some.place c.requires (omega arith) c.in-Some.ensures c.state_verdict.result
          (λ later. rw (← c.word_at.ensures, ← c.says_valid-valid.ensures) (c.state_verdict.ensures c.args.storage.now later refl)),
      c.in_ok-state_verdict.was,
      ← c.entangled.ensures,
      c.if-entangled.false,
    ) refl
