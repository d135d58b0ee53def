-- `inspect::translate_other` meets its contract. Code 32 where entry fails or DAT is on in a System/370 guest; else the byte is looked for.
use mathlib.Core.Path.{ap, sym, ◌∙◌}
use Rattle.machine.specs.Entry.{entry_good}
use Rattle.machine.specs.Record.{cpu_of}
use Rattle.machine.specs.Operations.{translated_as}
use Rattle.inspect.proofs.Accepting.{translated_length, translated_long, translated_keys}
use Rattle.inspect.proofs.translate_other.Goals as goal

pub guest_of-guest-requires : goal.guest_of-guest-requires
guest_of-guest-requires c = translated_length _ _ _ _ c.requires

pub entry_good-requires : goal.entry_good-requires
entry_good-requires c = rw c.guest_of-guest.ensures (translated_long _ _ _ _ c.requires)

pub returns-then-not-entry_good : goal.returns-then-not-entry_good
unfolding translated_as
returns-then-not-entry_good c = rw (← c.guest_of-guest.ensures, ← c.entry_good.ensures, c.if-not-entry_good.true)

pub psw_of-psw-requires : goal.psw_of-psw-requires
psw_of-psw-requires c = translated_length _ _ _ _ c.requires

pub returns-then-not-translates : goal.returns-then-not-translates
unfolding translated_as
returns-then-not-translates c =
    rw (
      ← c.guest_of-guest.ensures,
      ← c.entry_good.ensures,
      c.if-not-entry_good.false,
      ← c.translates.ensures (cpu_of c.args.r.now) c.psw_of-psw.ensures,
      c.if-not-translates.true,
    )

pub translate_good-requires : goal.translate_good-requires
translate_good-requires c =
    let guest = c.guest_of-guest.ensures in
    record {
      input = (translated_length _ _ _ _ c.requires, translated_keys _ _ _ _ c.requires);
      guest = (
        guest,
        c.psw_of-psw.ensures,
        ap entry_good (sym guest) ∙ sym c.entry_good.ensures ∙ c.if-not-entry_good.false,
        sym (c.translates.ensures (cpu_of c.args.r.now) c.psw_of-psw.ensures) ∙ c.if-not-translates.false,
      );
    }

pub returns : goal.returns
returns c = c.translate_good.ensures
