-- `inspect::translate_xa` meets its contract. Entry fails where the guest does not lie in the host's 2 GiB; else the byte is looked for.
use mathlib.Core.Path.{◌∙◌}
use Rattle.machine.specs.Operations.{translated_as}
use Rattle.inspect.proofs.Accepting.{translated_length, translated_keys, entry_is, xa_translates}
use Rattle.inspect.proofs.translate_xa.Goals as goal

pub guest_of-guest-requires : goal.guest_of-guest-requires
guest_of-guest-requires c = translated_length _ _ _ _ c.requires.1

pub returns-then-not-place_good : goal.returns-then-not-place_good
unfolding translated_as
returns-then-not-place_good c =
    rw (entry_is c.args.r.now c.guest_of-guest.ensures c.requires.0 c.place_good.ensures, c.if-not-place_good.true)

pub psw_of-psw-requires : goal.psw_of-psw-requires
psw_of-psw-requires c = translated_length _ _ _ _ c.requires.1

pub translate_good-requires : goal.translate_good-requires
translate_good-requires c =
    let guest = c.guest_of-guest.ensures in
    record {
      input = (translated_length _ _ _ _ c.requires.1, translated_keys _ _ _ _ c.requires.1);
      guest = (
        guest,
        c.psw_of-psw.ensures,
        entry_is _ guest c.requires.0 c.place_good.ensures ∙ c.if-not-place_good.false,
        xa_translates c.args.r.now c.requires.0,
      );
    }

pub returns : goal.returns
returns c = c.translate_good.ensures
