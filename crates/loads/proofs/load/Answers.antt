-- `loads::load` meets its contract.
use native.Mathlib.Omega.{arith}
use mathlib.Core.Path.{refl, ap, ◌∙◌}
use Rattle.machine.specs.Host.{host}
use Rattle.machine.specs.Execute.{load}
use Rattle.machine.specs.Words.{word_at}
use Rattle.words.proofs.Numbers.{word_from_bytes}
use Rattle.loads.proofs.Fetching.{general_loaded, fetch_shut, fetch_open}
use Rattle.loads.proofs.load.Goals as goal

pub reach-requires : goal.reach-requires
reach-requires c =
    record { ready = c.requires; a_value = (c.indexed_address-a.ensures.0 c.args.cpu refl, omega arith, omega arith) }

pub returns-in-Err : goal.returns-in-Err
unfolding load
returns-in-Err c =
    λ clock x standing.
    fetch_shut (host c.args.designation _ _) x standing c.indexed_address-a.ensures (omega arith) (omega arith) refl
    _ _ _ c.in-Err.done (c.in-Err.ensures.reaches x clock standing)

pub returns : goal.returns
unfolding load
returns c =
    λ clock x standing.
    fetch_open (host c.args.designation _ _) x standing c.indexed_address-a.ensures (omega arith) (omega arith) refl
    _ _ _ c.with_general.result c.in-Ok.o (c.in-Ok.ensures.reaches x clock standing) c.with_general.ensures.0
    (general_loaded _ x standing _ _ _ _ c.with_general.ensures.1 c.advanced-psw.ensures (c.from_be_bytes-value.ensures ∙ word_from_bytes _ ∙ ap (λ bytes. word_at bytes 0) c.operand.ensures))
