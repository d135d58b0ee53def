-- `area::keep_frame` meets its contract.
use native.Mathlib.Omega.{arith}
use Rattle.machine.specs.Host.{host}
use Rattle.pages.proofs.Tabling.{tables_dropped}
use Rattle.area.proofs.Holding.{area_none, none_kept, frame_small, area_found}
use Rattle.area.proofs.keep_frame.Goals as goal

pub bounds-keys-frame : goal.bounds-keys-frame
bounds-keys-frame c =
    let x = c.args in
    (frame_small x.guest x.designation x.storage.now x.keys.now x.frame c.requires.2 c.requires.1).0

pub returns-then-keys-frame-ne3 : goal.returns-then-keys-frame-ne3
returns-then-keys-frame-ne3 c =
    let x = c.args in
    let both = none_kept x.guest x.designation x.storage.now x.keys.now x.guard.now x.kept.now in record { tables = both.0; area = both.1 }

pub returns-then-guard-frame-ne0 : goal.returns-then-guard-frame-ne0
returns-then-guard-frame-ne0 c =
    let x = c.args in record {
      tables = λ psw control.
          tables_dropped x.designation x.guest psw control x.storage.now x.keys.now x.guard.now _ x.kept.now _
          c.name_host.ensures.wider c.spare.ensures.0 c.spare.ensures.1;
      area = area_none _ x.guest (host x.designation x.storage.now x.keys.now) 2147483648 (omega arith);
    }

pub overflow_mul-result : goal.overflow_mul-result
overflow_mul-result c =
    let x = c.args in
    let small = frame_small x.guest x.designation x.storage.now x.keys.now x.frame c.requires.2 c.requires.1 in
    omega arith

pub returns : goal.returns
returns c =
    let x = c.args in record {
      tables = λ psw control.
          tables_dropped x.designation x.guest psw control x.storage.now x.keys.now x.guard.now _ x.kept.now _
          c.name_host.ensures.wider c.spare.ensures.0 c.spare.ensures.1;
      area = area_found x.guest x.designation x.storage.now x.keys.now x.frame c.requires.2 _ c.name_host.ensures.by_index c.if-keys-frame-ne3.false c.if-guard-frame-ne0.false;
    }
