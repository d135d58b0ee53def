-- `drevokas::drevokas_run` meets its contract.
use Rattle.drevokas.proofs.Running.{run-packed}
use Rattle.drevokas.proofs.drevokas_run.Goals as goal

pub returns : goal.returns
returns c =
    run-packed _ _ _ _ c.run_verdict-v.result c.run_verdict-v.ensures c.run_as-a.result c.run_as-a.ensures
    c.table_of-table.result c.table_of-table.ensures _ c.pack_answer.ensures c.place_after_run.ensures
