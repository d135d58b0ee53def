-- `lap::ended` meets its contract.
use Rattle.std.proofs.Common.{◌<◌, subst}
use Rattle.lap.proofs.ended.Goals as goal

pub returns : goal.returns
returns c =
    let (code, few) = c.code_of.ensures in
    (rw code, subst (λ n. n < 4) code few)
