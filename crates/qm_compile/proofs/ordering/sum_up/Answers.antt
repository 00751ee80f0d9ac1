use Rattle.qm_statement.specs.DemoComesOf.{summed_up}
use Rattle.qm_compile.proofs.Orders.{untouched}
use Rattle.qm_compile.proofs.ordering.sum_up.Goals as goal

pub returns-in-Ok : goal.returns-in-Ok
returns-in-Ok g c shelf = record { due = summed_up c.in-Ok.ensures (untouched shelf); memory = tt }

pub returns-in-Err : goal.returns-in-Err
returns-in-Err g c shelf = record { due = tt; memory = untouched shelf }
