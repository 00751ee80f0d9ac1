use Rattle.std.proofs.Common.{arith}
use Rattle.qm_compile.proofs.TreesRead.{fault_told}
use Rattle.qm_compile.proofs.tree_reading.read_bytes.Goals as goal

pub returns-in-Ok : goal.returns-in-Ok
returns-in-Ok c = let found = c.in-Ok.ensures.found in record { valid = found.0; bytes_are = found.1; fits = found.2 }

pub returns-in-Err : goal.returns-in-Err
returns-in-Err c = fault_told c.args.bytes.now (λ i. omega (arith, c.type_inv.bytes i)) c.in-Err.fault c.in-Err.ensures.exact c.no_tree.result c.no_tree.ensures
