use Rattle.std.proofs.Common.{arith}
use Rattle.qm_partition.proofs.Counts.{nodes-count}
use Rattle.qm_tree.proofs.tree.Tree.nodes.Goals as goal

pub returns : goal.returns
returns c = rw (← c.self.view_is) (omega (arith, nodes-count _ _ _ c.self.invariant.numbered))
