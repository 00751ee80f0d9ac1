use Rattle.std.proofs.Common.{sym, ap}
use Rattle.qm_partition.specs.Tree.{Tree}
use Rattle.qm_partition.proofs.JoinedLeaves.{joined_keeps_contents}
use Rattle.qm_partition.proofs.JoinedCells.{joined_has_points}
use Rattle.qm_tree.proofs.tree.Tree.joined.Goals as goal

pub returns-clause-value : goal.returns-clause-value
returns-clause-value c = rw (← ap (λ (tree : Tree). tree.planes) c.self.view_is) (c.in_ok-tree.ensures c.args.self.shape (sym c.in_ok-walk.ensures))

pub returns-clause-contents : goal.returns-clause-contents
returns-clause-contents c = λ x. rw (returns-clause-value c) (joined_keeps_contents c.args.self.planes x c.args.self.shape)

pub returns-clause-points : goal.returns-clause-points
returns-clause-points c = λ points. rw (returns-clause-value c) (joined_has_points c.args.self.planes c.args.self.shape points)
