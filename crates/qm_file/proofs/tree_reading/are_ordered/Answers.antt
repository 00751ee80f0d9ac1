use Rattle.std.proofs.Common.{sym}
use Rattle.qm_formats.specs.FileLayout.{are_ordered}
use Rattle.qm_file.proofs.NumberedTest.{ordered_answer}
use Rattle.qm_file.proofs.tree_reading.are_ordered.Goals as goal

pub returns : goal.returns
unfolding are_ordered
returns c = ordered_answer c.are_numbered.result c.args.nodes.now c.args.leaves _ c.requires (sym c.if-not-name_planes.ensures) c.are_numbered.ensures
