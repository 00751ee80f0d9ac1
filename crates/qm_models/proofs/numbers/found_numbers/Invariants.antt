use Rattle.std.specs.Prelude.{take}
use Rattle.qm_outlines.specs.Outlines.{AreFoundNumbers}
use Rattle.qm_models.proofs.numbers.found_numbers.Given as goal

abbrev pub invariant-loop-leaf : goal.invariant-loop-leaf
invariant-loop-leaf l = AreFoundNumbers l.world.tree (take l.leaf-index l.leaves) l.numbers.items
