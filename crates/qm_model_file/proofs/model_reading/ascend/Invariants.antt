use Rattle.std.proofs.Common.{◌≡◌, drop}
use Rattle.qm_model_layout.specs.ModelLayout.{ascend_from}
use Rattle.qm_model_file.proofs.model_reading.ascend.Given as goal

-- all ascend where the others do
abbrev pub invariant-loop-leaf : goal.invariant-loop-leaf
invariant-loop-leaf l = ascend_from 0 l.limit l.leaves ≡ ascend_from l.least l.limit (drop l.leaf-index l.leaves)
