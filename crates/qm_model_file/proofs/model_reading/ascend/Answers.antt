use Rattle.std.proofs.Common.{sym, ◌∙◌, arith}
use Rattle.qm_model_layout.proofs.AscendingLeaves.{too_low, too_high, next_ascends, all_ascend}
use Rattle.qm_model_file.proofs.model_reading.ascend.Goals as goal
use Rattle.qm_model_file.proofs.model_reading.ascend.Goals.{then-leaf-least-via-then-leaf-least, then-leaf-least-via-else-leaf-least+then-leaf-limit}

pub returns-then-leaf-least : goal.returns-then-leaf-least
returns-then-leaf-least c =
    elim c.then-leaf-least.branch [
      | then-leaf-least-via-then-leaf-least w ↦ sym (c.loop-leaf.invariant ∙ too_low c.loop-leaf.least c.args.limit c.loop-leaf.leaf-index c.args.leaves.now (omega arith) w.if-leaf-least.true)
      | then-leaf-least-via-else-leaf-least+then-leaf-limit w ↦ sym (c.loop-leaf.invariant ∙ too_high c.loop-leaf.least c.args.limit c.loop-leaf.leaf-index c.args.leaves.now (omega arith) w.if-leaf-limit.true)
    ]

pub loop-leaf-preserved : goal.loop-leaf-preserved
loop-leaf-preserved c = c.loop-leaf.invariant ∙ next_ascends c.loop-leaf.least c.args.limit c.loop-leaf.leaf-index c.args.leaves.now (omega arith) c.if-leaf-least.false c.if-leaf-limit.false

pub returns : goal.returns
returns c = sym (c.loop-leaf.invariant ∙ all_ascend c.loop-leaf.least c.args.limit c.loop-leaf.leaf-index c.args.leaves.now (omega arith))
