use Rattle.std.proofs.Common.{◌+◌, ℕ, suc, length, ap, ◌∙◌, arith}
use Rattle.qm_convex.specs.Rotation.{rotated_list}
use Rattle.qm_wind.proofs.Arcs.{rotated_length, turned_further}
use Rattle.qm_wind.proofs.circle.turn.Goals as goal

pub rotate-requires-in-loop-step : goal.rotate-requires-in-loop-step
rotate-requires-in-loop-step g c =
    let n = ap length c.loop-step.invariant.items ∙ rotated_length c.args.list.now.items c.loop-step._step in
    omega (arith, c.loop-step-test.true, c.requires.start_in_range)

pub loop-step-preserved : goal.loop-step-preserved
loop-step-preserved g c = record {
  items = c.rotate-in-loop-step.ensures.items ∙ ap (rotated_list 1) c.loop-step.invariant.items
      ∙ turned_further c.args.list.now.items c.loop-step._step (omega arith)
      ∙ ap (λ (k : ℕ). rotated_list k c.args.list.now.items) {x = suc c.loop-step._step} {y = c.loop-step._step + 1} (omega arith);
  capacity = c.rotate-in-loop-step.ensures.capacity ∙ c.loop-step.invariant.capacity;
}
